-- How the code lays what sealing writes: piece by piece.
use Rattle.std.specs.Prelude.{ℕ, ◌+◌, false, cond, List, [], ◌∷◌, length, drop, Option, Some, None}
use Rattle.std.proofs.Math.Seq.{slice}
use Rattle.syntax.specs.Opening.{earlier}
use Rattle.syntax.specs.declared.Version.{Version}
use Rattle.syntax.specs.Refusals.{at_zero}
use Rattle.syntax.specs.Octets.{all_pass}
use Rattle.syntax.specs.Service.{serves}
use Rattle.syntax.specs.Content.{content}
use Rattle.syntax.specs.Scanning.{number_in}
use Rattle.syntax.specs.Cutting.{stop_from}
use Rattle.syntax.specs.Segment.{component_at, part_of}
use Rattle.syntax.specs.Tree.{print}
use Rattle.syntax.specs.declared.Service.{Service}
use Rattle.syntax.specs.declared.Syntax.{Syntax}
use Rattle.grammar.specs.Lists.{list}
use Rattle.grammar.specs.Interchange.{show_header, show_trailer}
use Rattle.walk.specs.declared.sections.Layout.{Layout}
use Rattle.writing.specs.Decimal.{decimal_of}
use Rattle.writing.specs.Laid.{together}
use Rattle.writing.specs.Written.{Text, text, no_text}
use Rattle.weaving.specs.Seals.{new_header, new_trailer, length_right, text_by, may_write}

-- ---- the new groups, printed

unfoldable pub header_text : Service → List ℕ → ℕ → List ℕ
header_text σ r f = print σ (list (show_header (new_header r f)))

unfoldable pub trailer_text : Version → Service → List ℕ → List ℕ → List ℕ
trailer_text v σ r t = print σ (list (show_trailer (new_trailer v σ r t)))

-- a text with its service characters released
abbrev pub released_text : Service → List ℕ → List ℕ
released_text σ [] = []
released_text σ (b ∷ t) = let r : List ℕ = released_text σ t in cond (serves σ b) (σ.release ∷ b ∷ r) (b ∷ r)

-- the pieces of the new groups, octet by octet as the code writes them: 85 83 72 is USH, 85 83 65 USA, 85 83 84 UST, 85 83 82 USR; 49 is 1, 50 is 2,
-- 52 is 4, 49 54 is 16
abbrev pub header_pieces : Service → List ℕ → ℕ → List (List ℕ)
header_pieces σ r f =
    (85 ∷ 83 ∷ 72 ∷ σ.element ∷ 49 ∷ σ.element ∷ [])
    ∷ r
    ∷ (σ.element ∷ 49 ∷ σ.element ∷ 49 ∷ σ.element ∷ [])
    ∷ decimal_of f
    ∷ (σ.element ∷ 50 ∷ σ.element ∷ 49 ∷ σ.terminator ∷ [])
    ∷ (85 ∷ 83 ∷ 65 ∷ σ.element ∷ 49 ∷ σ.component ∷ σ.component ∷ σ.component ∷ 49 ∷ 54 ∷ σ.component ∷ 49 ∷ σ.terminator ∷ [])
    ∷ []

-- what ends UST behind REF, and what stands in USR before VALUE, by the edition
abbrev pub ust_end : Version → Service → List ℕ
ust_end v σ = cond (earlier v) (σ.terminator ∷ []) (σ.element ∷ 52 ∷ σ.terminator ∷ [])

abbrev pub usr_open : Version → Service → List ℕ
usr_open v σ = cond (earlier v) (85 ∷ 83 ∷ 82 ∷ σ.element ∷ []) (85 ∷ 83 ∷ 82 ∷ σ.element ∷ 49 ∷ σ.component ∷ [])

abbrev pub trailer_pieces : Version → Service → List ℕ → List ℕ → List (List ℕ)
trailer_pieces v σ r t =
    (85 ∷ 83 ∷ 84 ∷ σ.element ∷ [])
    ∷ r
    ∷ ust_end v σ
    ∷ usr_open v σ
    ∷ released_text σ t
    ∷ (σ.terminator ∷ [])
    ∷ []

-- ---- UNT with 0074 grown by 4, and all behind it, where UNT stands at p

abbrev pub count_by : Option ℕ → ℕ
count_by (Some n) = n + 4
count_by None = 4

abbrev pub count_at : Service → List ℕ → ℕ → ℕ
count_at σ s p = count_by (number_in (content σ.release (part_of s (component_at σ s p 1 0))))

abbrev pub end_by : List ℕ → Option ℕ → ℕ
end_by s (Some e) = e
end_by s None = length s

-- where 0074 ends
abbrev pub count_end : Service → List ℕ → ℕ → ℕ
count_end σ s p = end_by s (stop_from σ 4 false (drop (p + 4) s) (p + 4))

abbrev pub rest_pieces : Service → List ℕ → ℕ → List (List ℕ)
rest_pieces σ s p = slice p (p + 4) s ∷ decimal_of (count_at σ s p) ∷ slice (count_end σ s p) (length s) s ∷ []

-- ---- the whole

abbrev pub octets_pieces : Service → List ℕ → Layout → List ℕ → ℕ → List (List ℕ)
octets_pieces σ s c r f = header_text σ r f ∷ slice c.body c.tail s ∷ []

abbrev pub sealed_pieces : Version → Service → List ℕ → Layout → List ℕ → ℕ → List ℕ → List (List ℕ)
sealed_pieces v σ s c r f t =
    slice 0 c.heads s ∷ header_text σ r f ∷ slice c.heads c.unt s ∷ trailer_text v σ r t ∷ together (rest_pieces σ s c.unt) ∷ []

-- or 14, where the text of VALUE can't be written
abbrev pub woven_or : Syntax → List ℕ → Layout → List ℕ → ℕ → List ℕ → Text
woven_or y s c r f t = cond (all_pass (may_write y) t) (text (together (sealed_pieces y.version y.service s c r f t))) (no_text (at_zero 14))

-- or 16, where its length is not allowed
abbrev pub sized_or : Syntax → List ℕ → Layout → List ℕ → ℕ → List ℕ → Text
sized_or y s c r f v = cond (length_right y.version f v) (woven_or y s c r f (text_by f v)) (no_text (at_zero 16))
