-- How the code cuts and reads: a segment's end with what is outside in it, four octets at once, the next octet of content.
use Rattle.std.specs.Prelude.{ℕ, suc, ◌+◌, ◌-◌, ◌<◌, List, [], ◌∷◌, ◌≡◌, cond, ◌&&◌, length, Option, Some, None}
use Rattle.std.proofs.Math.Seq.{slice}
use Rattle.syntax.specs.Repertoire.{outside}
use Rattle.syntax.specs.declared.Syntax.{Syntax}
use Rattle.syntax.specs.declared.cutting.Cut.{Cut}
use Rattle.syntax.specs.declared.cutting.Cut.TheVariants.{Ends, Spoilt, Open}
use Rattle.syntax.specs.Cutting.{end_at, first_outside}
use Rattle.syntax.specs.Classes.{end_class}
use Rattle.syntax.specs.Octets.{within}
use Rattle.syntax.specs.Content.{releases, all_digits, value_from}

-- a segment's end, and its first octet outside, tag to terminator
abbrev pub cut_by : Option ℕ → Option ℕ → Cut
cut_by None x = Open
cut_by (Some e) None = Ends e
cut_by (Some e) (Some b) = Spoilt e b

abbrev pub stretch : List ℕ → ℕ → Option ℕ → List ℕ
stretch s a (Some e) = slice a (suc e) s
stretch s a None = []

abbrev pub cut_at : Syntax → List ℕ → ℕ → Cut
cut_at y s a = cut_by (end_at y.service s a) (first_outside y (stretch s a (end_at y.service s a)) a)

-- r is the sum of the classes of four octets: where none of them stops a scan, the cut is the one from behind them
pub record Four (y : Syntax) (s : List ℕ) (i r : ℕ) : Type 0 where
  pub passes : r < end_class → cut_at y s (i + 4) ≡ cut_at y s i

-- its first octet, and the place after that one; `i` is the place of the list's head
abbrev pub released : List ℕ → ℕ → Option (ℕ × ℕ)
released [] i = None
released (b ∷ s) i = Some (b, i + 1)

abbrev pub next_of : ℕ → List ℕ → ℕ → Option (ℕ × ℕ)
next_of ρ [] i = None
next_of ρ (b ∷ s) i = cond (releases ρ b) (released s (i + 1)) (Some (b, i + 1))

abbrev pub number_in : List ℕ → Option ℕ
number_in s = cond (all_digits s && within 1 15 (length s)) (Some (value_from 0 s)) None
