-- Cutting an input into segments.
use Rattle.std.specs.Prelude.{ℕ, suc, List, [], ◌∷◌, Bool, false, cond, ◌&&◌, ◌||◌, eqb, leb, drop, Option, Some, None}
use Rattle.syntax.specs.Service.{kind}
use Rattle.syntax.specs.Repertoire.{tag_octet, outside}
use Rattle.syntax.specs.declared.Service.{Service}
use Rattle.syntax.specs.declared.Syntax.{Syntax}

-- the place of the first octet of kind n or above; `i` is the place of the list's head.
-- With n = 5: "A segment ends at the first terminator that isn't released."
abbrev pub stop_from : Service → ℕ → Bool → List ℕ → ℕ → Option ℕ
stop_from σ n f [] i = None
stop_from σ n f (b ∷ s) i = cond (leb n (kind σ f b)) (Some i) (stop_from σ n (eqb (kind σ f b) 0) s (suc i))

-- the end of the segment that starts at a place: its terminator. The pieces of a segment (Segment.antt) end there too: `SegmentLaws.Pieces-end`.
-- The reader's chain (Reader.antt) opens a segment that ends there, and has octets left where there is no end: `turn-bad`, `turn-good` and
-- `turn-left` of `TurnLaws` in the crate `turns`, for any octets; `ReaderLaws.cut-exact` says it of a whole input
abbrev pub end_at : Service → List ℕ → ℕ → Option ℕ
end_at σ s a = stop_from σ 5 false (drop a s) a

-- all ends of an input, in one pass
abbrev pub ends : Service → Bool → List ℕ → ℕ → List ℕ
ends σ f [] i = []
ends σ f (b ∷ s) i = let r : List ℕ = ends σ (eqb (kind σ f b) 0) s (suc i) in cond (leb 5 (kind σ f b)) (i ∷ r) r

-- the first octet of a stretch that is outside the repertoire
abbrev pub first_outside : Syntax → List ℕ → ℕ → Option ℕ
first_outside y [] i = None
first_outside y (b ∷ s) i = cond (outside y b) (Some i) (first_outside y s (suc i))

-- "A tag is three octets A to Z or 0 to 9, then an element separator or the terminator."
-- The reader's `cut` (Reader.antt) gives a segment just where this gives its tag: `TurnLaws.turn-good`, and none where it is Bad: `TurnLaws.turn-bad`
abbrev pub tag_of : Service → List ℕ → Option (ℕ × ℕ × ℕ)
tag_of σ [] = None
tag_of σ (a ∷ []) = None
tag_of σ (a ∷ b ∷ []) = None
tag_of σ (a ∷ b ∷ c ∷ []) = None
tag_of σ (a ∷ b ∷ c ∷ d ∷ s) =
    cond (tag_octet a && tag_octet b && tag_octet c && (eqb d σ.element || eqb d σ.terminator)) (Some (a, b, c)) None
