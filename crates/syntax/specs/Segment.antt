-- Reading a segment: its pieces, and its elements and components by them. Elements and components are counted from 0; the tag is element 0.
use Rattle.std.specs.Prelude.{ℕ, zero, suc, ◌≡◌, List, [], ◌∷◌, Bool, true, false, cond, ◌||◌, eqb, ltb, drop, get_or, Option, Some, None}
use Rattle.std.proofs.Math.Seq.{slice}
use Rattle.syntax.specs.Service.{kind_of, kind}
use Rattle.syntax.specs.Cutting.{stop_from}
use Rattle.syntax.specs.declared.Service.{Service}

-- a piece: its start, its end, and what ends it: 2 a component, 3 a repeat, 4 an element, 5 the segment
pub data Piece : Type 0 where
  piece : ℕ → ℕ → ℕ → Piece

-- the pieces of a segment, tag first; the last ends at the segment's end (`end_at`): `SegmentLaws.Pieces-end`. What is read by them is what the
-- tree has of a printed segment: `BridgeLaws.bridge`. `a` is where the piece now open starts, `i` the place of the list's head
abbrev pub pieces : Service → Bool → ℕ → List ℕ → ℕ → List Piece
pieces σ f a [] i = []
pieces σ f a (b ∷ s) i =
    let rest : List Piece = pieces σ (eqb (kind σ f b) 0) (cond (ltb (kind σ f b) 2) a (suc i)) s (suc i) in
    cond (ltb (kind σ f b) 2) rest (piece a i (kind σ f b) ∷ cond (eqb (kind σ f b) 5) [] rest)

abbrev pub pieces_at : Service → List ℕ → ℕ → List Piece
pieces_at σ s a = pieces σ false a (drop a s) a

-- the end of the piece that starts at a place, and what ends it
abbrev pub edge_of : Service → List ℕ → Option ℕ → Option (ℕ × ℕ)
edge_of σ s (Some q) = Some (q, kind_of σ (get_or s q 0))
edge_of σ s None = None

abbrev pub edge_at : Service → List ℕ → ℕ → Option (ℕ × ℕ)
edge_at σ s p = edge_of σ s (stop_from σ 2 false (drop p s) p)

-- the pieces from element e on
abbrev pub at_element : ℕ → List Piece → List Piece
at_element zero ps = ps
at_element (suc e) [] = []
at_element (suc e) (piece x z k ∷ ps) = cond (eqb k 4) (at_element e ps) (at_element (suc e) ps)

-- component c of the repeat that starts here
abbrev pub at_component : ℕ → List Piece → Option (ℕ × ℕ)
at_component c [] = None
at_component zero (piece x z k ∷ ps) = Some (x, z)
at_component (suc c) (piece x z k ∷ ps) = cond (eqb k 2) (at_component c ps) None

-- is component c of element e there, where does it start and end
abbrev pub component_at : Service → List ℕ → ℕ → ℕ → ℕ → Option (ℕ × ℕ)
component_at σ s a e c = at_component c (at_element e (pieces_at σ s a))

-- its octets; absent is empty
abbrev pub part_of : List ℕ → Option (ℕ × ℕ) → List ℕ
part_of s (Some (x, z)) = slice x z s
part_of s None = slice 0 0 s

-- how many components has the repeat that starts here
abbrev pub components : List Piece → ℕ
components [] = 0
components (piece x z k ∷ ps) = let r : ℕ = components ps in cond (eqb k 2) (suc r) 1

-- does the element that starts here repeat
abbrev pub repeats : List Piece → Bool
repeats [] = false
repeats (piece x z k ∷ ps) = cond (eqb k 3) true (cond (eqb k 2) (repeats ps) false)

-- how many elements, the tag not counted
abbrev pub elements : List Piece → ℕ
elements [] = 0
elements (piece x z k ∷ ps) = let r : ℕ = elements ps in cond (eqb k 4) (suc r) r

-- does anything in the segment repeat
abbrev pub any_repeats : List Piece → Bool
any_repeats [] = false
any_repeats (piece x z k ∷ ps) = cond (eqb k 3) true (any_repeats ps)

-- a place from which just these pieces are read; Nothing: there are none
abbrev pub Reaches : Service → List ℕ → Option ℕ → List Piece → Type 0
Reaches σ s (Some p) ps = pieces_at σ s p ≡ ps
Reaches σ s None ps = [] ≡ ps
