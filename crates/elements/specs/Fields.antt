-- What one pass over the pieces of a segment notes of it. Eight marks for an element: how many components its first repeat has, 1 if it
-- repeats, and start and end of each of its first three components.
use Rattle.elements.specs.declared.fields.Shape.{Shape}
use Rattle.std.specs.Prelude.{ℕ, suc, ◌+◌, ◌*◌, ◌-◌, ◌≤◌, ◌<◌, ◌≡◌, List, [], Bool, true, false, cond, ◌||◌, eqb, leb, ltb, length, get_or, set, Option, Some, None}
use Rattle.syntax.specs.Segment.{Piece, pieces_at, at_element, at_component, components, repeats, elements, any_repeats}
use Rattle.syntax.specs.Scanning.{cut_at}
use Rattle.syntax.specs.Clean.{sound}
use Rattle.syntax.specs.declared.Service.{Service}
use Rattle.syntax.specs.declared.Syntax.{Syntax}
use Rattle.syntax.specs.declared.cutting.Cut.TheVariants.{Ends}

-- what is left of a segment: nothing, or what is read from i
abbrev pub rest : Service → List ℕ → Bool → ℕ → List Piece
rest σ s ends i = cond ends [] (pieces_at σ s i)

-- from i to behind its element
pub record Passed (σ : Service) (s : List ℕ) (i : ℕ) (at : ℕ) (ends : Bool) (repeated : Bool) : Type 0 where
  pub next : at_element 1 (pieces_at σ s i) ≡ rest σ s ends at
  pub count : elements (pieces_at σ s i) ≡ cond ends 0 (suc (elements (rest σ s ends at)))
  pub any : any_repeats (pieces_at σ s i) ≡ (repeated || any_repeats (rest σ s ends at))
  pub on : ends ≡ false → (i < at) × (at ≤ length s)

-- the segment is cut on the way from i to at: nothing is outside, and the cut is the one from there, or the segment ends just before
pub record Through (y : Syntax) (s : List ℕ) (i : ℕ) (at : ℕ) (ends : Bool) : Type 0 where
  pub on : ends ≡ false → cut_at y s at ≡ cut_at y s i
  pub end : ends ≡ true → (1 ≤ at) × (cut_at y s i ≡ Ends (at - 1))

-- .. or it has no end, or an octet outside
abbrev pub PassedAs : Syntax → List ℕ → ℕ → Option (ℕ × Bool × Bool) → Type 0
PassedAs y s i (Some (at, ends, b)) = Passed y.service s i at ends b × Through y s i at ends
PassedAs y s i None = sound (cut_at y s i) ≡ false

-- the same of an element that repeats
abbrev pub repeating_as : Option (ℕ × Bool × Bool) → Option (ℕ × Bool × Bool)
repeating_as (Some (at, ends, b)) = Some (at, ends, true)
repeating_as None = None

-- behind an element whose first repeat ends at q, before a separator of kind k
pub record Again (y : Syntax) (s : List ℕ) (i : ℕ) (r : Option (ℕ × Bool × Bool)) : Type 0 where
  pub rest : Option (ℕ × Bool × Bool)
  pub passed : PassedAs y s i rest
  pub same : r ≡ repeating_as rest

pub record ClosedAs (y : Syntax) (s : List ℕ) (q k : ℕ) (r : Option (ℕ × Bool × Bool)) : Type 0 where
  pub again : k ≡ 3 → Again y s (q + 1) r
  pub once : (k ≡ 3 → ⊥) → r ≡ Some (q + 1, eqb k 5, false)

-- the marks of its number of components, and of whether it repeats
abbrev pub closed_marks : List ℕ → ℕ → ℕ → ℕ → List ℕ
closed_marks m b n k = set (set m b n) (b + 1) (cond (eqb k 3) 1 0)

-- the marks of component n
abbrev pub placed : List ℕ → ℕ → ℕ → ℕ → ℕ → List ℕ
placed m b n x z = cond (ltb n 3) (set (set m (b + 2 + 2 * n) x) (b + 2 + 2 * n + 1) z) m

-- the marks from b on tell of the element that starts with these pieces
pub record Noted (ps : List Piece) (m : List ℕ) (b : ℕ) : Type 0 where
  pub parts : get_or m b 0 ≡ components ps
  pub repeated : eqb (get_or m (b + 1) 0) 1 ≡ repeats ps
  pub spans : (c : ℕ) → c ≤ 2 → c < components ps → Some (get_or m (b + 2 + 2 * c) 0, get_or m (b + 2 + 2 * c + 1) 0) ≡ at_component c ps

abbrev pub Kept : ℕ → List ℕ → List ℕ → Type 0
Kept b m₀ m = (x : ℕ) → x < b → get_or m x 0 ≡ get_or m₀ x 0

-- the marks behind the eight from b on
abbrev pub Spared : ℕ → List ℕ → List ℕ → Type 0
Spared b m₀ m = (x : ℕ) → b + 8 ≤ x → get_or m x 0 ≡ get_or m₀ x 0

-- the element at i noted in the eight marks from b on; the others are as they were
pub record Taken (σ : Service) (s : List ℕ) (i : ℕ) (at : ℕ) (ends : Bool) (repeated : Bool) (m₀ m : List ℕ) (b : ℕ) : Type 0 where
  pub pass : Passed σ s i at ends repeated
  pub long : length m ≡ 40
  pub noted : Noted (pieces_at σ s i) m b
  pub kept : Kept b m₀ m
  pub spared : Spared b m₀ m

-- the same for the element with n before it, noted if it is one of the first five
pub record TakenOne (σ : Service) (s : List ℕ) (i : ℕ) (at : ℕ) (ends : Bool) (repeated : Bool) (m₀ m : List ℕ) (n : ℕ) : Type 0 where
  pub pass : Passed σ s i at ends repeated
  pub long : length m ≡ 40
  pub noted : n < 5 → Noted (pieces_at σ s i) m (8 * n)
  pub kept : Kept (8 * n) m₀ m
  pub spared : Spared (8 * n) m₀ m

abbrev pub TakenAs : Syntax → List ℕ → ℕ → Option (ℕ × Bool × Bool) → List ℕ → List ℕ → ℕ → Type 0
TakenAs y s i (Some (at, ends, c)) m₀ m b = Taken y.service s i at ends c m₀ m b × Through y s i at ends
TakenAs y s i None m₀ m b = (sound (cut_at y s i) ≡ false) × (length m ≡ 40)

abbrev pub TakenOneAs : Syntax → List ℕ → ℕ → Option (ℕ × Bool × Bool) → List ℕ → List ℕ → ℕ → Type 0
TakenOneAs y s i (Some (at, ends, c)) m₀ m n = TakenOne y.service s i at ends c m₀ m n × Through y s i at ends
TakenOneAs y s i None m₀ m n = (sound (cut_at y s i) ≡ false) × (length m ≡ 40)

-- no element from n on below p
pub record Cleared (m : List ℕ) (n p : ℕ) : Type 0 where
  pub room : length m ≡ 40
  pub none : (k : ℕ) → n ≤ k → k < p → (get_or m (8 * k) 0 ≡ 0) × (get_or m (8 * k + 1) 0 ≡ 0)

-- the marks tell of the first five elements after the tag
pub record Marked (σ : Service) (s : List ℕ) (a : ℕ) (m : List ℕ) : Type 0 where
  pub room : length m ≡ 40
  pub each : (p : ℕ) → p < 5 → Noted (at_element (suc p) (pieces_at σ s a)) m (8 * p)

pub record Fields (σ : Service) (s : List ℕ) (a : ℕ) (size : ℕ) (repeated : Bool) (m : List ℕ) : Type 0 where
  pub sizes : size ≡ elements (pieces_at σ s a)
  pub any : repeated ≡ any_repeats (pieces_at σ s a)
  pub marks : Marked σ s a m

-- one pass over the segment at a: its end and its fields; or it has no end, or an octet outside
abbrev pub FieldsAs : Syntax → List ℕ → ℕ → Option (ℕ × Shape) → List ℕ → Type 0
FieldsAs y s a (Some (e, f)) m = (cut_at y s a ≡ Ends e) × Fields y.service s a f.size f.repeats m
FieldsAs y s a None m = (sound (cut_at y s a) ≡ false) × (length m ≡ 40)

-- where component c of element p starts and ends by the marks; 0 and 0 if it is not there
abbrev pub start_in : List ℕ → ℕ → ℕ → ℕ
start_in m p c = cond (leb (get_or m (8 * (p - 1)) 0) c) 0 (get_or m (8 * (p - 1) + 2 + 2 * c) 0)

abbrev pub end_in : List ℕ → ℕ → ℕ → ℕ
end_in m p c = cond (leb (get_or m (8 * (p - 1)) 0) c) 0 (get_or m (8 * (p - 1) + 2 + 2 * c + 1) 0)
