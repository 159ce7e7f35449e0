-- The header or the trailer with a given 0534, on the tree; and as the code looks for it among the places of the groups.
use Rattle.std.specs.Prelude.{ℕ, zero, suc, ◌+◌, cond, List, ◌≡◌, get_or, Option, Some, None}
use Rattle.std.proofs.Math.Option.{Option as Maybe, none, some}
use Rattle.syntax.specs.Octets.{same}
use Rattle.syntax.specs.Content.{content, compared}
use Rattle.syntax.specs.Segment.{component_at, part_of}
use Rattle.syntax.specs.Tree.{Segment}
use Rattle.syntax.specs.declared.Service.{Service}
use Rattle.grammar.specs.Lists.{Snoc, nil, ◌▷◌, joined}
use Rattle.grammar.specs.Places.{wide}
use Rattle.walk.specs.declared.sections.Layout.{Layout}
use Rattle.groups.specs.declared.named.Groups.{Groups}
use Rattle.groups.specs.declared.named.Range.{Range}

-- ---- on the tree: "Calls name .. a header by its 0534, as content."

-- one of a row, and those before it
pub data Chosen (A : Type 0) : Type 0 where
  chosen : Snoc A → A → Chosen A

-- the one with the reference r
abbrev pub chosen_by : {A : Type 0} → (A → List ℕ) → Snoc A → List ℕ → Maybe (Chosen A)
chosen_by name nil r = none
chosen_by name (xs ▷ a) r = cond (same (name a) r) (some (chosen xs a)) (chosen_by name xs r)

-- ---- in the octets

-- the content of the first component of element e, of the segment at a
abbrev pub name_at : Service → List ℕ → ℕ → ℕ → List ℕ
name_at σ s a e = content σ.release (part_of s (component_at σ s a e 0))

-- the same of a reference, as it is compared
abbrev pub ref_name_at : Service → List ℕ → ℕ → ℕ → List ℕ
ref_name_at σ s a e = compared (name_at σ s a e)

-- of n groups, whose starts are in the rows from f on, and of which the last ends at `end`: the one whose first segment has the reference r
abbrev pub sought_in : Service → List ℕ → List ℕ → ℕ → ℕ → List ℕ → ℕ → ℕ → Option Range
sought_in σ s rows f e r zero end = None
sought_in σ s rows f e r (suc n) end =
    cond (same (ref_name_at σ s (get_or rows (f + n) 0) e) r) (Some (record { start = get_or rows (f + n) 0; end = end })) (sought_in σ s rows f e r n (get_or rows (f + n) 0))

abbrev pub headers_as : Layout → Groups
headers_as c = record { first = 0; count = c.headers; end = c.body; element = 2 }

abbrev pub trailers_as : Layout → Groups
trailers_as c = record { first = 9; count = c.trailers; end = c.unt; element = 1 }

-- ---- where the chosen one stands, the first of the row at p
abbrev pub range_of : {A : Type 0} → (A → Snoc Segment) → Service → ℕ → Maybe (Chosen A) → Option Range
range_of show σ p none = None
range_of show σ p (some (chosen xs a)) =
    Some (record { start = p + wide σ (joined show xs); end = p + wide σ (joined show xs) + wide σ (show a) })
