-- The seal lines of a message as the code makes them: from the octets of the interchange, the layout c of the message, and the rows at which its groups start.
use Rattle.groups.specs.declared.named.Range.{Range}
use Rattle.std.specs.Prelude.{ℕ, zero, suc, ◌+◌, ◌-◌, ◌≤◌, cond, List, [], ◌++◌, ◌≡◌, ltb, length, get_or, Option, Some, None}
use Rattle.syntax.specs.declared.Service.{Service}
use Rattle.walk.specs.declared.sections.Layout.{Layout}
use Rattle.groups.specs.Groups.{name_at, ref_name_at, sought_in}
use Rattle.lines.specs.Words.{seal_line}

-- where header group i starts; behind the last one the body starts
abbrev pub next_at : Layout → List ℕ → ℕ → ℕ
next_at c rows i = cond (ltb i c.headers) (get_or rows i 0) c.body

-- there is room for the rows, and every place is one of an interchange
pub record Near (c : Layout) (rows : List ℕ) : Type 0 where
  pub long : length rows ≡ 18
  pub headers : c.headers ≤ 9
  pub trailers : c.trailers ≤ 9
  pub tail : c.tail ≤ 65535
  pub starts : (i : ℕ) → next_at c rows i ≤ 65535

abbrev pub up_to : ℕ → Option Range → ℕ
up_to ush (Some x) = x.start - ush
up_to ush None = 0

-- the octets of scope 1, and those of scope 2, of the header group from `ush` to `end`
abbrev pub one_at : Layout → ℕ → ℕ → ℕ
one_at c ush end = end - ush + (c.tail - c.body)

abbrev pub two_at : Service → List ℕ → List ℕ → Layout → ℕ → ℕ
two_at σ s rows c ush = up_to ush (sought_in σ s rows 9 1 (ref_name_at σ s ush 2) c.trailers c.unt)

abbrev pub seal_at : Service → List ℕ → List ℕ → Layout → ℕ → ℕ → List ℕ
seal_at σ s rows c ush end = seal_line (name_at σ s ush 2) (name_at σ s ush 3) (one_at c ush end) (two_at σ s rows c ush)

-- the first n of them, of which the last ends at `end`
abbrev pub seals_at : Service → List ℕ → List ℕ → Layout → ℕ → ℕ → List ℕ
seals_at σ s rows c zero end = []
seals_at σ s rows c (suc n) end = seals_at σ s rows c n (get_or rows n 0) ++ seal_at σ s rows c (get_or rows n 0) end
