-- What is sealed as the calls answer it, and the paper's numbers for each case of the answers: number, place, segment, then the call's own; "on refusal .. every
-- other number given back is 0".
use Rattle.syntax.specs.declared.Refusal.{Refusal}
use Rattle.groups.specs.declared.named.Range.{Range}
use Rattle.ranges.specs.declared.scopes.Parts.{Parts as Parted}
use Rattle.std.specs.Prelude.{ℕ, ◌≤◌, List, [], ◌∷◌, cond, Option, Result, Some, None, Ok, Err}
use Rattle.syntax.specs.Content.{compared}
use Rattle.syntax.specs.Octets.{same}
use Rattle.syntax.specs.Refusals.{at_zero}
use Rattle.syntax.specs.declared.Service.{Service}
use Rattle.walk.specs.declared.sections.Layout.{Layout}
use Rattle.groups.specs.Groups.{name_at, sought_in}
use Rattle.groups.specs.Calls.{Answered, given, refused_as}
use Rattle.ranges.specs.Ranges.{Parts, parts, Run, run}

-- "A companion call gives start and end", of the header part and of the body part; or the refusal
abbrev pub parts_as : Answered Parts → Result Parted Refusal
parts_as (given (parts a b c d)) = Ok (record { header = record { start = a; end = b }; body = record { start = c; end = d } })
parts_as (refused_as f) = Err f

-- the same of one run
abbrev pub run_as : Answered Run → Result Range Refusal
run_as (given (run a b)) = Ok (record { start = a; end = b })
run_as (refused_as f) = Err f

-- ---- the numbers

abbrev pub part_numbers : Answered Parts → List ℕ
part_numbers (given (parts a b c d)) = 0 ∷ 0 ∷ 0 ∷ a ∷ b ∷ c ∷ d ∷ []
part_numbers (refused_as f) = f.number ∷ f.place ∷ f.segment ∷ 0 ∷ 0 ∷ 0 ∷ 0 ∷ []

abbrev pub told_parts : Result Parted Refusal → List ℕ
told_parts (Ok x) = 0 ∷ 0 ∷ 0 ∷ x.header.start ∷ x.header.end ∷ x.body.start ∷ x.body.end ∷ []
told_parts (Err f) = f.number ∷ f.place ∷ f.segment ∷ 0 ∷ 0 ∷ 0 ∷ 0 ∷ []

abbrev pub run_numbers : Answered Run → List ℕ
run_numbers (given (run a b)) = 0 ∷ 0 ∷ 0 ∷ a ∷ b ∷ []
run_numbers (refused_as f) = f.number ∷ f.place ∷ f.segment ∷ 0 ∷ 0 ∷ []

abbrev pub told_run : Result Range Refusal → List ℕ
told_run (Ok x) = 0 ∷ 0 ∷ 0 ∷ x.start ∷ x.end ∷ []
told_run (Err f) = f.number ∷ f.place ∷ f.segment ∷ 0 ∷ 0 ∷ []

-- "Range calls hand back the caller's own octets: for scope 1 the header part and the body part, each a part of the lent interchange". Where the parts lie; on
-- refusal "the part is empty and starts at 0"
abbrev pub header_part : Answered Parts → Run
header_part (given (parts a b c d)) = run a b
header_part (refused_as f) = run 0 0

abbrev pub body_part : Answered Parts → Run
body_part (given (parts a b c d)) = run c d
body_part (refused_as f) = run 0 0

abbrev pub run_part : Answered Run → Run
run_part (given r) = r
run_part (refused_as f) = run 0 0

abbrev pub start_of : Run → ℕ
start_of (run a e) = a

abbrev pub end_of : Run → ℕ
end_of (run a e) = e

-- the places lie within so many octets
abbrev pub PartsInside : Result Parted Refusal → ℕ → Type 0
PartsInside (Ok x) n = (x.header.start ≤ x.header.end) × (x.header.end ≤ n) × (x.body.start ≤ x.body.end) × (x.body.end ≤ n)
PartsInside (Err f) n = Unit {0}

abbrev pub RunInside : Result Range Refusal → ℕ → Type 0
RunInside (Ok x) n = (x.start ≤ x.end) × (x.end ≤ n)
RunInside (Err f) n = Unit {0}

-- ---- as the code makes its answers of what it finds

-- the header group that was found, if its scope code is this one
abbrev pub scoped_by : Service → List ℕ → List ℕ → Option Range → Option Range
scoped_by σ s code (Some x) = cond (same (name_at σ s x.start 3) code) (Some x) None
scoped_by σ s code None = None

abbrev pub header_found : Service → List ℕ → Layout → List ℕ → List ℕ → List ℕ → Option Range
header_found σ s c rows code r = scoped_by σ s code (sought_in σ s rows 0 2 (compared r) c.headers c.body)

abbrev pub trailer_found : Service → List ℕ → Layout → List ℕ → List ℕ → Option Range
trailer_found σ s c rows r = sought_in σ s rows 9 1 (compared r) c.trailers c.unt

abbrev pub parts_by : Layout → Option Range → Result Parted Refusal
parts_by c (Some x) = Ok (record { header = x; body = record { start = c.body; end = c.tail } })
parts_by c None = Err (at_zero 13)

abbrev pub run_by : Option Range → Option Range → Result Range Refusal
run_by (Some x) (Some z) = Ok (record { start = x.start; end = z.start })
run_by (Some x) None = Err (at_zero 13)
run_by None z = Err (at_zero 13)
