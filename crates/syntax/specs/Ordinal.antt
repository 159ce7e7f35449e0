-- Which segment a place is at.
use Rattle.syntax.specs.declared.Breach.{Breach}
use Rattle.syntax.specs.declared.opening.Opening.{Opening}
use Rattle.std.specs.Prelude.{ℕ, suc, List, false, length, Result, Ok, Err}
use Rattle.std.proofs.Math.Seq.{slice}
use Rattle.syntax.specs.Cutting.{ends}
use Rattle.syntax.specs.Opening.{opening_of}

-- "the ordinal of the segment at the place: UNB is 1, UNA counts as none, and an end of input counts as the next ordinal. Refusals 1 and 2 carry 0.":
-- one more than the segments that end between the place of UNB and this one
abbrev pub ordinal_by : Result Opening Breach → List ℕ → ℕ → ℕ
ordinal_by (Ok o) s p = suc (length (ends o.service false (slice o.at p s) 0))
ordinal_by (Err f) s p = 0

abbrev pub ordinal_of : List ℕ → ℕ → ℕ
ordinal_of s p = ordinal_by (opening_of s) s p
