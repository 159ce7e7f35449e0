-- The parts that are handed back are those that the companion calls tell.
use Rattle.std.specs.Prelude.{ℕ, refl, List}
use Rattle.std.proofs.Common.{sym}
use Rattle.std.proofs.Math.Seq.{slice_empty}
use Rattle.groups.specs.Calls.{Answered, given, refused_as}
use Rattle.ranges.specs.Ranges.{Parts, parts, Run, run}
use Rattle.demands.specs.AskedLaws.{missing-given}
use Rattle.demands.specs.Companion.{Companion1, CompanionRun}

pub companion1 : (s : List ℕ) (x : Answered Parts) → Companion1 s x
companion1 s (given (parts a b c d)) = record { told = refl; refused = λ f e. missing-given (sym e) }
companion1 s (refused_as f) = record { told = refl; refused = λ g e. ((refl, slice_empty 0 s), (refl, slice_empty 0 s)) }

pub companion-run : (s : List ℕ) (x : Answered Run) → CompanionRun s x
companion-run s (given (run a b)) = record { told = refl; refused = λ f e. missing-given (sym e) }
companion-run s (refused_as f) = record { told = refl; refused = λ g e. (refl, slice_empty 0 s) }
