use Rattle.finding.specs.FindingLaws.{Keeping}
use Rattle.finding.proofs.keep.Given as goal

abbrev pub invariant-loop-i : goal.invariant-loop-i
invariant-loop-i l = Keeping l.initial.rows l.here l.rows l.i
