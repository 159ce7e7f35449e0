use Rattle.std.proofs.Common.{length}
use Rattle.desk.proofs.digests.sha1.Given as goal

abbrev pub invariant-loop-state : goal.invariant-loop-state
invariant-loop-state l = Unit {0}

abbrev pub decreases-loop-state : goal.decreases-loop-state
decreases-loop-state l = length l.words
