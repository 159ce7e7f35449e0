use Rattle.std.proofs.Common.{◌-◌, length}
use Rattle.segments.proofs.print_content.Given as goal

abbrev pub invariant-loop-b : goal.invariant-loop-b
invariant-loop-b g l = Unit {0}

abbrev pub decreases-loop-b : goal.decreases-loop-b
decreases-loop-b g l = length l.x - l.i
