use Rattle.std.proofs.Common.{◌-◌, length}
use Rattle.segments.proofs.print_elements.Given as goal

abbrev pub invariant-loop-q : goal.invariant-loop-q
invariant-loop-q g l = Unit {0}

abbrev pub decreases-loop-q : goal.decreases-loop-q
decreases-loop-q g l = length l.s - l.i
