use Rattle.std.proofs.Common.{◌-◌, ◌≡◌, length}
use Rattle.filters.specs.SixLoopLaws.{Sixing}
use Rattle.filters.proofs.six.six_into.Given as goal

abbrev pub invariant-loop-four : goal.invariant-loop-four
invariant-loop-four l = Sixing l.release l.x l.initial.out l.i l.n l.out × (length l.out ≡ length l.initial.out)

abbrev pub decreases-loop-four : goal.decreases-loop-four
decreases-loop-four l = length l.x - l.i
