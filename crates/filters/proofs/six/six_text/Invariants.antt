use Rattle.std.proofs.Common.{◌≡◌, length}
use Rattle.filters.specs.TextLoopLaws.{Sixed}
use Rattle.filters.proofs.six.six_text.Given as goal

abbrev pub invariant-loop-rest : goal.invariant-loop-rest
invariant-loop-rest l = Sixed l.initial.out l.at l.v l.rest l.out l.p × (length l.out ≡ length l.initial.out)

abbrev pub decreases-loop-rest : goal.decreases-loop-rest
decreases-loop-rest l = length l.rest
