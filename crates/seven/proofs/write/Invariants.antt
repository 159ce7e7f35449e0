use Rattle.seven.specs.WriteLaws.{Writing}
use Rattle.seven.proofs.write.Given as goal

abbrev pub invariant-loop-i : goal.invariant-loop-i
invariant-loop-i l = Writing l.initial.out l.at l.n l.last l.out l.x l.i
