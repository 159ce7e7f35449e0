use Rattle.sha.specs.Sha.{words}
use Rattle.sha.specs.Loops.{Loading, Spreading}
use Rattle.sha.proofs.block.schedule.Given as goal

abbrev pub invariant-loop-i : goal.invariant-loop-i
invariant-loop-i l = Loading l.s l.w l.i

abbrev pub invariant-loop-t : goal.invariant-loop-t
invariant-loop-t l = Spreading (words 16 l.s) l.w l.t
