use Rattle.std.proofs.Common.{◌-◌, ◌≡◌, length}
use Rattle.edc.specs.LoopLaws.{Reading}
use Rattle.edc.proofs.edc_into.Given as goal

abbrev pub invariant-loop-a : goal.invariant-loop-a
invariant-loop-a l = Reading l.release l.x l.initial.out l.i l.n l.masks l.c l.out × (length l.out ≡ length l.initial.out)

abbrev pub decreases-loop-a : goal.decreases-loop-a
decreases-loop-a l = length l.x - l.i
