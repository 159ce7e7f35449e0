use Prim.Native.Nat.{◌-◌}
use lib.ListN.{length}
use Rattle.walk.specs.SectionLaws.{Looping}
use Rattle.judge.proofs.run.run.Given as goal

abbrev pub invariant-loop-section : goal.invariant-loop-section
invariant-loop-section l = Looping l.t.syntax l.s l.from l.state l.heads l.names l.slots l.at l.marks l.rows l.initial.names l.initial.slots

abbrev pub decreases-loop-section : goal.decreases-loop-section
decreases-loop-section l = length l.s - l.at
