use Prim.Native.Nat.{◌-◌}
use lib.ListN.{length}
use Rattle.register.proofs.RegisterLaws.{Registering}
use Rattle.register.proofs.register.lay_among.Given as goal

abbrev pub invariant-loop-f : goal.invariant-loop-f
invariant-loop-f l = Registering l.form l.start l.x.classes.syntax l.x.s.now l.x.from l.state l.heads l.names l.slots l.at l.marks l.rows l.initial.names l.initial.slots l.initial.out l.out l.e

abbrev pub decreases-loop-f : goal.decreases-loop-f
decreases-loop-f l = length l.x.s.now - l.at
