use Rattle.writing.specs.DecimalLaws.{Filling}
use Rattle.writing.proofs.fill.Given as goal

abbrev pub invariant-loop-m : goal.invariant-loop-m
invariant-loop-m l = Filling l.n l.m l.k l.digits

abbrev pub decreases-loop-m : goal.decreases-loop-m
decreases-loop-m l = l.m
