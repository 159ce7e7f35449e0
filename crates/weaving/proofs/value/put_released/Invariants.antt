use Rattle.weaving.specs.ValueLaws.{Releasing}
use Rattle.weaving.proofs.value.put_released.Given as goal

abbrev pub invariant-loop-b : goal.invariant-loop-b
invariant-loop-b l = Releasing l.t.syntax.service l.initial.out l.at l.text l.b-index l.out l.p
