use Rattle.weaving.specs.Seals.{may_write}
use Rattle.weaving.specs.ValueLaws.{Testing}
use Rattle.weaving.proofs.value.is_writable.Given as goal

abbrev pub invariant-loop-b : goal.invariant-loop-b
invariant-loop-b l = Testing (may_write l.t.syntax) l.text l.b-index
