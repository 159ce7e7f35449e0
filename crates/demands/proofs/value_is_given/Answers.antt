use Rattle.demands.specs.ValuedLaws.{value-given}
use Rattle.demands.proofs.value_is_given.Goals as goal

pub returns : goal.returns
returns c = value-given
