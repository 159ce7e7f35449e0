use Rattle.demands.specs.AskedForLaws.{given1}
use Rattle.demands.proofs.scope1_is_given.Goals as goal

pub returns : goal.returns
returns c = given1
