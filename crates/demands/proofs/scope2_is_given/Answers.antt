use Rattle.demands.specs.AskedForLaws.{given2}
use Rattle.demands.proofs.scope2_is_given.Goals as goal

pub returns : goal.returns
returns c = given2
