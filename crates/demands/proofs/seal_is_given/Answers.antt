use Rattle.demands.specs.AllowedLaws.{seal-given}
use Rattle.demands.proofs.seal_is_given.Goals as goal

pub returns : goal.returns
returns c = seal-given
