use Rattle.demands.specs.SealedLaws.{seal-value}
use Rattle.demands.proofs.sealed_has_value.Goals as goal

pub returns : goal.returns
returns c = seal-value
