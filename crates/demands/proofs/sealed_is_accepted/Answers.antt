use Rattle.demands.specs.SealedLaws.{seal-accepted}
use Rattle.demands.proofs.sealed_is_accepted.Goals as goal

pub returns : goal.returns
returns c = seal-accepted
