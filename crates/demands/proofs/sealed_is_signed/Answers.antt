use Rattle.demands.specs.SealedLaws.{seal-signed}
use Rattle.demands.proofs.sealed_is_signed.Goals as goal

pub returns : goal.returns
returns c = seal-signed
