use Rattle.demands.specs.SewnLaws.{sewn}
use Rattle.demands.proofs.sealed_octets.Goals as goal

pub returns : goal.returns
returns c = sewn
