use Rattle.demands.specs.DigestedLaws.{seal-digested}
use Rattle.demands.proofs.sealed_digest_is_signed.Goals as goal

pub returns : goal.returns
returns c = seal-digested
