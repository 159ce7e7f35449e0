use Rattle.demands.specs.SealedLaws.{seal-kept}
use Rattle.demands.proofs.sealed_keeps_ranges.Goals as goal

pub returns : goal.returns
returns c = seal-kept
