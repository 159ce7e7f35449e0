use Rattle.demands.specs.DigestedLaws.{of-ranges}
use Rattle.demands.proofs.digest_is_of_range.Goals as goal

pub returns : goal.returns
returns c = of-ranges
