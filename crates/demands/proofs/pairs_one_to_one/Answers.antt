use Rattle.demands.specs.PairedLaws.{pairs-all}
use Rattle.demands.proofs.pairs_one_to_one.Goals as goal

pub returns : goal.returns
returns c = pairs-all
