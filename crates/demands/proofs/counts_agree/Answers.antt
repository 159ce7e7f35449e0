use Rattle.demands.specs.PairedLaws.{counts_all}
use Rattle.demands.proofs.counts_agree.Goals as goal

pub returns : goal.returns
returns c = counts_all
