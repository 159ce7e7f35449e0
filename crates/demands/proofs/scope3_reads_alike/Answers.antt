use Rattle.demands.proofs.ReadLaws.{scope3-same}
use Rattle.demands.proofs.scope3_reads_alike.Goals as goal

pub returns : goal.returns
returns c = scope3-same
