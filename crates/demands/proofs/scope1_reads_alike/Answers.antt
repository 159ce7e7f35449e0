use Rattle.demands.proofs.ReadLaws.{scope1-same}
use Rattle.demands.proofs.scope1_reads_alike.Goals as goal

pub returns : goal.returns
returns c = scope1-same
