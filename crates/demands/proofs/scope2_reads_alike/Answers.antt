use Rattle.demands.proofs.ReadLaws.{scope2-same}
use Rattle.demands.proofs.scope2_reads_alike.Goals as goal

pub returns : goal.returns
returns c = scope2-same
