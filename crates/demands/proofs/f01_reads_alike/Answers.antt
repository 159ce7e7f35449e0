use Rattle.demands.proofs.ReadLaws.{f01-same}
use Rattle.demands.proofs.f01_reads_alike.Goals as goal

pub returns : goal.returns
returns c = f01-same
