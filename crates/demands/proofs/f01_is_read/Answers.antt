use Rattle.demands.proofs.ReadLaws.{f01-read}
use Rattle.demands.proofs.f01_is_read.Goals as goal

pub returns : goal.returns
returns c = f01-read
