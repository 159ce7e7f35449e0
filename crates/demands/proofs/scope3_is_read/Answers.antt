use Rattle.demands.proofs.ReadLaws.{scope3-read}
use Rattle.demands.proofs.scope3_is_read.Goals as goal

pub returns : goal.returns
returns c = scope3-read
