use Rattle.demands.proofs.ReadLaws.{scope2-read}
use Rattle.demands.proofs.scope2_is_read.Goals as goal

pub returns : goal.returns
returns c = scope2-read
