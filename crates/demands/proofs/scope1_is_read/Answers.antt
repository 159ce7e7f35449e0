use Rattle.demands.proofs.ReadLaws.{scope1-read}
use Rattle.demands.proofs.scope1_is_read.Goals as goal

pub returns : goal.returns
returns c = scope1-read
