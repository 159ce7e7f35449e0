use Rattle.demands.proofs.RangeLaws.{one-reading-1}
use Rattle.demands.proofs.scope1_one_reading.Goals as goal

pub returns : goal.returns
returns c = one-reading-1
