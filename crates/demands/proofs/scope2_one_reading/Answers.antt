use Rattle.demands.proofs.RangeLaws.{one-reading-2}
use Rattle.demands.proofs.scope2_one_reading.Goals as goal

pub returns : goal.returns
returns c = one-reading-2
