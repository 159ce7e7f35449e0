use Rattle.demands.proofs.RangeLaws.{one-reading-3}
use Rattle.demands.proofs.scope3_one_reading.Goals as goal

pub returns : goal.returns
returns c = one-reading-3
