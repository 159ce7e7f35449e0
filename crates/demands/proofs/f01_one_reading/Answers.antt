use Rattle.demands.proofs.RangeLaws.{one-reading-f01}
use Rattle.demands.proofs.f01_one_reading.Goals as goal

pub returns : goal.returns
returns c = one-reading-f01
