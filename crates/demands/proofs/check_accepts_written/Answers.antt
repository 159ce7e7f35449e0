use Rattle.demands.specs.CheckedLaws.{accepts-written}
use Rattle.demands.proofs.check_accepts_written.Goals as goal

pub returns : goal.returns
returns c = accepts-written
