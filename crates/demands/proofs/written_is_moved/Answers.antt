use Rattle.demands.specs.MovedLaws.{written-moved}
use Rattle.demands.proofs.written_is_moved.Goals as goal

pub returns : goal.returns
returns c = written-moved
