use Rattle.demands.specs.MovedLaws.{moved_back}
use Rattle.demands.proofs.moved_there_and_back.Goals as goal

pub returns : goal.returns
returns c = moved_back
