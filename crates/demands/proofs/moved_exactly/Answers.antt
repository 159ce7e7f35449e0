use Rattle.demands.specs.MovedLaws.{moved-exactly}
use Rattle.demands.proofs.moved_exactly.Goals as goal

pub returns : goal.returns
returns c = moved-exactly
