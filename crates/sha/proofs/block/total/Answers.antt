use Rattle.sha.specs.Sha.{summed}
use Rattle.sha.proofs.block.total.Goals as goal

pub returns : goal.returns
unfolding summed
returns c = cc
