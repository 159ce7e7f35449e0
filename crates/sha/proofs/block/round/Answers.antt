use Rattle.sha.specs.Loops.{round_by}
use Rattle.sha.proofs.block.round.Goals as goal

pub returns : goal.returns
unfolding round_by
returns c = cc
