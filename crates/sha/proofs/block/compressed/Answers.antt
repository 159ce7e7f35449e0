use Rattle.sha.specs.Sha.{block}
use Rattle.sha.proofs.block.compressed.Goals as goal

pub returns : goal.returns
unfolding block
returns c = cc
