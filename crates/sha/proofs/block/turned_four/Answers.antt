use Rattle.sha.specs.Sha.{next}
use Rattle.std.proofs.Common.{rules}
use Rattle.sha.proofs.block.turned_four.Goals as goal

pub returns : goal.returns
unfolding next
returns c = search rules
