use Rattle.sha.specs.Sha.{plus}
use Rattle.std.proofs.Common.{rules}
use Rattle.sha.proofs.words.add.Goals as goal

pub returns : goal.returns
unfolding plus
returns c = search rules
