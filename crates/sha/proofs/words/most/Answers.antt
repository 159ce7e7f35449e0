use Rattle.sha.specs.Sha.{maj}
use Rattle.std.proofs.Common.{rules}
use Rattle.sha.proofs.words.most.Goals as goal

pub returns : goal.returns
unfolding maj
returns c = search rules
