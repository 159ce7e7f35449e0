use Rattle.sha.specs.Sha.{word}
use Rattle.std.proofs.Common.{rules}
use Rattle.sha.proofs.words.joined.Goals as goal

pub returns : goal.returns
unfolding word
returns c = search rules
