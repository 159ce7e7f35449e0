use Rattle.sha.specs.Sha.{rotl}
use Rattle.std.proofs.Common.{rules}
use Rattle.sha.proofs.words.turned.Goals as goal

pub returns : goal.returns
unfolding rotl
returns c = search rules
