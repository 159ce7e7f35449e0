use Rattle.sha.specs.Sha.{ch, complement}
use Rattle.std.proofs.Common.{rules}
use Rattle.sha.proofs.words.choice.Goals as goal

pub returns : goal.returns
unfolding ch complement
returns c = search rules
