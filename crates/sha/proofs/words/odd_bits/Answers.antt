use Rattle.sha.specs.Sha.{parity}
use Rattle.std.proofs.Common.{rules}
use Rattle.sha.proofs.words.odd_bits.Goals as goal

pub returns : goal.returns
unfolding parity
returns c = search rules
