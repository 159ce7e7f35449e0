use Rattle.std.proofs.Common.{rules}
use Rattle.sha.specs.Sha.{output, four}
use Rattle.sha.proofs.digest_octets.Goals as goal

pub returns : goal.returns
unfolding output four
returns c = search rules
