use Rattle.std.proofs.Common.{refl}
use Rattle.sha.specs.Sha.{zeros}
use Rattle.sha.proofs.pad.Goals as goal

pub returns : goal.returns
unfolding zeros
returns c = refl
