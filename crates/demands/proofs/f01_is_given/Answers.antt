use Rattle.demands.proofs.ReferredLaws.{f01-given}
use Rattle.demands.proofs.f01_is_given.Goals as goal

pub returns : goal.returns
returns c = f01-given
