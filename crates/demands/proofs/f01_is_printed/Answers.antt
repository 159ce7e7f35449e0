use Rattle.demands.proofs.ReferredLaws.{f01-printed}
use Rattle.demands.proofs.f01_is_printed.Goals as goal

pub returns : goal.returns
returns c = f01-printed
