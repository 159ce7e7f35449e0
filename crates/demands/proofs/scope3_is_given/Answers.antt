use Rattle.demands.proofs.Scope3Laws.{scope3-given}
use Rattle.demands.proofs.scope3_is_given.Goals as goal

pub returns : goal.returns
returns c = scope3-given
