use Rattle.demands.proofs.Scope3Laws.{scope3-printed}
use Rattle.demands.proofs.scope3_is_printed.Goals as goal

pub returns : goal.returns
returns c = scope3-printed
