use Rattle.demands.specs.PrintedLaws.{scope2-printed}
use Rattle.demands.proofs.scope2_is_printed.Goals as goal

pub returns : goal.returns
returns c = scope2-printed
