use Rattle.demands.specs.PrintedLaws.{scope1-printed}
use Rattle.demands.proofs.scope1_is_printed.Goals as goal

pub returns : goal.returns
returns c = scope1-printed
