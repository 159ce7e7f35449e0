use Rattle.demands.specs.NumbersLaws.{refused-number}
use Rattle.demands.proofs.refusals_are_numbered.Goals as goal

pub returns : goal.returns
returns c = refused-number
