use Rattle.demands.specs.ReversedLaws.{minus-reverses}
use Rattle.demands.proofs.minus_reverses.Goals as goal

pub returns : goal.returns
returns c = minus-reverses
