use Rattle.demands.specs.RefusedLaws.{writes-none}
use Rattle.demands.proofs.refusal_writes_nothing.Goals as goal

pub returns : goal.returns
returns c = writes-none
