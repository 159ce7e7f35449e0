use Rattle.demands.specs.SealWritesLaws.{writes-so}
use Rattle.demands.proofs.success_is_written.Goals as goal

pub returns : goal.returns
returns c = writes-so
