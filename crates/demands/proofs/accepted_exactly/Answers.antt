use Rattle.grammar.proofs.VerdictLaws.{accepted-exactly}
use Rattle.demands.proofs.accepted_exactly.Goals as goal

pub returns : goal.returns
returns c = accepted-exactly
