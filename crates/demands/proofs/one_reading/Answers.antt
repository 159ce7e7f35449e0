use Rattle.grammar.proofs.VerdictLaws.{one-reading}
use Rattle.demands.proofs.one_reading.Goals as goal

pub returns : goal.returns
returns c = one-reading
