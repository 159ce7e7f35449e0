use Rattle.grammar.proofs.VerdictLaws.{totals-read}
use Rattle.demands.proofs.totals_are_read.Goals as goal

pub returns : goal.returns
returns c = totals-read
