use Rattle.grammar.proofs.VerdictLaws.{reading-counted}
use Rattle.demands.proofs.reading_is_counted.Goals as goal

pub returns : goal.returns
returns c = reading-counted
