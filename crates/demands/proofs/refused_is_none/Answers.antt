use Rattle.grammar.proofs.VerdictLaws.{refused_none}
use Rattle.demands.proofs.refused_is_none.Goals as goal

pub returns : goal.returns
returns c = refused_none
