use mathlib.Core.Path.{◌∙◌}
use borrow.Author.Rules.{rules}
use Rattle.gurandepi.proofs.gurandepi_judge.Goals as goal

pub returns : goal.returns
returns c = c.into.ensures ∙ c.judge.ensures.result_value
