use mathlib.Core.Path.{◌∙◌}
use borrow.Author.Rules.{rules}
use Rattle.gurandepi.proofs.gurandepi_scope1.Goals as goal

pub returns : goal.returns
returns c = c.into.ensures ∙ c.scope1_places.ensures.result_value
