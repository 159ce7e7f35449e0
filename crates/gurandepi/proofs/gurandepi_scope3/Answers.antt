use mathlib.Core.Path.{◌∙◌}
use borrow.Author.Rules.{rules}
use Rattle.gurandepi.proofs.gurandepi_scope3.Goals as goal

pub returns : goal.returns
returns c = c.into.ensures ∙ c.scope3_places.ensures.result_value
