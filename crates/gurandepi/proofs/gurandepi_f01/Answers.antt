use mathlib.Core.Path.{◌∙◌}
use borrow.Author.Rules.{rules}
use Rattle.gurandepi.proofs.gurandepi_f01.Goals as goal

pub returns : goal.returns
returns c = c.into.ensures ∙ c.f01_places.ensures.result_value
