use mathlib.Core.Path.{◌∙◌}
use borrow.Author.Rules.{rules}
use Rattle.gurandepi.proofs.gurandepi_register_check_signed.Goals as goal

pub returns : goal.returns
returns c = c.into.ensures ∙ c.register_check.ensures.result_value
