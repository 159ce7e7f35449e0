use mathlib.Core.Path.{◌∙◌}
use borrow.Author.Rules.{rules}
use Rattle.gurandepi.proofs.gurandepi_digest_f01.Goals as goal

pub returns : goal.returns
returns c = c.into.ensures ∙ c.digest_f01.ensures.result_value
