use mathlib.Core.Path.{◌∙◌}
use borrow.Author.Rules.{rules}
use Rattle.gurandepi.proofs.gurandepi_digest_scope2.Goals as goal

pub returns : goal.returns
returns c = c.into.ensures ∙ c.digest_scope2.ensures.result_value
