use mathlib.Core.Path.{◌∙◌}
use Rattle.returns.specs.Returns.{message_old_sum_of}
use Rattle.returns.proofs.ReturnsLaws.{single-told}
use borrow.Author.Rules.{rules}
use Rattle.gurandepi.proofs.gurandepi_message_old_sum.Goals as goal

pub returns : goal.returns
returns c = record { result_value = c.into.ensures.0 ∙ c.message_old_sum.ensures.result_value; single_value = c.into.ensures.1 ∙ single-told (message_old_sum_of c.args.interchange.now c.args.message.now c.args.before) c.message_old_sum.ensures.value }
