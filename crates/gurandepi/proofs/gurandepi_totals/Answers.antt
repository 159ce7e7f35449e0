use mathlib.Core.Path.{◌∙◌}
use borrow.Author.Rules.{rules}
use Rattle.gurandepi.proofs.gurandepi_totals.Goals as goal

pub returns : goal.returns
returns c = record { result_value = c.totals_answer.ensures.result_value ∙ c.message_totals.ensures.result_value; grams_value = c.totals_answer.ensures.grams_value ∙ c.message_totals.ensures.result_value_2 }
