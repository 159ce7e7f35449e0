use Rattle.gurandepi.specs.AnswersLaws.{gives}
use borrow.Author.Rules.{rules}
use Rattle.gurandepi.proofs.gurandepi_value.Goals as goal

pub returns : goal.returns
returns c = gives c.value.ensures c.into.ensures
