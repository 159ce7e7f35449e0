use Rattle.gurandepi.specs.AnswersLaws.{gives}
use borrow.Author.Rules.{rules}
use Rattle.gurandepi.proofs.gurandepi_register_write.Goals as goal

pub returns : goal.returns
returns c = gives c.register_write.ensures c.into.ensures
