use Rattle.gurandepi.specs.AnswersLaws.{gives}
use borrow.Author.Rules.{rules}
use Rattle.gurandepi.proofs.gurandepi_register_old_to_signed.Goals as goal

pub returns : goal.returns
returns c = gives c.register_move.ensures c.into.ensures
