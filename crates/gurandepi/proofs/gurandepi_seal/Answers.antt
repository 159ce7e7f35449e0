use Rattle.gurandepi.specs.AnswersLaws.{gives}
use borrow.Author.Rules.{rules}
use Rattle.gurandepi.proofs.gurandepi_seal.Goals as goal

pub returns : goal.returns
returns c = gives c.seal.ensures c.into.ensures
