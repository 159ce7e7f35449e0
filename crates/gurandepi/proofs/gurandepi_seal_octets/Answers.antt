use Rattle.gurandepi.specs.AnswersLaws.{gives}
use borrow.Author.Rules.{rules}
use Rattle.gurandepi.proofs.gurandepi_seal_octets.Goals as goal

pub returns : goal.returns
returns c = gives c.seal_octets.ensures c.into.ensures
