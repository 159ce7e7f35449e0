use Rattle.syntax.proofs.BareLaws.{blank-told}
use borrow.Author.Rules.{rules}
use Rattle.syntax.proofs.content.is_blank.Goals as goal

pub returns : goal.returns
returns c = search (blank-told, rules)
