use Rattle.syntax.proofs.BareLaws.{same-given}
use borrow.Author.Rules.{rules}
use Rattle.syntax.proofs.content.reference_is.Goals as goal

pub returns : goal.returns
returns c = search (same-given, rules)
