use Rattle.returns.specs.ReadingLaws.{forward-weighed}
use borrow.Author.Rules.{rules}
use Rattle.returns.proofs.loads.weighed.Goals as goal

pub returns-else-below : goal.returns-else-below
returns-else-below c = forward-weighed c.in-Some.is c.if-below.false c.load_of.ensures.value
