use Rattle.finding.specs.FindingLaws.{named-closed, named-open}
use Rattle.syntax.specs.Content.{content, compared}
use Rattle.finding.proofs.is_named.Goals as goal

pub returns-then-closed : goal.returns-then-closed
returns-then-closed c = named-closed c.args.release c.args.s.now (compared (content c.args.other c.args.reference.now)) c.args.c c.if-closed.true c.part.ensures c.same_reference.ensures

pub returns : goal.returns
returns c = named-open c.args.release c.args.s.now (compared (content c.args.other c.args.reference.now)) c.args.c c.if-closed.false
