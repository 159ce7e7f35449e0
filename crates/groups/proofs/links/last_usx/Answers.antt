use Rattle.groups.specs.LinksLaws.{usx-here, usx-before}
use borrow.Author.Rules.{rules}
use Rattle.groups.proofs.links.last_usx.Goals as goal

pub returns-then-is_tagged : goal.returns-then-is_tagged
returns-then-is_tagged c = usx-here c.args.s.now c.args.at c.args.usx c.is_tagged.ensures c.if-is_tagged.true

pub returns : goal.returns
returns c = usx-before c.args.s.now c.args.at c.args.usx c.is_tagged.ensures c.if-is_tagged.false
