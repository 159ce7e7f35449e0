use Rattle.syntax.specs.Content.{compared}
use Rattle.groups.specs.LinksLaws.{ref-name-is, usy-here, usy-not}
use borrow.Author.Rules.{rules}
use Rattle.groups.proofs.links.names_header.Goals as goal

pub returns-then-is_tagged : goal.returns-then-is_tagged
returns-then-is_tagged c = usy-here c.args.s.now c.args.at _ c.is_tagged.ensures c.if-is_tagged.true (ref-name-is c.args.t.now.syntax.service c.args.s.now c.args.at 1 (compared c.args.reference.now) c.component_part.ensures c.reference_is.ensures)

pub returns : goal.returns
returns c = usy-not c.args.s.now c.args.at _ c.is_tagged.ensures c.if-is_tagged.false
