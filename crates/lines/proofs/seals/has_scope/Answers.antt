use Rattle.groups.specs.LinksLaws.{name-is}
use Rattle.lines.proofs.seals.has_scope.Goals as goal

pub returns : goal.returns
returns c = name-is c.args.x.now.t.now.syntax.service c.args.x.now.s.now c.args.start 3 c.args.code.now c.component_part.ensures c.content_is.ensures
