use Rattle.groups.specs.LinksLaws.{name-is}
use Rattle.ranges.specs.RangesLaws.{scoped-hit, scoped-other}
use Rattle.groups.specs.GroupsLaws.{headers-room}
use Rattle.ranges.proofs.scopes.header_of.Goals as goal

pub group_named-requires : goal.group_named-requires
group_named-requires c = record { count_bound = (headers-room c.args.found.now.layout c.headers_of.ensures c.requires.headers_bound.0, c.requires.headers_bound.1) }

pub returns-then-content_is : goal.returns-then-content_is
returns-then-content_is c = scoped-hit c.args.found.now.classes.syntax.service c.args.s.now c.args.found.now.layout c.args.found.now.rows c.args.header.now c.group_named.ensures c.headers_of.ensures c.args.scope.now c.in_ok-group.was (name-is c.args.found.now.classes.syntax.service c.args.s.now c.in_ok-group.group.start 3 c.args.scope.now c.component_part-code.ensures c.content_is.ensures) c.if-content_is.true

pub returns : goal.returns
returns c = scoped-other c.args.found.now.classes.syntax.service c.args.s.now c.args.found.now.layout c.args.found.now.rows c.args.header.now c.group_named.ensures c.headers_of.ensures c.args.scope.now c.in_ok-group.was (name-is c.args.found.now.classes.syntax.service c.args.s.now c.in_ok-group.group.start 3 c.args.scope.now c.component_part-code.ensures c.content_is.ensures) c.if-content_is.false
