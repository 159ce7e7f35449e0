use Rattle.syntax.specs.Content.{content}
use Rattle.groups.specs.GroupsLaws.{groups-sought, trailers-room}
use Rattle.lines.specs.SealsLaws.{up-to-start, up-to-none}
use Rattle.lines.proofs.seals.to_trailer.Goals as goal

pub group_like-requires : goal.group_like-requires
group_like-requires c = record { count_bound = (trailers-room c.args.x.now.layout c.trailers_of.ensures c.args.x.now.near.trailers, c.args.x.now.near.long) }

pub returns-in-Some : goal.returns-in-Some
returns-in-Some c = up-to-start c.args.x.now.t.now.syntax.service c.args.x.now.s.now c.args.x.now.rows.now c.args.x.now.layout c.args.start c.component_part-reference.ensures (groups-sought c.args.x.now.t.now.syntax.service c.args.x.now.s.now c.args.x.now.rows.now (content c.args.x.now.t.now.syntax.service.release c.component_part-reference.result.now) c.group_like.ensures c.trailers_of.ensures) c.in-Some.is c.saturating_sub.ensures

pub returns-in-None : goal.returns-in-None
returns-in-None c = up-to-none c.args.x.now.t.now.syntax.service c.args.x.now.s.now c.args.x.now.rows.now c.args.x.now.layout c.args.start c.component_part-reference.ensures (groups-sought c.args.x.now.t.now.syntax.service c.args.x.now.s.now c.args.x.now.rows.now (content c.args.x.now.t.now.syntax.service.release c.component_part-reference.result.now) c.group_like.ensures c.trailers_of.ensures) c.in-None.is
