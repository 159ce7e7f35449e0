use borrow.Author.Rules.{rules}
use Rattle.values.specs.ValuesLaws.{trailer-at, trailer-none}
use Rattle.groups.specs.GroupsLaws.{trailers-room, groups-sought}
use Rattle.values.proofs.trailer_text.Goals as goal

pub group_named-requires : goal.group_named-requires
group_named-requires c = record { count_bound = (trailers-room c.args.x.now.layout c.trailers_of.ensures c.requires.x.1, search rules) }

pub returns-in-Some : goal.returns-in-Some
returns-in-Some c = λ m h. trailer-at h c.args.header.now c.usr_text.result.now (groups-sought c.args.x.now.classes.syntax.service c.args.s.now c.args.x.now.rows c.args.header.now c.group_named.ensures c.trailers_of.ensures) c.in-Some.is c.usr_text.ensures

pub returns-in-None : goal.returns-in-None
returns-in-None c = λ m h. trailer-none h c.args.header.now (groups-sought c.args.x.now.classes.syntax.service c.args.s.now c.args.x.now.rows c.args.header.now c.group_named.ensures c.trailers_of.ensures) c.in-None.is c.part.ensures
