use Rattle.groups.specs.GroupsLaws.{headers-room, groups-sought}
use Rattle.weaving.specs.AllowedLaws.{new-by}
use borrow.Author.Rules.{rules}
use Rattle.weaving.proofs.allowed.is_new.Goals as goal

pub group_named-requires : goal.group_named-requires
group_named-requires c = record { count_bound = (headers-room c.args.x.now.layout c.headers_of.ensures c.requires.headers_bound, search rules) }

pub returns : goal.returns
returns c = λ m h. new-by h c.args.reference.now (groups-sought c.args.x.now.classes.syntax.service c.args.s.now c.args.x.now.rows c.args.reference.now c.group_named.ensures c.headers_of.ensures) c.is_none.ensures
