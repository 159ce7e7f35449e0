use Rattle.groups.specs.GroupsLaws.{headers-room, groups-sought}
use Rattle.digest.specs.DigestsLaws.{names-header, names-headless}
use Rattle.digest.proofs.names_in.Goals as goal

pub group_named-requires : goal.group_named-requires
group_named-requires c = record { count_bound = (headers-room c.args.found.now.layout c.headers_of.ensures c.requires.t.1, c.requires.t.2) }

pub returns-in-Some : goal.returns-in-Some
returns-in-Some c = λ m h. names-header h c.args.header.now (groups-sought c.args.found.now.classes.syntax.service c.args.s.now c.args.found.now.rows c.args.header.now c.group_named.ensures c.headers_of.ensures) c.header_names.result c.in-Some.is c.header_names.ensures

pub returns-in-None : goal.returns-in-None
returns-in-None c = λ m h. names-headless h c.args.header.now (groups-sought c.args.found.now.classes.syntax.service c.args.s.now c.args.found.now.rows c.args.header.now c.group_named.ensures c.headers_of.ensures) c.in-None.is
