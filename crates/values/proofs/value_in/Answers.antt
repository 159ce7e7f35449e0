use borrow.Author.Rules.{rules}
use Rattle.writing.specs.WrittenLaws.{writes-none}
use Rattle.values.specs.ValuesLaws.{value-header, value-headless}
use Rattle.groups.specs.GroupsLaws.{headers-room, groups-sought}
use Rattle.values.proofs.value_in.Goals as goal

pub group_named-requires : goal.group_named-requires
group_named-requires c = record { count_bound = (headers-room c.args.x.now.layout c.headers_of.ensures c.requires.x.1, search rules) }

pub returns : goal.returns
returns c = λ m h. value-header h c.args.header.now (groups-sought c.args.x.now.classes.syntax.service c.args.s.now c.args.x.now.rows c.args.header.now c.group_named.ensures c.headers_of.ensures) c.value_text-text.result.now c.component_part-code.result.now c.in-Some.is (c.value_text-text.ensures m h) c.component_part-code.ensures c.value_of.ensures

pub returns-in_default : goal.returns-in_default
returns-in_default c = λ m h. value-headless h c.args.header.now (groups-sought c.args.x.now.classes.syntax.service c.args.s.now c.args.x.now.rows c.args.header.now c.group_named.ensures c.headers_of.ensures) c.in_default.is (writes-none c.refused.ensures)
