use Rattle.weaving.specs.ValueLaws.{hex-short, six-short, text-hex, text-six}
use borrow.Author.Rules.{rules}
use Rattle.weaving.proofs.value.filter_text.Goals as goal

pub hex_text-requires : goal.hex_text-requires
hex_text-requires c = let h = hex-short c.args.value.now c.requires in search rules

pub returns-then-filter-eq2 : goal.returns-then-filter-eq2
returns-then-filter-eq2 c = search (text-hex, rules)

pub six_text-requires : goal.six_text-requires
six_text-requires c = let h = six-short c.args.value.now c.requires in search rules

pub returns : goal.returns
returns c = search (text-six, rules)
