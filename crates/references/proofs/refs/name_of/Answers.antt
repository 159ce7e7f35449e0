use Rattle.references.specs.RefsLaws.{name-short, name-two, name-full, name-long}
use borrow.Author.Rules.{rules}
use Rattle.references.proofs.refs.name_of.Goals as goal

pub returns-then-a : goal.returns-then-a
returns-then-a c = search (name-short, rules)

pub returns-then-b : goal.returns-then-b
returns-then-b c = search (name-two, rules)

pub returns-in-None : goal.returns-in-None
returns-in-None c = search (name-full, rules)

pub returns-in-Some : goal.returns-in-Some
returns-in-Some c = search (name-long, rules)
