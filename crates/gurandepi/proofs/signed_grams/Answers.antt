use Rattle.gurandepi.specs.SignedLaws.{minus-fits, minus-reads, plus-reads}
use borrow.Author.Rules.{rules}
use Rattle.gurandepi.proofs.signed_grams.Goals as goal

pub overflow_sub-result : goal.overflow_sub-result
overflow_sub-result c = search (minus-fits, rules)

pub returns-then-below : goal.returns-then-below
returns-then-below c = search (minus-reads, rules)

pub returns : goal.returns
returns c = search (plus-reads, rules)
