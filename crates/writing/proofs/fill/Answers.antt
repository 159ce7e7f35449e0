use Rattle.writing.specs.DecimalLaws.{filling-start, filling-more, filling-on, filling-end}
use borrow.Author.Rules.{rules}
use Rattle.writing.proofs.fill.Goals as goal

pub loop-m-init : goal.loop-m-init
loop-m-init c = search (filling-start, rules)

pub overflow_sub-k : goal.overflow_sub-k
overflow_sub-k c = search (filling-more, rules)

pub loop-m-preserved : goal.loop-m-preserved
loop-m-preserved c = search (filling-on, rules)

pub returns : goal.returns
returns c = search (filling-end, rules)
