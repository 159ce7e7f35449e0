use borrow.Author.Rules.{rules}
use Rattle.weaving.specs.ValueLaws.{testing-start, testing-on, testing-bad, testing-end}
use Rattle.weaving.proofs.value.is_writable.Goals as goal

pub loop-b-init : goal.loop-b-init
loop-b-init c = testing-start

pub loop-b-preserved : goal.loop-b-preserved
loop-b-preserved c = search (testing-on, rules)

pub returns-then-not-may_write : goal.returns-then-not-may_write
returns-then-not-may_write c = search (testing-bad, rules)

pub returns : goal.returns
returns c = search (testing-end, rules)
