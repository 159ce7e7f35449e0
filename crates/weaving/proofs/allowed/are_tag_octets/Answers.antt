use borrow.Author.Rules.{rules}
use Rattle.weaving.specs.ValueLaws.{testing-start, testing-on, testing-bad, testing-end}
use Rattle.weaving.proofs.allowed.are_tag_octets.Goals as goal

pub loop-b-init : goal.loop-b-init
loop-b-init c = testing-start

pub loop-b-preserved : goal.loop-b-preserved
loop-b-preserved c = search (testing-on, rules)

pub returns-then-not-tag_octet : goal.returns-then-not-tag_octet
returns-then-not-tag_octet c = search (testing-bad, rules)

pub returns : goal.returns
returns c = search (testing-end, rules)
