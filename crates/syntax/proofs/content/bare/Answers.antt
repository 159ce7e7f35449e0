use borrow.Author.Rules.{rules}
use Rattle.syntax.proofs.BareLaws.{Trailing, trailing-start, trailing-hit, trailing-on, trailing-none}
use Rattle.syntax.proofs.content.bare.Goals as goal

pub loop-n-init : goal.loop-n-init
loop-n-init c = search (trailing-start, rules)

pub returns-then-last-release : goal.returns-then-last-release
returns-then-last-release c = search (trailing-hit, rules)

pub loop-n-preserved : goal.loop-n-preserved
loop-n-preserved c = search (trailing-on, rules)

pub returns : goal.returns
returns c = search (trailing-none, rules)
