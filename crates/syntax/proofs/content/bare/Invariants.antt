use borrow.Author.Rules.{rules}
use Rattle.syntax.proofs.BareLaws.{Trailing, trailing-start, trailing-hit, trailing-on, trailing-none}
use Rattle.syntax.proofs.content.bare.Given as goal

abbrev pub invariant-loop-n : goal.invariant-loop-n
invariant-loop-n l = Trailing l.x l.n

abbrev pub decreases-loop-n : goal.decreases-loop-n
decreases-loop-n l = l.n
