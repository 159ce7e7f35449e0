use borrow.Author.Rules.{rules}
use Prim.Native.Nat.{◌-◌}
use lib.ListN.{length}
use Rattle.syntax.proofs.BareLaws.{Baring, baring-start, baring-part, baring-less, baring-space, baring-other}
use Rattle.syntax.proofs.content.bare_freed.Given as goal

abbrev pub invariant-loop-b : goal.invariant-loop-b
invariant-loop-b l = Baring l.release l.x l.i l.end

abbrev pub decreases-loop-b : goal.decreases-loop-b
decreases-loop-b l = length l.x - l.i
