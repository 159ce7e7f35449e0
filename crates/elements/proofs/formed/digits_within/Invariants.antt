use Prim.Native.Nat.{◌-◌}
use lib.ListN.{length}
use borrow.Author.Rules.{rules}
use Rattle.elements.specs.FormedLaws.{Tallying, tallying-start, tallying-below, tallying-above, tallying-fits, tallying-less, tallying-on, tallying-few, tallying-end}
use Rattle.elements.proofs.formed.digits_within.Given as goal

abbrev pub invariant-loop-b : goal.invariant-loop-b
invariant-loop-b l = Tallying l.release l.x l.i l.n

abbrev pub decreases-loop-b : goal.decreases-loop-b
decreases-loop-b l = length l.x - l.i
