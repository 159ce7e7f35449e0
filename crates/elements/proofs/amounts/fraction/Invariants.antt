use Prim.Native.Nat.{◌-◌}
use lib.ListN.{length, drop}
use Rattle.syntax.specs.Content.{content}
use Rattle.elements.specs.Amounts.{fraction_of}
use Rattle.elements.specs.AmountsLaws.{Parting, parting-starts, parting-fits, parting-scales, parting-none, parting-end, parting-less, parting-below, parting-above, parting-long, parting-on}
use borrow.Author.Rules.{rules}
use Rattle.elements.proofs.amounts.fraction.Given as goal

abbrev pub invariant-loop-b : goal.invariant-loop-b
invariant-loop-b l = Parting l.release l.decimals (fraction_of l.v l.decimals (content l.release (drop l.from l.x))) l.x l.i l.n l.g

abbrev pub decreases-loop-b : goal.decreases-loop-b
decreases-loop-b l = length l.x - l.i
