use Prim.Native.Nat.{◌-◌}
use lib.ListN.{length, drop}
use Rattle.syntax.specs.Content.{content}
use Rattle.grammar.specs.Loads.{shape, weight_right, weight}
use Rattle.elements.specs.Amounts.{weight_is}
use Rattle.elements.specs.AmountsLaws.{Wholing, wholing-starts, wholing-small, wholing-scales, wholing-none, wholing-end, wholing-less, wholing-bare, wholing-mark, wholing-below, wholing-above, wholing-long, wholing-on}
use borrow.Author.Rules.{rules}
use Rattle.elements.proofs.amounts.weight_from.Given as goal

abbrev pub invariant-loop-b : goal.invariant-loop-b
invariant-loop-b l =
    Wholing l.release l.f.whole l.f.decimals (weight_is (weight_right (shape l.f.whole l.f.decimals) (content l.release (drop l.from l.x))) (weight (shape l.f.whole l.f.decimals) (content l.release (drop l.from l.x)))) l.x l.i l.n l.v

abbrev pub decreases-loop-b : goal.decreases-loop-b
decreases-loop-b l = length l.x - l.i
