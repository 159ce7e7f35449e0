use Prim.Native.Nat.{◌-◌}
use lib.ListN.{length, drop}
use Rattle.syntax.specs.Content.{content}
use Rattle.grammar.specs.Loads.{shape, weight_right, weight}
use Rattle.elements.specs.Amounts.{weight_is}
use Rattle.elements.specs.AmountsLaws.{Wholing, wholing-starts, wholing-small, wholing-scales, wholing-none, wholing-end, wholing-less, wholing-bare, wholing-mark, wholing-below, wholing-above, wholing-long, wholing-on}
use borrow.Author.Rules.{rules}
use Rattle.elements.proofs.amounts.weight_from.Goals as goal

pub loop-b-init : goal.loop-b-init
loop-b-init c = wholing-starts _ _ _ _ _ c.requires

pub returns-then-n-eq0 : goal.returns-then-n-eq0
returns-then-n-eq0 c = search (wholing-bare, rules)

pub fraction-requires : goal.fraction-requires
fraction-requires c = search (wholing-small, rules)

pub returns-then-is_mark : goal.returns-then-is_mark
returns-then-is_mark c = search (wholing-mark, rules)

pub returns-then-b-lt48 : goal.returns-then-b-lt48
returns-then-b-lt48 c = search (wholing-below, rules)

pub returns-then-b-gt57 : goal.returns-then-b-gt57
returns-then-b-gt57 c = search (wholing-above, rules)

pub returns-then-f-n : goal.returns-then-f-n
returns-then-f-n c = search (wholing-long, rules)

pub overflow_mul-v : goal.overflow_mul-v
overflow_mul-v c = let h = (wholing-small c.loop-b.invariant).0 in search rules

pub overflow_add-v : goal.overflow_add-v
overflow_add-v c = let h = (wholing-small c.loop-b.invariant).0 in search rules

pub loop-b-smaller : goal.loop-b-smaller
loop-b-smaller c = search (wholing-less, rules)

pub loop-b-preserved : goal.loop-b-preserved
loop-b-preserved c = search (wholing-on, rules)

pub returns-then-n-eq0-2 : goal.returns-then-n-eq0-2
returns-then-n-eq0-2 c = search (wholing-none, rules)

pub scaled-requires : goal.scaled-requires
scaled-requires c = record { zeros_bound = search (wholing-scales, rules); zeros_bound_2 = search rules }

pub returns : goal.returns
returns c = search (wholing-end, rules)
