use Prim.Native.Nat.{◌-◌}
use lib.ListN.{length, drop}
use Rattle.syntax.specs.Content.{content}
use Rattle.elements.specs.Amounts.{fraction_of}
use Rattle.elements.specs.AmountsLaws.{Parting, parting-starts, parting-fits, parting-scales, parting-none, parting-end, parting-less, parting-below, parting-above, parting-long, parting-on}
use borrow.Author.Rules.{rules}
use Rattle.elements.proofs.amounts.fraction.Goals as goal

pub loop-b-init : goal.loop-b-init
loop-b-init c = parting-starts _ _ _ _ _ c.requires

pub returns-then-b-lt48 : goal.returns-then-b-lt48
returns-then-b-lt48 c = search (parting-below, rules)

pub returns-then-b-gt57 : goal.returns-then-b-gt57
returns-then-b-gt57 c = search (parting-above, rules)

pub returns-then-decimals-n : goal.returns-then-decimals-n
returns-then-decimals-n c = search (parting-long, rules)

pub overflow_mul-g : goal.overflow_mul-g
overflow_mul-g c =
    let g = c in
    let h = parting-fits g.loop-b.invariant c.if-decimals-n.false in
    search rules

pub overflow_add-g : goal.overflow_add-g
overflow_add-g c =
    let g = c in
    let h = parting-fits g.loop-b.invariant c.if-decimals-n.false in
    search rules

pub loop-b-smaller : goal.loop-b-smaller
loop-b-smaller c = search (parting-less, rules)

pub loop-b-preserved : goal.loop-b-preserved
loop-b-preserved c = search (parting-on, rules)

pub returns-then-n-eq0 : goal.returns-then-n-eq0
returns-then-n-eq0 c = search (parting-none, rules)

pub scaled-requires : goal.scaled-requires
scaled-requires c = record { zeros_bound = search (parting-scales, rules); zeros_bound_2 = search rules }

pub returns : goal.returns
returns c = search (parting-end, rules)
