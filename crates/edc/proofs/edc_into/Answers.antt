use Rattle.std.proofs.Common.{refl, rules}
use Rattle.edc.specs.LoopLaws.{reading-start, reading-lone, reading-left, reading-end, reading-plain, reading-control, reading-less, reading-fits, reading-on}
use Rattle.edc.proofs.edc_into.Goals as goal

pub loop-a-init : goal.loop-a-init
loop-a-init c = (reading-start, refl)

pub returns-then-masks-eq7 : goal.returns-then-masks-eq7
returns-then-masks-eq7 c = reading-lone c.loop-a.invariant.0 c.next_octet.ensures c.in_default.is c.if-masks-eq7.true

pub returns-then-c-eq0 : goal.returns-then-c-eq0
returns-then-c-eq0 c = reading-end c.loop-a.invariant.0 c.next_octet.ensures c.in_default.is c.if-masks-eq7.false c.if-c-eq0.true

pub returns-else-c-eq0 : goal.returns-else-c-eq0
returns-else-c-eq0 c = reading-left c.loop-a.invariant.0 c.next_octet.ensures c.in_default.is c.if-masks-eq7.false c.if-c-eq0.false

pub returns-then-a-ne1 : goal.returns-then-a-ne1
returns-then-a-ne1 c = search (reading-plain, rules)

pub loop-a-smaller-then-masks-lt1 : goal.loop-a-smaller-then-masks-lt1
loop-a-smaller-then-masks-lt1 c = reading-less c.loop-a.invariant.0 c.next_octet.ensures c.in-Some.is

pub loop-a-preserved-then-masks-lt1 : goal.loop-a-preserved-then-masks-lt1
loop-a-preserved-then-masks-lt1 c = (reading-control c.loop-a.invariant.0 c.next_octet.ensures c.in-Some.is c.if-a-ne1.false c.in-empty.len_below, search rules)

pub overflow_add-n : goal.overflow_add-n
overflow_add-n c = let h = reading-fits c.loop-a.invariant.0 c.next_octet.ensures c.in-Some.is in search rules

pub loop-a-smaller : goal.loop-a-smaller
loop-a-smaller c = reading-less c.loop-a.invariant.0 c.next_octet.ensures c.in-Some.is

pub loop-a-preserved : goal.loop-a-preserved
loop-a-preserved c = (reading-on c.loop-a.invariant.0 c.next_octet.ensures c.in-Some.is c.if-a-ne1.false c.in-len1-up.len_at_least c.lowered_by.ensures c.left_of-c.ensures c.store.ensures, search rules)
