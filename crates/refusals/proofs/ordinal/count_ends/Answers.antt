use Rattle.std.proofs.Common.{◌≤◌, ◌∙◌, rules}
use Rattle.refusals.specs.OrdinalLaws.{byte-one, counting-start, counting-on, counting-end, counting-fits}
use Rattle.refusals.proofs.ordinal.count_ends.Goals as goal

pub loop-b-init : goal.loop-b-init
loop-b-init c = counting-start

pub overflow_add-n : goal.overflow_add-n
overflow_add-n c =
    let e : c.from-n.result ≤ 1 = rw c.from-n.ensures (byte-one c.ends_here.result).1 in
    let h = counting-fits c.loop-b.invariant c.loop-b-test.true _ e in
    search rules

pub loop-b-preserved : goal.loop-b-preserved
loop-b-preserved c = counting-on c.loop-b.invariant c.loop-b-test.true c.ends_here.ensures (c.from-n.ensures ∙ (byte-one c.ends_here.result).0) c.frees_next-freed.ensures

pub returns : goal.returns
returns c = counting-end c.loop-b.invariant c.loop-b-test.false
