use Prim.Native.Nat.{◌-◌}
use Rattle.references.specs.RefsLaws.{Packing, packing-start, packing-fits, packing-on, packing-end, packing-full}
use borrow.Author.Rules.{rules}
use Rattle.references.proofs.refs.word_at.Goals as goal

pub loop-n-init : goal.loop-n-init
loop-n-init c = search (packing-start, rules)

pub overflow_mul-v : goal.overflow_mul-v
overflow_mul-v c = let p = packing-fits c.loop-n.invariant c.loop-n-test.true in search rules

pub overflow_add-v : goal.overflow_add-v
overflow_add-v c = let p = packing-fits c.loop-n.invariant c.loop-n-test.true in search rules

pub loop-n-preserved : goal.loop-n-preserved
loop-n-preserved c = search (packing-on, rules)

pub returns-in-None : goal.returns-in-None
returns-in-None c = search (packing-end, rules)

pub returns : goal.returns
returns c = search (packing-full, rules)
