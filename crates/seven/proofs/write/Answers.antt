use native.Mathlib.Omega.{arith}
use Rattle.seven.specs.WriteLaws.{writing_start, writing-on, writing-last, writing-end}
use Rattle.seven.proofs.write.Goals as goal

pub loop-i-init : goal.loop-i-init
loop-i-init c = writing_start (omega arith) (omega arith)

pub loop-i-preserved : goal.loop-i-preserved
loop-i-preserved c = writing-on c.loop-i.invariant c.loop-i-test.true c.store.ensures

pub overflow_cast-x-2 : goal.overflow_cast-x-2
overflow_cast-x-2 c = omega (arith, (writing-last c.loop-i.invariant c.loop-i-test.false).1)

pub returns : goal.returns
returns c = let w = writing-end c.loop-i.invariant c.loop-i-test.false c.store-2.ensures in record { laid = w.1; upper_bound = w.2 }
