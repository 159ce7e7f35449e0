use Rattle.std.proofs.Common.{ℕ, List, subst, rules}
use Rattle.sha.specs.Loops.{Spreading}
use Rattle.sha.specs.LoopsLaws.{loading-start, loading-on, loading-end, spreading-start, spreading-on, spreading-end}
use Rattle.sha.proofs.block.schedule.Goals as goal

pub loop-i-init : goal.loop-i-init
loop-i-init c = search (loading-start, rules)

pub loop-i-preserved : goal.loop-i-preserved
loop-i-preserved c = search (loading-on, rules)

pub loop-t-init : goal.loop-t-init
loop-t-init c = subst (λ (m : List ℕ). Spreading m c.loop-i.w 16) (loading-end c.loop-i.invariant c.loop-i-test.false) (spreading-start c.loop-i.invariant.size)

pub loop-t-preserved : goal.loop-t-preserved
loop-t-preserved c = search (spreading-on, rules)

pub returns : goal.returns
returns c = search (spreading-end, rules)
