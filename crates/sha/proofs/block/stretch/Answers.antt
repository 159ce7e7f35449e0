use Rattle.std.proofs.Common.{arith}
use Rattle.sha.specs.LoopsLaws.{stretch-on, stretch-end}
use Rattle.sha.proofs.block.stretch.Goals as goal

pub loop-x-preserved : goal.loop-x-preserved
loop-x-preserved g c = λ t d. stretch-on c.args.w.now c.args.h c.loop-x.s c.loop-x.x-index d (c.loop-x.invariant t d) (omega arith) c.f.ensures c.round-s.ensures

pub returns : goal.returns
returns g c = λ t d. stretch-end c.args.w.now c.args.h c.loop-x.s c.loop-x.x-index d (c.loop-x.invariant t d) (omega arith)
