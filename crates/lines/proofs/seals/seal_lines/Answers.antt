use Rattle.lines.specs.SealsLaws.{sealing-start, sealing-on, sealing-end}
use mathlib.Core.Path.{refl}
use Prim.Native.Nat.{◌+◌}
use native.Mathlib.Omega.{arith}
use Rattle.lines.proofs.seals.seal_lines.Goals as goal

pub loop-i-init : goal.loop-i-init
loop-i-init c = sealing-start

pub seal_line-p-requires : goal.seal_line-p-requires
seal_line-p-requires c = record { end_bound = (rw c.next_at-end.ensures (c.args.x.now.near.starts (c.loop-i.i + 1)), c.requires.s_len_bound.0, omega (arith, c.loop-i.invariant.near, c.loop-i-test.true, c.args.x.now.near.headers, c.requires.s_len_bound.1)) }

pub loop-i-preserved : goal.loop-i-preserved
loop-i-preserved c = sealing-on c.loop-i.invariant c.loop-i-test.true refl c.next_at-end.ensures c.seal_line-p.ensures.laid c.seal_line-p.ensures.upper_bound

pub returns : goal.returns
returns c = let both = sealing-end c.loop-i.invariant c.loop-i-test.false c.args.x.now.near in record { laid = both.0; upper_bound = both.1 }
