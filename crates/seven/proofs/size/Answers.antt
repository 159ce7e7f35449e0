use Prim.Native.Nat.{◌-◌}
use mathlib.Core.Path.{sym, refl}
use native.Mathlib.Omega.{arith}
use lib.Count.{leading_le, count_leading_zeros}
use Rattle.seven.specs.SizeLaws.{size_none, size-some}
use Rattle.seven.specs.TripLaws.{one-le}
use Rattle.seven.proofs.size.Goals as goal

pub overflow_sub-digits : goal.overflow_sub-digits
overflow_sub-digits c = omega (arith, leading_le 64 c.args.n)

pub returns-then-digits-eq0 : goal.returns-then-digits-eq0
returns-then-digits-eq0 c = (sym (size_none c.args.n (64 - count_leading_zeros 64 c.args.n) (omega arith) refl c.if-digits-eq0.true), omega arith, omega arith)

pub returns : goal.returns
returns c = (sym (size-some c.args.n (64 - count_leading_zeros 64 c.args.n) (omega arith) refl c.if-digits-eq0.false), omega (arith, one-le _ c.if-digits-eq0.false), omega arith)
