use borrow.Author.Rules.{rules}
use Prim.Native.Nat.{◌+◌, ◌-◌}
use native.Mathlib.Omega.{arith}
use mathlib.Core.Path.{◌≡◌, refl}
use lib.ListN.{length}
use Rattle.syntax.specs.Scanning.{cut_at}
use Rattle.syntax.specs.Clean.{Cutting}
use Rattle.syntax.proofs.CuttingLaws.{cutting-at, cutting-from, cutting-four, cutting-eight}
use Rattle.syntax.proofs.cutting.run.Goals as goal

pub returns-then-s-lt8 : goal.returns-then-s-lt8
returns-then-s-lt8 c = refl

pub loop-i-init : goal.loop-i-init
loop-i-init c = (omega arith, cutting-at refl)

pub returns-then-from-four : goal.returns-then-from-four
returns-then-from-four c = cutting-from c.loop-i.invariant.1

pub returns-then-from-four-2 : goal.returns-then-from-four-2
returns-then-from-four-2 c = cutting-from (cutting-four c.loop-i.invariant.1 c.four.ensures (omega arith))

pub loop-i-preserved : goal.loop-i-preserved
loop-i-preserved c =
    let round = c.loop-i in
    (round.invariant.0, cutting-eight round.invariant.1 c.four.ensures (omega arith) c.four-in-loop-i.ensures (omega arith))

pub returns : goal.returns
returns c = cutting-from c.loop-i.invariant.1
