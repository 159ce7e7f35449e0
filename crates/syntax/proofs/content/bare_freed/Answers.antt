use borrow.Author.Rules.{rules}
use Prim.Native.Nat.{◌-◌}
use lib.ListN.{length}
use Rattle.syntax.proofs.BareLaws.{Baring, baring-start, baring-part, baring-less, baring-space, baring-other}
use Rattle.syntax.proofs.content.bare_freed.Goals as goal

pub loop-b-init : goal.loop-b-init
loop-b-init c = search (baring-start, rules)

pub loop-b-smaller-then-b-ne32 : goal.loop-b-smaller-then-b-ne32
loop-b-smaller-then-b-ne32 c = search (baring-less, rules)

pub loop-b-preserved-then-b-ne32 : goal.loop-b-preserved-then-b-ne32
loop-b-preserved-then-b-ne32 c = search (baring-other, rules)

pub loop-b-smaller : goal.loop-b-smaller
loop-b-smaller c = search (baring-less, rules)

pub loop-b-preserved : goal.loop-b-preserved
loop-b-preserved c = search (baring-space, rules)

pub returns : goal.returns
returns c = search (baring-part, rules)
