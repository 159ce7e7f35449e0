use borrow.Author.Rules.{rules}
use Prim.Native.Nat.{◌-◌}
use mathlib.Core.Path.{refl}
use lib.ListN.{length, drop}
use Rattle.syntax.specs.Content.{content, blank}
use Rattle.syntax.proofs.BareLaws.{Blanking, blanking-less, blanking-other, blanking-on, blanking-end}
use Rattle.syntax.proofs.content.only_spaces.Goals as goal

pub loop-b-init : goal.loop-b-init
loop-b-init c = record { are = refl }

pub returns-then-b-ne32 : goal.returns-then-b-ne32
returns-then-b-ne32 c = search (blanking-other, rules)

pub loop-b-smaller : goal.loop-b-smaller
loop-b-smaller c = search (blanking-less, rules)

pub loop-b-preserved : goal.loop-b-preserved
loop-b-preserved c = search (blanking-on, rules)

pub returns : goal.returns
returns c = search (blanking-end, rules)
