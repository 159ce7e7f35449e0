use Prim.Native.Nat.{◌-◌}
use lib.ListN.{length}
use borrow.Author.Rules.{rules}
use Rattle.elements.specs.FormedLaws.{Tallying, tallying-start, tallying-below, tallying-above, tallying-fits, tallying-less, tallying-on, tallying-few, tallying-end}
use Rattle.elements.proofs.formed.digits_within.Goals as goal

pub loop-b-init : goal.loop-b-init
loop-b-init c = tallying-start _ _

pub returns-then-b-lt48 : goal.returns-then-b-lt48
returns-then-b-lt48 c = tallying-below c.loop-b.invariant c.next_octet.ensures c.in-Some.is _ _ c.if-b-lt48.true

pub returns-then-b-gt57 : goal.returns-then-b-gt57
returns-then-b-gt57 c = tallying-above c.loop-b.invariant c.next_octet.ensures c.in-Some.is _ _ c.if-b-lt48.false c.if-b-gt57.true

pub overflow_add-n : goal.overflow_add-n
overflow_add-n c = let w = tallying-fits c.loop-b.invariant c.next_octet.ensures c.in-Some.is in search rules

pub loop-b-smaller : goal.loop-b-smaller
loop-b-smaller c = tallying-less c.loop-b.invariant c.next_octet.ensures c.in-Some.is

pub loop-b-preserved : goal.loop-b-preserved
loop-b-preserved c = tallying-on c.loop-b.invariant c.next_octet.ensures c.in-Some.is c.if-b-lt48.false c.if-b-gt57.false

pub returns-then-n-least : goal.returns-then-n-least
returns-then-n-least c = tallying-few c.loop-b.invariant c.next_octet.ensures c.in_default.is _ _ c.if-n-least.true

pub returns : goal.returns
returns c = tallying-end c.loop-b.invariant c.next_octet.ensures c.in_default.is _ _ c.if-n-least.false
