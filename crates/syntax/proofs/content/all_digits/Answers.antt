use Prim.Native.Nat.{◌-◌}
use mathlib.Core.Path.{refl}
use lib.ListN.{length}
use Rattle.syntax.specs.Content.{content, all_digits}
use Rattle.syntax.proofs.ContentLaws.{Digital, digital-end, digital-less, digital-below, digital-above, digital-on}
use borrow.Author.Rules.{rules}
use Rattle.syntax.proofs.content.all_digits.Goals as goal

pub loop-b-init : goal.loop-b-init
loop-b-init c = record { are = refl }

pub returns-then-b-lt48 : goal.returns-then-b-lt48
returns-then-b-lt48 c = search (digital-below, rules)

pub returns-then-b-gt57 : goal.returns-then-b-gt57
returns-then-b-gt57 c = search (digital-above, rules)

pub loop-b-smaller : goal.loop-b-smaller
loop-b-smaller c = search (digital-less, rules)

pub loop-b-preserved : goal.loop-b-preserved
loop-b-preserved c = search (digital-on, rules)

pub returns : goal.returns
returns c = search (digital-end, rules)
