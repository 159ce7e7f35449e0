use borrow.Author.Rules.{rules}
use Prim.Native.Nat.{◌-◌}
use mathlib.Core.Path.{refl}
use lib.ListN.{length}
use Rattle.syntax.specs.Octets.{same}
use Rattle.syntax.specs.Content.{content, compared}
use Rattle.syntax.proofs.BareLaws.{Comparing, comparing-less, comparing-other, comparing-on, comparing-left, comparing-right}
use Rattle.syntax.proofs.content.same_bare.Goals as goal

pub loop-b-init : goal.loop-b-init
loop-b-init c = record { compares = refl }

pub returns-then-b-c : goal.returns-then-b-c
returns-then-b-c c = search (comparing-other, rules)

pub loop-b-smaller : goal.loop-b-smaller
loop-b-smaller c = search (comparing-less, rules)

pub loop-b-preserved : goal.loop-b-preserved
loop-b-preserved c = search (comparing-on, rules)

pub returns-in-None-g : goal.returns-in-None-g
returns-in-None-g c = search (comparing-left, rules)

pub returns-in-None : goal.returns-in-None
returns-in-None c = search (comparing-right, rules)
