use Prim.Native.Nat.{◌-◌}
use mathlib.Core.Path.{refl}
use borrow.Author.Rules.{rules}
use Rattle.message.specs.HeadsLaws.{Naming, naming-hit, naming-on, naming-end}
use Rattle.message.proofs.heads.header_named.Goals as goal

pub loop-i-init : goal.loop-i-init
loop-i-init c = record { most = search rules; none = refl }

pub returns-then-same_reference : goal.returns-then-same_reference
returns-then-same_reference c = search (naming-hit, rules)

pub loop-i-preserved : goal.loop-i-preserved
loop-i-preserved c = search (naming-on, rules)

pub returns : goal.returns
returns c = search (naming-end, rules)
