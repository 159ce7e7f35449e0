use Prim.Native.Nat.{◌-◌}
use mathlib.Core.Path.{refl}
use borrow.Author.Rules.{rules}
use Rattle.message.specs.HeadsLaws.{Checking, checking-off, checking-on, checking-end}
use Rattle.message.proofs.heads.all_named.Goals as goal

pub loop-i-init : goal.loop-i-init
loop-i-init c = record { most = search rules; all = refl }

pub returns-then-heads-i-eq0 : goal.returns-then-heads-i-eq0
returns-then-heads-i-eq0 c = search (checking-off, rules)

pub loop-i-preserved : goal.loop-i-preserved
loop-i-preserved c = search (checking-on, rules)

pub returns : goal.returns
returns c = search (checking-end, rules)
