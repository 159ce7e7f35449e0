use borrow.Author.Rules.{rules}
use Prim.Native.Nat.{ℕ, ◌≤◌, ◌<◌, ◌-◌, ◌+◌}
use mathlib.Core.Path.{◌≡◌, refl, sym, ◌∙◌}
use mathlib.Core.Bool.{true, false}
use lib.ListN.{length, drop}
use Rattle.syntax.specs.Cutting.{stop_from}
use Rattle.syntax.specs.Clean.{Going}
use Rattle.syntax.proofs.CuttingLaws.{going-none, class-on, class-bad, class-hit, class-freed, class-cut}
use Rattle.syntax.proofs.cutting.stop.Goals as goal

pub loop-i-init : goal.loop-i-init
loop-i-init c = record { finds = refl }

pub loop-i-preserved-then-c-n : goal.loop-i-preserved-then-c-n
loop-i-preserved-then-c-n c = search (class-on, rules)

pub returns-then-c-lt-RELEASE : goal.returns-then-c-lt-RELEASE
returns-then-c-lt-RELEASE c = search (class-hit, rules)

pub loop-i-preserved-then-c-eq-OUTSIDE : goal.loop-i-preserved-then-c-eq-OUTSIDE
loop-i-preserved-then-c-eq-OUTSIDE c = search (class-bad, rules)

pub returns-then-s-i : goal.returns-then-s-i
returns-then-s-i c = search (class-cut, rules)

pub loop-i-preserved : goal.loop-i-preserved
loop-i-preserved c = search (class-freed, rules)

pub returns : goal.returns
returns c = search (going-none, rules)
