use borrow.Author.Rules.{rules}
use Prim.Native.Nat.{ℕ, ◌≤◌, ◌<◌, ◌-◌, ◌+◌}
use mathlib.Core.Path.{◌≡◌, refl, sym, ◌∙◌}
use mathlib.Core.Bool.{true, false}
use lib.ListN.{length, drop}
use Rattle.syntax.specs.Scanning.{cut_at}
use Rattle.syntax.specs.Clean.{Cutting}
use Rattle.syntax.proofs.CuttingLaws.{cutting-at, cutting-none, cutting-on, cutting-end, cutting-bad, cutting-short, cutting-freed, cutting-freed-bad}
use Rattle.syntax.proofs.cutting.scan.Goals as goal

pub loop-i-init : goal.loop-i-init
loop-i-init c = cutting-at c.run-i.ensures

pub loop-i-preserved-then-c-lt-TERMINATOR : goal.loop-i-preserved-then-c-lt-TERMINATOR
loop-i-preserved-then-c-lt-TERMINATOR c = search (cutting-on, rules)

pub returns-then-c-eq-TERMINATOR : goal.returns-then-c-eq-TERMINATOR
returns-then-c-eq-TERMINATOR c = search (cutting-end, rules)

pub returns-then-c-eq-OUTSIDE : goal.returns-then-c-eq-OUTSIDE
returns-then-c-eq-OUTSIDE c = search (cutting-bad, rules)

pub returns-then-s-i : goal.returns-then-s-i
returns-then-s-i c = search (cutting-short, rules)

pub returns-then-d-eq-OUTSIDE : goal.returns-then-d-eq-OUTSIDE
returns-then-d-eq-OUTSIDE c = search (cutting-freed-bad, rules)

pub loop-i-preserved : goal.loop-i-preserved
loop-i-preserved c =
    let q = c in
    let r = q in
    cutting-freed r.loop-i.invariant r.loop-i-test.true r.class-c.ensures q.if-c-lt-TERMINATOR.false
    q.if-c-eq-TERMINATOR.false q.if-c-eq-OUTSIDE.false q.if-s-i.false c.class-d.ensures c.if-d-eq-OUTSIDE.false

pub returns : goal.returns
returns c = search (cutting-none, rules)
