use borrow.Author.Rules.{rules}
use Prim.Native.Nat.{ℕ, ◌≤◌, ◌<◌, ◌-◌, ◌+◌}
use mathlib.Core.Path.{◌≡◌, refl, sym, ◌∙◌}
use mathlib.Core.Bool.{true, false}
use lib.ListN.{length, drop}
use Rattle.syntax.specs.Cutting.{stop_from}
use Rattle.syntax.specs.Clean.{Going}
use Rattle.syntax.proofs.CuttingLaws.{going-none, class-on, class-bad, class-hit, class-freed, class-cut}
use Rattle.syntax.proofs.cutting.stop.Given as goal

abbrev pub invariant-loop-i : goal.invariant-loop-i
invariant-loop-i l = Going l.t.syntax l.n (stop_from l.t.syntax.service l.n false (drop l.from l.s) l.from) l.s l.i

abbrev pub decreases-loop-i : goal.decreases-loop-i
decreases-loop-i l = length l.s - l.i
