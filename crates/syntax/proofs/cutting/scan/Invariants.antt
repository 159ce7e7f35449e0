use borrow.Author.Rules.{rules}
use Prim.Native.Nat.{ℕ, ◌≤◌, ◌<◌, ◌-◌, ◌+◌}
use mathlib.Core.Path.{◌≡◌, refl, sym, ◌∙◌}
use mathlib.Core.Bool.{true, false}
use lib.ListN.{length, drop}
use Rattle.syntax.specs.Scanning.{cut_at}
use Rattle.syntax.specs.Clean.{Cutting}
use Rattle.syntax.proofs.CuttingLaws.{cutting-at, cutting-none, cutting-on, cutting-end, cutting-bad, cutting-short, cutting-freed, cutting-freed-bad}
use Rattle.syntax.proofs.cutting.scan.Given as goal

abbrev pub invariant-loop-i : goal.invariant-loop-i
invariant-loop-i l = Cutting l.t.syntax (cut_at l.t.syntax l.s l.from) l.s l.i

abbrev pub decreases-loop-i : goal.decreases-loop-i
decreases-loop-i l = length l.s - l.i
