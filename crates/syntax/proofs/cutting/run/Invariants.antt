use borrow.Author.Rules.{rules}
use Prim.Native.Nat.{◌+◌, ◌-◌}
use native.Mathlib.Omega.{arith}
use mathlib.Core.Path.{◌≡◌, refl}
use lib.ListN.{length}
use Rattle.syntax.specs.Scanning.{cut_at}
use Rattle.syntax.specs.Clean.{Cutting}
use Rattle.syntax.proofs.CuttingLaws.{cutting-at, cutting-from, cutting-four, cutting-eight}
use Rattle.syntax.proofs.cutting.run.Given as goal

abbrev pub invariant-loop-i : goal.invariant-loop-i
invariant-loop-i l = (l.last + 8 ≡ length l.s) × Cutting l.t.syntax (cut_at l.t.syntax l.s l.from) l.s l.i

abbrev pub decreases-loop-i : goal.decreases-loop-i
decreases-loop-i l = length l.s - l.i
