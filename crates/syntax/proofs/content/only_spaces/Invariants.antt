use borrow.Author.Rules.{rules}
use Prim.Native.Nat.{◌-◌}
use mathlib.Core.Path.{refl}
use lib.ListN.{length, drop}
use Rattle.syntax.specs.Content.{content, blank}
use Rattle.syntax.proofs.BareLaws.{Blanking, blanking-less, blanking-other, blanking-on, blanking-end}
use Rattle.syntax.proofs.content.only_spaces.Given as goal

abbrev pub invariant-loop-b : goal.invariant-loop-b
invariant-loop-b l = Blanking l.release (blank (content l.release (drop l.from l.x))) l.x l.i

abbrev pub decreases-loop-b : goal.decreases-loop-b
decreases-loop-b l = length l.x - l.i
