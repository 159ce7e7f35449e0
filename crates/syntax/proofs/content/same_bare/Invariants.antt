use borrow.Author.Rules.{rules}
use Prim.Native.Nat.{◌-◌}
use mathlib.Core.Path.{refl}
use lib.ListN.{length}
use Rattle.syntax.specs.Octets.{same}
use Rattle.syntax.specs.Content.{content, compared}
use Rattle.syntax.proofs.BareLaws.{Comparing, comparing-less, comparing-other, comparing-on, comparing-left, comparing-right}
use Rattle.syntax.proofs.content.same_bare.Given as goal

abbrev pub invariant-loop-b : goal.invariant-loop-b
invariant-loop-b l = Comparing l.release l.other (same (compared (content l.release l.x)) (compared (content l.other l.z))) l.x l.i l.z l.k

abbrev pub decreases-loop-b : goal.decreases-loop-b
decreases-loop-b l = length l.x - l.i
