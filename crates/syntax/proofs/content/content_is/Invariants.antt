use Prim.Native.Nat.{◌-◌}
use mathlib.Core.Path.{refl}
use lib.ListN.{length}
use Rattle.syntax.specs.Content.{content}
use Rattle.syntax.specs.Octets.{same}
use Rattle.syntax.proofs.ContentLaws.{Spelling, spelling-end, spelling-less, spelling-short, spelling-other, spelling-on}
use borrow.Author.Rules.{rules}
use Rattle.syntax.proofs.content.content_is.Given as goal

abbrev pub invariant-loop-b : goal.invariant-loop-b
invariant-loop-b l = Spelling l.release (same (content l.release l.x) l.t) l.x l.i l.t l.k

abbrev pub decreases-loop-b : goal.decreases-loop-b
decreases-loop-b l = length l.x - l.i
