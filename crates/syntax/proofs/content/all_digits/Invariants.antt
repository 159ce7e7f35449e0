use Prim.Native.Nat.{◌-◌}
use mathlib.Core.Path.{refl}
use lib.ListN.{length}
use Rattle.syntax.specs.Content.{content, all_digits}
use Rattle.syntax.proofs.ContentLaws.{Digital, digital-end, digital-less, digital-below, digital-above, digital-on}
use borrow.Author.Rules.{rules}
use Rattle.syntax.proofs.content.all_digits.Given as goal

abbrev pub invariant-loop-b : goal.invariant-loop-b
invariant-loop-b l = Digital l.release (all_digits (content l.release l.x)) l.x l.i

abbrev pub decreases-loop-b : goal.decreases-loop-b
decreases-loop-b l = length l.x - l.i
