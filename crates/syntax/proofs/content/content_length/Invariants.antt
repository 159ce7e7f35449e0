use Prim.Native.Nat.{◌-◌}
use native.Mathlib.Nat.{zero-add}
use mathlib.Core.Path.{sym}
use lib.ListN.{length}
use Rattle.syntax.specs.Content.{content}
use Rattle.syntax.proofs.ContentLaws.{Lengthening, lengthening-end, lengthening-less, lengthening-fits, lengthening-on}
use borrow.Author.Rules.{rules}
use Rattle.syntax.proofs.content.content_length.Given as goal

abbrev pub invariant-loop-j : goal.invariant-loop-j
invariant-loop-j l = Lengthening l.release (length (content l.release l.x)) l.x l.i l.n

abbrev pub decreases-loop-j : goal.decreases-loop-j
decreases-loop-j l = length l.x - l.i
