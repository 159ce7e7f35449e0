use Prim.Native.Nat.{◌-◌}
use lib.ListN.{length}
use Rattle.syntax.specs.Content.{content}
use Rattle.syntax.specs.Scanning.{number_in}
use Rattle.syntax.proofs.ContentLaws.{Numbering, numbering-starts, numbering-fits, numbering-none, numbering-end, numbering-less, numbering-below, numbering-above, numbering-long, numbering-on}
use borrow.Author.Rules.{rules}
use Rattle.syntax.proofs.content.digits_value.Given as goal

abbrev pub invariant-loop-b : goal.invariant-loop-b
invariant-loop-b l = Numbering l.release (number_in (content l.release l.x)) l.x l.i l.n l.v

abbrev pub decreases-loop-b : goal.decreases-loop-b
decreases-loop-b l = length l.x - l.i
