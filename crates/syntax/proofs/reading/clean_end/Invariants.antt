use Prim.Native.Nat.{◌-◌}
use lib.ListN.{length}
use Rattle.syntax.proofs.CleanLaws.{tidy-start, tidy-then, tidy-none, tidy-separator, tidy-end, tidy-bad, tidy-short, tidy-freed-bad, tidy-freed}
use Rattle.syntax.specs.Clean.{Tidy}
use borrow.Author.Rules.{rules}
use Rattle.syntax.proofs.reading.clean_end.Given as goal

abbrev pub invariant-loop-i : goal.invariant-loop-i
invariant-loop-i l = Tidy l.t.syntax l.s l.from l.i

abbrev pub decreases-loop-i : goal.decreases-loop-i
decreases-loop-i l = length l.s - l.i
