use Rattle.lines.specs.WordsLaws.{Contenting}
use lib.ListN.{length}
use mathlib.Core.Path.{◌≡◌}
use Prim.Native.Nat.{◌-◌}
use Rattle.lines.proofs.words.put_content.Given as goal

abbrev pub invariant-loop-b : goal.invariant-loop-b
invariant-loop-b l = Contenting l.release l.initial.out l.at l.x l.i l.out l.p × (length l.out ≡ length l.initial.out)

abbrev pub decreases-loop-b : goal.decreases-loop-b
decreases-loop-b l = length l.x - l.i
