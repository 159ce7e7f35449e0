use Prim.Native.Nat.{ℕ, ◌≤◌, ◌<◌, ◌-◌, ◌+◌}
use mathlib.Core.Path.{◌≡◌, refl, sym, ◌∙◌}
use mathlib.Core.Bool.{Bool, true, false}
use borrow.Author.Rules.{rules}
use lib.ListN.{length}
use Rattle.syntax.specs.Segment.{pieces_at, at_element}
use Rattle.syntax.proofs.SegmentLaws.{edge-steps, Passing, passing-there, passing-over, passing-end, passing-next, passing-on}
use Rattle.syntax.proofs.reading.element_from.Given as goal

abbrev pub invariant-loop-n : goal.invariant-loop-n
invariant-loop-n l = Passing l.t.syntax (at_element l.e (pieces_at l.t.syntax.service l.s l.a)) l.s l.i l.n

abbrev pub decreases-loop-n : goal.decreases-loop-n
decreases-loop-n l = length l.s - l.i
