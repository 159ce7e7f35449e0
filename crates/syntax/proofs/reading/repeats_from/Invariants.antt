use Prim.Native.Nat.{ℕ, ◌≤◌, ◌<◌, ◌-◌, ◌+◌}
use mathlib.Core.Path.{◌≡◌, refl, sym, ◌∙◌}
use mathlib.Core.Bool.{Bool, true, false}
use borrow.Author.Rules.{rules}
use lib.ListN.{length}
use Rattle.syntax.specs.Segment.{pieces_at, repeats}
use Rattle.syntax.proofs.SegmentLaws.{edge-steps, Repeating, repeating-over, repeating-yes, repeating-no, repeating-on}
use Rattle.syntax.proofs.reading.repeats_from.Given as goal

abbrev pub invariant-loop-q : goal.invariant-loop-q
invariant-loop-q l = Repeating l.t.syntax (repeats (pieces_at l.t.syntax.service l.s l.p)) l.s l.i

abbrev pub decreases-loop-q : goal.decreases-loop-q
decreases-loop-q l = length l.s - l.i
