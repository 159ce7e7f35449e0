use Prim.Native.Nat.{ℕ, ◌≤◌, ◌<◌, ◌-◌, ◌+◌}
use mathlib.Core.Path.{◌≡◌, refl, sym, ◌∙◌}
use mathlib.Core.Bool.{Bool, true, false}
use borrow.Author.Rules.{rules}
use lib.ListN.{length}
use Rattle.syntax.specs.Segment.{pieces_at, any_repeats}
use Rattle.syntax.proofs.SegmentLaws.{edge-steps, Anywhere, anywhere-over, anywhere-yes, anywhere-end, anywhere-on}
use Rattle.syntax.proofs.reading.segment_repeats.Given as goal

abbrev pub invariant-loop-q : goal.invariant-loop-q
invariant-loop-q l = Anywhere l.t.syntax (any_repeats (pieces_at l.t.syntax.service l.s l.a)) l.s l.i

abbrev pub decreases-loop-q : goal.decreases-loop-q
decreases-loop-q l = length l.s - l.i
