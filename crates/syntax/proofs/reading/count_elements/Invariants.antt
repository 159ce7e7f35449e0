use Prim.Native.Nat.{ℕ, ◌≤◌, ◌<◌, ◌-◌, ◌+◌}
use mathlib.Core.Path.{◌≡◌, refl, sym, ◌∙◌}
use mathlib.Core.Bool.{Bool, true, false}
use borrow.Author.Rules.{rules}
use lib.ListN.{length}
use Rattle.syntax.specs.Segment.{pieces_at, elements}
use Rattle.syntax.proofs.SegmentLaws.{edge-steps, Numbering, numbering-over, numbering-end, numbering-next, numbering-on, numbering-fits}
use Rattle.syntax.proofs.reading.count_elements.Given as goal

abbrev pub invariant-loop-q : goal.invariant-loop-q
invariant-loop-q l = Numbering l.t.syntax (elements (pieces_at l.t.syntax.service l.s l.a)) l.s l.i l.n

abbrev pub decreases-loop-q : goal.decreases-loop-q
decreases-loop-q l = length l.s - l.i
