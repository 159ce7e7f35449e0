use Prim.Native.Nat.{ℕ, ◌≤◌, ◌<◌, ◌-◌, ◌+◌}
use mathlib.Core.Path.{◌≡◌, refl, sym, ◌∙◌}
use mathlib.Core.Bool.{Bool, true, false}
use borrow.Author.Rules.{rules}
use lib.ListN.{length}
use Rattle.syntax.specs.Segment.{pieces_at, at_component}
use Rattle.syntax.proofs.SegmentLaws.{edge-steps, Nearing, nearing-over, nearing-there, nearing-gone, nearing-on}
use Rattle.syntax.proofs.reading.component_from.Given as goal

abbrev pub invariant-loop-q : goal.invariant-loop-q
invariant-loop-q l = Nearing l.t.syntax (at_component l.c (pieces_at l.t.syntax.service l.s l.p)) l.s l.i l.n

abbrev pub decreases-loop-q : goal.decreases-loop-q
decreases-loop-q l = length l.s - l.i
