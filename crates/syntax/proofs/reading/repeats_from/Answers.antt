use Prim.Native.Nat.{ℕ, ◌≤◌, ◌<◌, ◌-◌, ◌+◌}
use mathlib.Core.Path.{◌≡◌, refl, sym, ◌∙◌}
use mathlib.Core.Bool.{Bool, true, false}
use borrow.Author.Rules.{rules}
use lib.ListN.{length}
use Rattle.syntax.specs.Segment.{pieces_at, repeats}
use Rattle.syntax.proofs.SegmentLaws.{edge-steps, Repeating, repeating-over, repeating-yes, repeating-no, repeating-on}
use Rattle.syntax.proofs.reading.repeats_from.Goals as goal

pub loop-q-init : goal.loop-q-init
loop-q-init c = record { left = refl }

pub returns-then-k-eq3 : goal.returns-then-k-eq3
returns-then-k-eq3 c = search (repeating-yes, rules)

pub returns-then-k-ne2 : goal.returns-then-k-ne2
returns-then-k-ne2 c = search (repeating-no, rules)

pub overflow_add-i : goal.overflow_add-i
overflow_add-i c = let w = edge-steps c.args.t.now.syntax.service c.args.s.now c.loop-q.i c.piece_end.ensures c.in-Some.is in search rules

pub loop-q-smaller : goal.loop-q-smaller
loop-q-smaller c = let w = edge-steps c.args.t.now.syntax.service c.args.s.now c.loop-q.i c.piece_end.ensures c.in-Some.is in search rules

pub loop-q-preserved : goal.loop-q-preserved
loop-q-preserved c = search (repeating-on, rules)

pub returns : goal.returns
returns c = search (repeating-over, rules)
