use Prim.Native.Nat.{ℕ, ◌≤◌, ◌<◌, ◌-◌, ◌+◌}
use mathlib.Core.Path.{◌≡◌, refl, sym, ◌∙◌}
use mathlib.Core.Bool.{Bool, true, false}
use borrow.Author.Rules.{rules}
use lib.ListN.{length}
use Rattle.syntax.specs.Segment.{pieces_at, any_repeats}
use Rattle.syntax.proofs.SegmentLaws.{edge-steps, Anywhere, anywhere-over, anywhere-yes, anywhere-end, anywhere-on}
use Rattle.syntax.proofs.reading.segment_repeats.Goals as goal

pub loop-q-init : goal.loop-q-init
loop-q-init c = record { left = refl }

pub returns-then-k-eq3 : goal.returns-then-k-eq3
returns-then-k-eq3 c = search (anywhere-yes, rules)

pub returns-then-k-eq5 : goal.returns-then-k-eq5
returns-then-k-eq5 c = search (anywhere-end, rules)

pub overflow_add-i : goal.overflow_add-i
overflow_add-i c = let w = edge-steps c.args.t.now.syntax.service c.args.s.now c.loop-q.i c.piece_end.ensures c.in-Some.is in search rules

pub loop-q-smaller : goal.loop-q-smaller
loop-q-smaller c = let w = edge-steps c.args.t.now.syntax.service c.args.s.now c.loop-q.i c.piece_end.ensures c.in-Some.is in search rules

pub loop-q-preserved : goal.loop-q-preserved
loop-q-preserved c = search (anywhere-on, rules)

pub returns : goal.returns
returns c = search (anywhere-over, rules)
