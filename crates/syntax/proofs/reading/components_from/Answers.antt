use Prim.Native.Nat.{ℕ, ◌≤◌, ◌<◌, ◌-◌, ◌+◌}
use mathlib.Core.Path.{◌≡◌, refl, sym, ◌∙◌}
use mathlib.Core.Bool.{Bool, true, false}
use borrow.Author.Rules.{rules}
use lib.ListN.{length}
use Rattle.syntax.specs.Segment.{pieces_at, components}
use Rattle.syntax.proofs.SegmentLaws.{edge-steps, Counting, counting-over, counting-end, counting-on, counting-fits}
use Rattle.syntax.proofs.reading.components_from.Goals as goal

pub loop-q-init : goal.loop-q-init
loop-q-init c = record { few = search rules; sums = search rules }

pub overflow_add-n : goal.overflow_add-n
overflow_add-n c = let w = counting-fits c.loop-q.invariant c.piece_end.ensures c.in-Some.is in search rules

pub returns-then-k-ne2 : goal.returns-then-k-ne2
returns-then-k-ne2 c = search (counting-end, rules)

pub overflow_add-i : goal.overflow_add-i
overflow_add-i c = let w = edge-steps c.args.t.now.syntax.service c.args.s.now c.loop-q.i c.piece_end.ensures c.in-Some.is in search rules

pub loop-q-smaller : goal.loop-q-smaller
loop-q-smaller c = let w = edge-steps c.args.t.now.syntax.service c.args.s.now c.loop-q.i c.piece_end.ensures c.in-Some.is in search rules

pub loop-q-preserved : goal.loop-q-preserved
loop-q-preserved c = search (counting-on, rules)

pub returns : goal.returns
returns c = search (counting-over, rules)
