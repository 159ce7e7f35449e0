use Prim.Native.Nat.{ℕ, ◌≤◌, ◌<◌, ◌-◌, ◌+◌}
use mathlib.Core.Path.{◌≡◌, refl, sym, ◌∙◌}
use mathlib.Core.Bool.{Bool, true, false}
use borrow.Author.Rules.{rules}
use lib.ListN.{length}
use Rattle.syntax.specs.Segment.{pieces_at, elements}
use Rattle.syntax.proofs.SegmentLaws.{edge-steps, Numbering, numbering-over, numbering-end, numbering-next, numbering-on, numbering-fits}
use Rattle.syntax.proofs.reading.count_elements.Goals as goal

pub loop-q-init : goal.loop-q-init
loop-q-init c = record { few = search rules; sums = search rules }

pub returns-then-k-eq5 : goal.returns-then-k-eq5
returns-then-k-eq5 c = search (numbering-end, rules)

pub overflow_add-n : goal.overflow_add-n
overflow_add-n c = let w = numbering-fits c.loop-q.invariant c.piece_end.ensures c.in-Some.is in search rules

pub overflow_add-i : goal.overflow_add-i
overflow_add-i c = let w = edge-steps c.args.t.now.syntax.service c.args.s.now c.loop-q.i c.piece_end.ensures c.in-Some.is in search rules

pub loop-q-smaller-then-k-eq4 : goal.loop-q-smaller-then-k-eq4
loop-q-smaller-then-k-eq4 c = let w = edge-steps c.args.t.now.syntax.service c.args.s.now c.loop-q.i c.piece_end.ensures c.in-Some.is in search rules

pub loop-q-preserved-then-k-eq4 : goal.loop-q-preserved-then-k-eq4
loop-q-preserved-then-k-eq4 c = search (numbering-next, rules)

pub overflow_add-i-in-Some : goal.overflow_add-i-in-Some
overflow_add-i-in-Some c = let w = edge-steps c.args.t.now.syntax.service c.args.s.now c.loop-q.i c.piece_end.ensures c.in-Some.is in search rules

pub loop-q-smaller : goal.loop-q-smaller
loop-q-smaller c = let w = edge-steps c.args.t.now.syntax.service c.args.s.now c.loop-q.i c.piece_end.ensures c.in-Some.is in search rules

pub loop-q-preserved : goal.loop-q-preserved
loop-q-preserved c = search (numbering-on, rules)

pub returns : goal.returns
returns c = search (numbering-over, rules)
