use Prim.Native.Nat.{ℕ, ◌≤◌, ◌<◌, ◌-◌, ◌+◌}
use mathlib.Core.Path.{◌≡◌, refl, sym, ◌∙◌}
use mathlib.Core.Bool.{Bool, true, false}
use borrow.Author.Rules.{rules}
use lib.ListN.{length}
use Rattle.syntax.specs.Segment.{pieces_at, at_element}
use Rattle.syntax.proofs.SegmentLaws.{edge-steps, Passing, passing-there, passing-over, passing-end, passing-next, passing-on}
use Rattle.syntax.proofs.reading.element_from.Goals as goal

pub loop-n-init : goal.loop-n-init
loop-n-init c = record { left = refl }

pub returns-then-k-eq5 : goal.returns-then-k-eq5
returns-then-k-eq5 c = search (passing-end, rules)

pub overflow_add-i : goal.overflow_add-i
overflow_add-i c = let w = edge-steps c.args.t.now.syntax.service c.args.s.now c.loop-n.i c.piece_end.ensures c.in-Some.is in search rules

pub loop-n-smaller-then-k-eq4 : goal.loop-n-smaller-then-k-eq4
loop-n-smaller-then-k-eq4 c = let w = edge-steps c.args.t.now.syntax.service c.args.s.now c.loop-n.i c.piece_end.ensures c.in-Some.is in search rules

pub loop-n-preserved-then-k-eq4 : goal.loop-n-preserved-then-k-eq4
loop-n-preserved-then-k-eq4 c = search (passing-next, rules)

pub overflow_add-i-in-Some : goal.overflow_add-i-in-Some
overflow_add-i-in-Some c = let w = edge-steps c.args.t.now.syntax.service c.args.s.now c.loop-n.i c.piece_end.ensures c.in-Some.is in search rules

pub loop-n-smaller : goal.loop-n-smaller
loop-n-smaller c = let w = edge-steps c.args.t.now.syntax.service c.args.s.now c.loop-n.i c.piece_end.ensures c.in-Some.is in search rules

pub loop-n-preserved : goal.loop-n-preserved
loop-n-preserved c = search (passing-on, rules)

pub returns-in-None : goal.returns-in-None
returns-in-None c = search (passing-over, rules)

pub returns : goal.returns
returns c = search (passing-there, rules)
