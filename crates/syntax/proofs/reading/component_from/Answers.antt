use Prim.Native.Nat.{ℕ, ◌≤◌, ◌<◌, ◌-◌, ◌+◌}
use mathlib.Core.Path.{◌≡◌, refl, sym, ◌∙◌}
use mathlib.Core.Bool.{Bool, true, false}
use borrow.Author.Rules.{rules}
use lib.ListN.{length}
use Rattle.syntax.specs.Segment.{pieces_at, at_component}
use Rattle.syntax.proofs.SegmentLaws.{edge-steps, Nearing, nearing-over, nearing-there, nearing-gone, nearing-on}
use Rattle.syntax.proofs.reading.component_from.Goals as goal

pub loop-q-init : goal.loop-q-init
loop-q-init c = record { left = refl }

pub returns-then-n-eq0 : goal.returns-then-n-eq0
returns-then-n-eq0 c = search (nearing-there, rules)

pub returns-then-k-ne2 : goal.returns-then-k-ne2
returns-then-k-ne2 c = search (nearing-gone, rules)

pub overflow_add-i : goal.overflow_add-i
overflow_add-i c = let w = edge-steps c.args.t.now.syntax.service c.args.s.now c.loop-q.i c.piece_end.ensures c.in-Some.is in search rules

pub loop-q-smaller : goal.loop-q-smaller
loop-q-smaller c = let w = edge-steps c.args.t.now.syntax.service c.args.s.now c.loop-q.i c.piece_end.ensures c.in-Some.is in search rules

pub loop-q-preserved : goal.loop-q-preserved
loop-q-preserved c = search (nearing-on, rules)

pub returns : goal.returns
returns c = search (nearing-over, rules)
