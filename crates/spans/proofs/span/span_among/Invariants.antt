use Prim.Native.Nat.{◌-◌}
use lib.ListN.{length}
use Rattle.spans.specs.SpanningLaws.{Spanning}
use Rattle.spans.proofs.span.span_among.Given as goal

abbrev pub invariant-loop-section : goal.invariant-loop-section
invariant-loop-section l = Spanning l.t.syntax l.s l.from l.state l.heads l.names l.slots l.at l.marks l.rows l.initial.names l.initial.slots l.k

abbrev pub decreases-loop-section : goal.decreases-loop-section
decreases-loop-section l = length l.s - l.at
