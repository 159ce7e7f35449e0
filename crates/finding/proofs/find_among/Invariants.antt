use Prim.Native.Nat.{◌-◌}
use Rattle.syntax.specs.Content.{content, compared}
use Rattle.std.specs.Prelude.{Ok}
use lib.ListN.{length}
use Rattle.finding.specs.FindingLaws.{Sifting}
use Rattle.finding.proofs.find_among.Given as goal

abbrev pub invariant-loop-section : goal.invariant-loop-section
invariant-loop-section l = Sifting l.t.syntax l.s l.from (compared (content l.other l.reference)) l.state l.heads l.names l.slots l.at l.marks l.here l.initial.names l.initial.slots (Ok l.found) l.rows

abbrev pub decreases-loop-section : goal.decreases-loop-section
decreases-loop-section l = length l.s - l.at
