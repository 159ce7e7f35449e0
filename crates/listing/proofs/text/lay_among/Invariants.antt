use Prim.Native.Nat.{◌-◌}
use lib.ListN.{length}
use Rattle.listing.specs.ListingLaws.{Reporting}
use Rattle.listing.proofs.text.lay_among.Given as goal

abbrev pub invariant-loop-f : goal.invariant-loop-f
invariant-loop-f l = Reporting l.t.syntax l.s l.from l.state l.heads l.names l.slots l.at l.marks l.rows l.initial.names l.initial.slots l.initial.out l.initial.p l.out l.p

abbrev pub decreases-loop-f : goal.decreases-loop-f
decreases-loop-f l = length l.s - l.at
