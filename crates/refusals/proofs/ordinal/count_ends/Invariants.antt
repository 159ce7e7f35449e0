use Rattle.refusals.specs.OrdinalLaws.{Counting}
use Rattle.refusals.proofs.ordinal.count_ends.Given as goal

abbrev pub invariant-loop-b : goal.invariant-loop-b
invariant-loop-b l = Counting l.v l.x l.b-index l.n l.freed
