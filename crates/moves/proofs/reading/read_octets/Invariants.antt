use Rattle.std.proofs.Common.{◌-◌}
use Rattle.moves.specs.NumberLaws.{Highing}
use Rattle.moves.proofs.reading.read_octets.Given as goal

abbrev pub invariant-loop : goal.invariant-loop
invariant-loop l = Highing l.s l.at l.k l.most l.v l.i (l.k - l.counter)
