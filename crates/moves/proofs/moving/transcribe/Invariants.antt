use Rattle.std.proofs.Common.{◌-◌}
use Rattle.moves.specs.MovingLaws.{Moving}
use Rattle.moves.proofs.moving.transcribe.Given as goal

abbrev pub invariant-loop : goal.invariant-loop
invariant-loop l = Moving l.from l.to l.stored l.initial.p l.initial.out l.n l.out l.p l.i (l.n - l.counter) l.any
