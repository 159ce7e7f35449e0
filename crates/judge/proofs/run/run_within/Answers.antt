use native.Mathlib.Omega.{arith}
use mathlib.Core.Path.{refl}
use Rattle.walk.specs.RunLaws.{fresh-tables}
use Rattle.judge.proofs.run.run_within.Goals as goal

pub run-requires : goal.run-requires
run-requires g c = record { fresh = fresh-tables _ _ c.requires.room.2 refl refl c.requires.t c.requires.room.0 c.requires.room.1 }

pub whole_as_slice-run : goal.whole_as_slice-run
whole_as_slice-run g c = let a = c.requires.room.2 in let b = c.requires.room.3 in omega (arith, a, b)

pub whole_as_slice-run-2 : goal.whole_as_slice-run-2
whole_as_slice-run-2 g c = let b = c.requires.room.3 in omega (arith, b)
