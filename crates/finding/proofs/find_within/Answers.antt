use native.Mathlib.Omega.{arith}
use mathlib.Core.Path.{refl}
use Rattle.walk.specs.RunLaws.{fresh-tables}
use Rattle.finding.proofs.find_within.Goals as goal

pub find_among-requires : goal.find_among-requires
find_among-requires g c = record { fresh = fresh-tables _ _ c.requires.room.2 refl refl c.requires.t c.requires.room.0 c.requires.room.1; marks_len = (refl, refl, refl, c.requires.room.4) }

pub whole_as_slice-find_among : goal.whole_as_slice-find_among
whole_as_slice-find_among g c = let a = c.requires.room.2 in let b = c.requires.room.3 in omega (arith, a, b)

pub whole_as_slice-find_among-2 : goal.whole_as_slice-find_among-2
whole_as_slice-find_among-2 g c = let b = c.requires.room.3 in omega (arith, b)
