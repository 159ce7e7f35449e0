use native.Mathlib.Omega.{arith}
use mathlib.Core.Path.{refl}
use Rattle.register.proofs.RegisterLaws.{begun_fresh}
use Rattle.register.proofs.register.lay_within.Goals as goal

pub lay_among-requires : goal.lay_among-requires
lay_among-requires g c = record { start = c.requires.start; fresh = begun_fresh _ _ c.args.x.now.classes.syntax c.args.x.now.s.now c.args.x.now.from c.args.x.now.begins c.requires.room.0 c.requires.room.1 refl refl; marks_len = (refl, refl, refl) }

pub whole_as_slice-lay_among : goal.whole_as_slice-lay_among
whole_as_slice-lay_among g c = let a = c.requires.room.1 in let b = c.requires.room.2 in omega (arith, a, b)

pub whole_as_slice-lay_among-2 : goal.whole_as_slice-lay_among-2
whole_as_slice-lay_among-2 g c = let b = c.requires.room.2 in omega (arith, b)
