use native.Mathlib.Omega.{arith}
use Rattle.register.proofs.RegisterLaws.{begun-short}
use Rattle.register.proofs.register.lay.Goals as goal

pub lay_within-requires-2 : goal.lay_within-requires-2
lay_within-requires-2 c = record { start = c.requires.start; room = (omega (arith, begun-short c.args.x.now.classes.syntax c.args.x.now.s.now c.args.x.now.from c.args.x.now.begins), omega arith, omega arith) }
