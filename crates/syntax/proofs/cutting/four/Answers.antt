use borrow.Author.Rules.{rules}
use native.Mathlib.Omega.{arith}
use Rattle.syntax.proofs.CuttingLaws.{four-of}
use Rattle.syntax.proofs.cutting.four.Goals as goal

pub returns : goal.returns
returns c =
    let start = c in
    four-of start.args.s.now start.args.i start.requires.i_in_bounds c.class.ensures c.class-2.ensures c.class-3.ensures
    c.class-4.ensures (omega arith)
