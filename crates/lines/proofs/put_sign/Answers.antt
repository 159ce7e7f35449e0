use mathlib.Core.Path.{sym, ap}
use native.Mathlib.Omega.{arith}
use Rattle.writing.specs.LaidLaws.{laid_same, laid_none}
use Rattle.lines.specs.Words.{sign_words}
use Rattle.lines.proofs.put_sign.Goals as goal

pub returns-then-below : goal.returns-then-below
returns-then-below c = record { laid = laid_same (ap sign_words (sym c.if-below.true)) c.put.ensures; upper_bound = omega (arith, c.put.ensures.place) }

pub returns : goal.returns
returns c = record { laid = laid_same (ap sign_words (sym c.if-below.false)) laid_none; upper_bound = omega arith }
