use mathlib.Core.Path.{sym, ap}
use lib.Ieee.{of_bits, of_int}
use Rattle.returns.specs.Returns.{told_sum, single_in}
use borrow.Author.Rules.{rules}
use Rattle.gurandepi.proofs.OldSumFromResultSumsLeftRefusal.from.Goals as goal

pub returns-in-Ok : goal.returns-in-Ok
returns-in-Ok c = (sym (ap told_sum c.in-Ok.is), sym (ap single_in c.in-Ok.is))

pub returns-in-Err : goal.returns-in-Err
unfolding of_bits of_int
returns-in-Err c = (sym (ap told_sum c.in-Err.is), sym (ap single_in c.in-Err.is))
