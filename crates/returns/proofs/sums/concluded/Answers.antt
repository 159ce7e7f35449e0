use mathlib.Core.Path.{subst}
use Rattle.kilograms.specs.Running.{Runs}
use Rattle.returns.proofs.ReturnsLaws.{concluded-left, concluded-refused}
use borrow.Author.Rules.{rules}
use Rattle.returns.proofs.sums.concluded.Goals as goal

pub left_by-requires : goal.left_by-requires
left_by-requires c = subst Runs c.in-Ok.is c.requires

pub returns-in-Ok : goal.returns-in-Ok
returns-in-Ok c = concluded-left c.in-Ok.is c.left_by.ensures

pub returns-in-Err : goal.returns-in-Err
returns-in-Err c = concluded-refused c.in-Err.is
