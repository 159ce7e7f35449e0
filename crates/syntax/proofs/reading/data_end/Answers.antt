use Prim.Native.Nat.{◌-◌}
use lib.ListN.{length}
use Rattle.syntax.proofs.CleanLaws.{tidy-start, tidy-data, tidy-stop, stopping-none}
use Rattle.syntax.specs.Clean.{Tidy}
use borrow.Author.Rules.{rules}
use Rattle.syntax.proofs.reading.data_end.Goals as goal

pub loop-i-init : goal.loop-i-init
loop-i-init c = tidy-start _ _ _

pub returns-then-class-gt1 : goal.returns-then-class-gt1
returns-then-class-gt1 c = search (tidy-stop, rules)

pub loop-i-preserved : goal.loop-i-preserved
loop-i-preserved c = search (tidy-data, rules)

pub returns : goal.returns
returns c = search (stopping-none, rules)
