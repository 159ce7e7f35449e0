use Rattle.walk.specs.RunLaws.{begun-fits}
use Rattle.returns.proofs.ReturnsLaws.{file-unbegun, file-so}
use borrow.Author.Rules.{rules}
use Rattle.returns.proofs.sums.add_file.Goals as goal

pub add_between-requires : goal.add_between-requires
add_between-requires c = let w = begun-fits c.args.s.now c.begin.ensures c.in-Ok.is in record { t = rw c.of-t.ensures w.0; s_len_bound = (w.1, c.requires) }

pub concluded-requires : goal.concluded-requires
concluded-requires c = c.add_between.ensures.runs

pub returns-in-Err : goal.returns-in-Err
returns-in-Err c = λ o i h q v. file-unbegun c.args.s.now c.begin.ensures c.in-Err.is o i v

pub returns-in-Ok : goal.returns-in-Ok
returns-in-Ok c = file-so c.args.s.now c.begin.ensures c.in-Ok.is (rw c.of-t.ensures at c.add_between.ensures.value) c.concluded.ensures
