use Rattle.std.specs.Prelude.{refl}
use Rattle.std.proofs.lemmas.Result.{err_from_is_err_and}
use Rattle.returns.proofs.ReturnsLaws.{file-read, file-refused}
use borrow.Author.Rules.{rules}
use Rattle.returns.proofs.sums.sum_file.Goals as goal

pub returns : goal.returns
returns c = file-read c.args.s.now c.judge.ensures.value c.in_ok-judge.was c.add_file.ensures

pub returns-in_err-judge : goal.returns-in_err-judge
returns-in_err-judge c = let p = err_from_is_err_and c.from_residual.result c.from_residual.ensures.1 in rw (p.1, p.2) (file-refused c.args.s.now c.judge.ensures.value c.in_err-judge.was refl)
