use Rattle.std.proofs.lemmas.Result.{err_from_is_err_and}
use Rattle.register.proofs.RegisterLaws.{write-refused}
use Rattle.register.proofs.register.register_write.Goals as goal

pub returns-in_err-start : goal.returns-in_err-start
returns-in_err-start c = let p = err_from_is_err_and c.from_residual.result c.from_residual.ensures.1 in rw (p.1, p.2) (write-refused c.args.form c.args.s.now _ (rw c.in_err-start.was at c.start.ensures) c.args.out.now)

pub returns : goal.returns
returns c = rw (rw c.in_ok-start.was at c.start.ensures) at c.write_from.ensures
