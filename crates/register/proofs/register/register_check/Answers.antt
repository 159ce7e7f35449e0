use mathlib.Core.Path.{ap}
use Rattle.std.proofs.lemmas.Result.{err_from_is_err_and}
use Rattle.register.specs.Register.{told_check}
use Rattle.register.proofs.RegisterLaws.{check-refused}
use Rattle.register.proofs.register.register_check.Goals as goal

pub returns-in_err-start : goal.returns-in_err-start
returns-in_err-start c = let p = err_from_is_err_and c.from_residual.result c.from_residual.ensures.1 in rw (p.1, p.2) (let e = check-refused c.args.form c.args.s.now _ (rw c.in_err-start.was at c.start.ensures) c.args.register.now in record { value = e; result_value = ap told_check e })

pub returns : goal.returns
returns c = let e = (rw (rw c.in_ok-start.was at c.start.ensures) at c.check_from.ensures) in record { value = e; result_value = ap told_check e }
