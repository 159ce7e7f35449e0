use native.Mathlib.Omega.{arith}
use Rattle.register.proofs.RegisterLaws.{laid-all, laid-refused, measured-fits, measured-so}
use Rattle.std.proofs.lemmas.Result.{err_from_is_err_and}
use Rattle.register.proofs.register.measure.Goals as goal

pub overflow_add-result : goal.overflow_add-result
overflow_add-result c = omega (arith, measured-fits (laid-all _ 0 _ _ _ c.in_ok-e.was c.lay.ensures) c.put_count-start.ensures.laid)

pub returns-in_err-e : goal.returns-in_err-e
returns-in_err-e c = let p = err_from_is_err_and c.from_residual.result c.from_residual.ensures.1 in rw (p.1, p.2) (laid-refused _ _ _ _ _ c.in_err-e.was c.lay.ensures)

pub returns : goal.returns
returns c = measured-so (laid-all _ 0 _ _ _ c.in_ok-e.was c.lay.ensures) c.put_count-start.ensures.laid
