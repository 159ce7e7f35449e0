use Rattle.register.proofs.RegisterLaws.{laid-all, laid-refused, filled, unrefused}
use Rattle.std.proofs.lemmas.Result.{err_from_is_err_and}
use Rattle.register.proofs.register.fill.Goals as goal

pub returns-in_err-laid : goal.returns-in_err-laid
returns-in_err-laid c = let p = err_from_is_err_and c.from_residual.result c.from_residual.ensures.1 in rw (p.1, p.2) (unrefused c.requires.measured.0 _ (laid-refused _ _ _ _ _ c.in_err-laid.was c.lay.ensures))

pub returns : goal.returns
returns c = filled c.requires.measured.0 c.requires.measured.1 c.put_count-start.ensures.laid (laid-all _ _ _ _ _ c.in_ok-laid.was c.lay.ensures)
