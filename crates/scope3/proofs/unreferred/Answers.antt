use Rattle.std.proofs.lemmas.Result.{err_from_is_err_and}
use Rattle.scope3.specs.Scope3Laws.{unreferred-read, unreferred-refused}
use Rattle.scope3.proofs.unreferred.Goals as goal

pub returns-in_err-judge-clause-value : goal.returns-in_err-judge-clause-value
returns-in_err-judge-clause-value c = let p = err_from_is_err_and c.from_residual.result c.from_residual.ensures.1 in rw (p.1, p.2) (unreferred-refused c.args.s.now c.judge.ensures.value c.in_err-judge.was)

pub returns-clause-value : goal.returns-clause-value
returns-clause-value c = unreferred-read c.args.s.now c.judge.ensures.value c.in_ok-judge.was c.missing.ensures
