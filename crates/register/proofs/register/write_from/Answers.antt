use mathlib.Core.Path.{sym, ◌∙◌}
use Rattle.register.proofs.RegisterLaws.{measured, write-refused, write-negative, write-over, write-fit}
use Rattle.std.proofs.lemmas.Result.{err_from_is_err_and}
use Rattle.register.proofs.register.write_from.Goals as goal

pub returns-then-sign_lost : goal.returns-then-sign_lost
returns-then-sign_lost c = write-negative (measured c.args.form c.args.x.now.s.now c.in_ok-e.was c.measure.ensures) c.sign_lost.ensures c.if-sign_lost.true c.refused.ensures

pub returns-then-too_long : goal.returns-then-too_long
returns-then-too_long c = write-over (measured c.args.form c.args.x.now.s.now c.in_ok-e.was c.measure.ensures) (sym c.sign_lost.ensures ∙ c.if-sign_lost.false) c.too_long.ensures c.if-too_long.true c.refused-then-too_long.ensures

pub fill-requires : goal.fill-requires
fill-requires c = record { measured = ((measured c.args.form c.args.x.now.s.now c.in_ok-e.was c.measure.ensures), (sym c.sign_lost.ensures ∙ c.if-sign_lost.false)) }

pub returns-in_err-e : goal.returns-in_err-e
returns-in_err-e c = let p = err_from_is_err_and c.from_residual.result c.from_residual.ensures.1 in rw (p.1, p.2) (write-refused c.args.form c.args.x.now.s.now _ (measured c.args.form c.args.x.now.s.now c.in_err-e.was c.measure.ensures) c.args.out.now)

pub returns : goal.returns
returns c = write-fit (measured c.args.form c.args.x.now.s.now c.in_ok-e.was c.measure.ensures) (sym c.sign_lost.ensures ∙ c.if-sign_lost.false) c.too_long.ensures c.if-too_long.false c.fill.ensures
