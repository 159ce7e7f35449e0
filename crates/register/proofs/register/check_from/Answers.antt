use mathlib.Core.Path.{sym, ◌∙◌}
use Rattle.register.proofs.RegisterLaws.{measured, check-refused, check-negative, check-long, check-same, check-other}
use Rattle.std.proofs.lemmas.Result.{err_from_is_err_and}
use Rattle.register.proofs.register.check_from.Goals as goal

pub returns-then-sign_lost : goal.returns-then-sign_lost
returns-then-sign_lost c = c.differs.ensures ∙ check-negative (measured c.args.form c.args.x.now.s.now c.in_ok-e.was c.measure.ensures) c.sign_lost.ensures c.if-sign_lost.true c.args.register.now

pub returns-then-e-gt65535 : goal.returns-then-e-gt65535
returns-then-e-gt65535 c = c.differs-then-e-gt65535.ensures ∙ check-long (measured c.args.form c.args.x.now.s.now c.in_ok-e.was c.measure.ensures) (sym c.sign_lost.ensures ∙ c.if-sign_lost.false) c.args.register.now c.if-e-gt65535.true

pub fill-requires : goal.fill-requires
fill-requires c = record { measured = ((measured c.args.form c.args.x.now.s.now c.in_ok-e.was c.measure.ensures), (sym c.sign_lost.ensures ∙ c.if-sign_lost.false)) }

pub returns-then-content_is : goal.returns-then-content_is
returns-then-content_is c = check-same (measured c.args.form c.args.x.now.s.now c.in_ok-e.was c.measure.ensures) (sym c.sign_lost.ensures ∙ c.if-sign_lost.false) c.args.register.now c.if-e-gt65535.false c.if-e-gt65535.false c.fill.ensures c.part.ensures c.content_is.ensures c.if-content_is.true

pub returns-in_err-e : goal.returns-in_err-e
returns-in_err-e c = let p = err_from_is_err_and c.from_residual.result c.from_residual.ensures.1 in rw (p.1, p.2) (check-refused c.args.form c.args.x.now.s.now _ (measured c.args.form c.args.x.now.s.now c.in_err-e.was c.measure.ensures) c.args.register.now)

pub returns : goal.returns
returns c = c.differs-2.ensures ∙ check-other (measured c.args.form c.args.x.now.s.now c.in_ok-e.was c.measure.ensures) (sym c.sign_lost.ensures ∙ c.if-sign_lost.false) c.args.register.now c.if-e-gt65535.false c.if-e-gt65535.false c.fill.ensures c.part.ensures c.content_is.ensures c.if-content_is.false
