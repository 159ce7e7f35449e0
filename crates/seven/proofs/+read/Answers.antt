use Rattle.std.proofs.Common.{rules, ◌∙◌}
use Rattle.seven.specs.ReadingLaws.{step-none, step_cut, step-last, step-big, step-more}
use Rattle.seven.proofs.+read.Goals as goal

pub returns-then-left-eq0 : goal.returns-then-left-eq0
returns-then-left-eq0 t c = search (step-none, rules)

pub returns-in_err-get : goal.returns-in_err-get
returns-in_err-get t c = c.from_residual.ensures ∙ step_cut _ _ _ _ c.in_err-get.ensures.lookup.3

pub returns-then-b-most : goal.returns-then-b-most
returns-then-b-most t c = let k = c.in_ok-get.ensures.lookup.3 in step-last _ _ _ _ k.0 (c.from-b.ensures ∙ k.1 0) _ c.if-left-eq0.false c.if-b-lt128.true c.if-b-most.true

pub returns-else-b-most : goal.returns-else-b-most
returns-else-b-most t c = let k = c.in_ok-get.ensures.lookup.3 in step-big _ _ _ _ k.0 (c.from-b.ensures ∙ k.1 0) _ c.if-left-eq0.false c.if-b-lt128.true c.if-b-most.false

pub returns : goal.returns
returns t c = let k = c.in_ok-get.ensures.lookup.3 in step-more _ _ _ _ k.0 (c.from-b.ensures ∙ k.1 0) _ _ _ c.if-left-eq0.false c.if-b-lt128.false c.read.ensures c.join.ensures
