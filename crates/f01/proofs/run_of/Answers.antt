use mathlib.Core.Path.{refl, ap, ◌∙◌}
use Rattle.std.specs.Prelude.{Ok}
use Rattle.walk.specs.RunLaws.{begun-fits}
use Rattle.f01.specs.Referring.{referred_in}
use Rattle.f01.specs.F01Laws.{run_none, run-there, run-other, run-within}
use Rattle.f01.proofs.run_of.Goals as goal

pub span-requires-clause-t : goal.span-requires-clause-t
span-requires-clause-t c = rw c.of-t.ensures (begun-fits c.args.s.now c.begin.ensures c.in_ok-start.was).0

pub returns-in_default-clause-value : goal.returns-in_default-clause-value
returns-in_default-clause-value c = run_none c.args.s.now (referred_in c.args.autack.now (Ok c.args.referred)) c.begin.ensures c.in_ok-start.was (c.in_ok-run.was ∙ ap Ok c.in_default.is) (rw c.of-t.ensures at c.span.ensures) refl

pub returns-then-is_referred : goal.returns-then-is_referred
returns-then-is_referred c = let s = rw c.of-t.ensures at c.span.ensures in let t = rw c.of-t.ensures at c.is_referred.ensures in record { value = run-there c.args.s.now (referred_in c.args.autack.now (Ok c.args.referred)) c.begin.ensures c.in_ok-start.was (c.in_ok-run.was ∙ ap Ok c.in-Some.is) s t c.if-is_referred.true; run_inside = run-within c.args.s.now (referred_in c.args.autack.now (Ok c.args.referred)) c.begin.ensures c.in_ok-start.was (c.in_ok-run.was ∙ ap Ok c.in-Some.is) s t }

pub returns-clause-value : goal.returns-clause-value
returns-clause-value c = run-other c.args.s.now (referred_in c.args.autack.now (Ok c.args.referred)) c.begin.ensures c.in_ok-start.was (c.in_ok-run.was ∙ ap Ok c.in-Some.is) (rw c.of-t.ensures at c.span.ensures) (rw c.of-t.ensures at c.is_referred.ensures) c.if-is_referred.false refl
