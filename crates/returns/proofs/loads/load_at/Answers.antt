use native.Mathlib.Omega.{arith}
use mathlib.Core.Path.{ap, ◌∙◌}
use borrow.Author.Tests.{not-true, not-false}
use Rattle.syntax.specs.Content.{content}
use Rattle.elements.specs.Octets.{asked_at}
use Rattle.elements.specs.AmountsLaws.{unit-fits}
use Rattle.returns.specs.ReadingLaws.{read_none, read-load, read-unknown}
use borrow.Author.Rules.{rules}
use Rattle.std.proofs.lemmas.Bool.{not_from_false, not_from_true}
use Rattle.returns.proofs.loads.load_at.Goals as goal

pub returns-then-not-is_three_part : goal.returns-then-not-is_three_part
returns-then-not-is_three_part c = read_none (asked_at c.args.t.now.syntax.service c.args.s.now c.args.at) c.is_three_part.ensures (not-true _ (not_from_false _ c.if-not-is_three_part.true))

pub amount_in-requires : goal.amount_in-requires
amount_in-requires c = unit-fits (content c.args.t.now.syntax.service.release c.component_part.result.now) 9 6 c.unit_in.ensures (omega arith, omega arith) c.in_ok-unit.was

pub returns : goal.returns
returns c = read-load (asked_at c.args.t.now.syntax.service c.args.s.now c.args.at) c.is_three_part.ensures (not-false _ (not_from_true _ c.if-not-is_three_part.false)) (ap (content c.args.t.now.syntax.service.release) c.component_part.ensures) c.unit_in.ensures c.in_ok-unit.was (ap (content c.args.t.now.syntax.service.release) c.component_part-2.ensures) c.amount_in.ensures c.weighed.ensures

pub returns-in_err-unit : goal.returns-in_err-unit
returns-in_err-unit c = c.from_residual.ensures ∙ read-unknown (asked_at c.args.t.now.syntax.service c.args.s.now c.args.at) c.is_three_part.ensures (not-false _ (not_from_true _ c.if-not-is_three_part.false)) (ap (content c.args.t.now.syntax.service.release) c.component_part.ensures) c.unit_in.ensures c.in_err-unit.was
