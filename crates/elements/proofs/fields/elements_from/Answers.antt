use mathlib.Core.Path.{refl}
use Rattle.std.proofs.lemmas.Bool.{not_from_false, not_from_true}
use mathlib.Core.Path.{refl, sym, ◌∙◌}
use borrow.Author.Tests.{not-true, not-false}
use Rattle.elements.specs.FieldsLaws.{Fielding, left, fielding-start, fielding-end, fielding-high, fielding-fits, fielding-broken, fielding-less, fielding-on}
use borrow.Author.Rules.{rules}
use Rattle.elements.proofs.fields.elements_from.Goals as goal

pub loop-ends-init : goal.loop-ends-init
loop-ends-init c = fielding-start c.requires.passed_as.0 c.requires.passed_as.1

pub take_one-requires : goal.take_one-requires
take_one-requires c = let l = c.loop-ends.invariant.free.room in search rules

pub returns-in_err-next : goal.returns-in_err-next
returns-in_err-next c = rw c.from_residual.ensures (fielding-broken c.loop-ends.invariant (not-true _ (not_from_false _ c.loop-ends-test.true)) c.take_one.result c.take_one.new.marks c.take_one.ensures c.in_err-next.was)

pub overflow_add-n : goal.overflow_add-n
overflow_add-n c = let w = fielding-fits c.loop-ends.invariant (not-true _ (not_from_false _ c.loop-ends-test.true)) c.take_one.result c.take_one.new.marks c.take_one.ensures in search rules

pub loop-ends-smaller : goal.loop-ends-smaller
loop-ends-smaller c = fielding-less c.loop-ends.invariant (not-true _ (not_from_false _ c.loop-ends-test.true)) c.take_one.result c.take_one.new.marks c.take_one.ensures c.in_ok-next.was

pub loop-ends-preserved : goal.loop-ends-preserved
loop-ends-preserved c = fielding-on c.loop-ends.invariant (not-true _ (not_from_false _ c.loop-ends-test.true)) c.take_one.result c.take_one.new.marks c.take_one.ensures c.in_ok-next.was refl

pub overflow_sub-result : goal.overflow_sub-result
overflow_sub-result c = let w = fielding-high c.loop-ends.invariant (not-false _ (not_from_true _ c.loop-ends-test.false)) in search rules

pub shape_of-marks : goal.shape_of-marks
shape_of-marks c = c.loop-ends.invariant.free.room ∙ sym c.requires.passed_as.1.room

pub returns : goal.returns
returns c = fielding-end c.loop-ends.invariant (not-false _ (not_from_true _ c.loop-ends-test.false)) refl refl refl
