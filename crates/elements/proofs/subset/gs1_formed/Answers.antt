use mathlib.Core.Path.{ap, ◌∙◌}
use borrow.Author.Tests.{not-true, not-false}
use Rattle.elements.specs.Octets.{asked_at}
use Rattle.elements.specs.Formed.{right_gs1}
use Rattle.elements.specs.FormedLaws.{text-read}
use Rattle.elements.specs.SubsetLaws.{unchecked-so, checked-stop, checked-go}
use borrow.Author.Rules.{rules}
use Rattle.std.proofs.lemmas.Bool.{not_from_false, not_from_true}
use Rattle.elements.proofs.subset.gs1_formed.Goals as goal

pub returns-then-p-lt1 : goal.returns-then-p-lt1
returns-then-p-lt1 c = let a = c.args in unchecked-so (asked_at a.t.now.syntax.service a.s.now a.at) a.k c.position_in-p.ensures c.if-p-lt1.true

pub returns-then-not-is_single : goal.returns-then-not-is_single
returns-then-not-is_single c =
    let a = c.args in
    checked-stop (asked_at a.t.now.syntax.service a.s.now a.at) c.is_single.ensures a.k c.position_in-p.ensures c.if-p-lt1.false (not-true c.is_single.result (not_from_false _ c.if-not-is_single.true))

pub returns : goal.returns
returns c =
    let a = c.args in
    let l = c.if-p-lt1.false in
    checked-go (asked_at a.t.now.syntax.service a.s.now a.at) c.is_single.ensures a.k c.position_in-p.ensures l (not-false c.is_single.result (not_from_true _ c.if-not-is_single.false))
    (c.is_right.ensures ∙ ap (right_gs1 a.k) (text-read a.t.now.syntax.service a.s.now a.at c.position_in-p.result 0 l c.component_part.ensures))
