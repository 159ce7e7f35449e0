use Prim.Native.Nat.{ℕ}
use mathlib.Core.Path.{ap, sym, ◌∙◌}
use lib.Dec.{eqb}
use borrow.Author.Tests.{not-true, not-false}
use Rattle.syntax.specs.Octets.{octets}
use Rattle.elements.specs.Octets.{asked_at}
use Rattle.groups.specs.LinksLaws.{tagged_is}
use Rattle.returns.specs.ReadingLaws.{three-not, three-many, three-one}
use borrow.Author.Rules.{rules}
use Rattle.std.proofs.lemmas.Bool.{not_from_false, not_from_true}
use Rattle.returns.proofs.loads.is_three_part.Goals as goal

pub returns-then-not-content_is : goal.returns-then-not-content_is
returns-then-not-content_is c = three-not (asked_at c.args.t.now.syntax.service c.args.s.now c.args.at) (tagged_is c.args.s.now c.args.at (octets "QTY") c.part.ensures c.content_is.ensures) (not-true _ (not_from_false _ c.if-not-content_is.true))

pub returns-then-count_elements-ne1 : goal.returns-then-count_elements-ne1
returns-then-count_elements-ne1 c = three-many (asked_at c.args.t.now.syntax.service c.args.s.now c.args.at) (tagged_is c.args.s.now c.args.at (octets "QTY") c.part.ensures c.content_is.ensures) (not-false _ (not_from_true _ c.if-not-content_is.false)) (λ e. c.if-count_elements-ne1.true (c.count_elements.ensures ∙ e))

pub returns : goal.returns
returns c = three-one (asked_at c.args.t.now.syntax.service c.args.s.now c.args.at) (tagged_is c.args.s.now c.args.at (octets "QTY") c.part.ensures c.content_is.ensures) (not-false _ (not_from_true _ c.if-not-content_is.false)) (sym c.count_elements.ensures ∙ c.if-count_elements-ne1.false) (ap (λ (n : ℕ). eqb n 3) c.count_components.ensures)
