use native.Mathlib.Omega.{arith}
use mathlib.Core.Path.{◌∙◌}
use Rattle.syntax.specs.TagLaws.{tag-short, tag_read}
use borrow.Author.Rules.{rules}
use Rattle.syntax.proofs.cutting.tag_at.Goals as goal

pub returns-then-s-lt4 : goal.returns-then-s-lt4
returns-then-s-lt4 c = let a = c.args in tag-short a.v a.s.now a.at (omega (arith, c.if-s-lt4.true))

pub returns-then-s-at : goal.returns-then-s-at
returns-then-s-at c =
    let a = c.args in
    tag-short a.v a.s.now a.at (omega (arith, c.if-s-at.true, c.if-s-lt4.false))

pub returns : goal.returns
returns c =
    let k = c in
    let a = k.args in
    c.tag_of.ensures
    ∙ tag_read a.v a.s.now a.at (omega (arith, k.if-s-at.false, k.if-s-lt4.false))
