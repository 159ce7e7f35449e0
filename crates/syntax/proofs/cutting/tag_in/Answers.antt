use native.Mathlib.Omega.{arith}
use mathlib.Core.Path.{◌∙◌}
use Rattle.syntax.specs.TagLaws.{tag-short, tag_read}
use borrow.Author.Rules.{rules}
use Rattle.syntax.proofs.cutting.tag_in.Goals as goal

pub returns-then-s-lt4 : goal.returns-then-s-lt4
returns-then-s-lt4 c = tag-short c.args.t.now.syntax.service c.args.s.now c.args.at (omega (arith, c.if-s-lt4.true))

pub returns-then-s-at : goal.returns-then-s-at
returns-then-s-at c = tag-short c.args.t.now.syntax.service c.args.s.now c.args.at (omega (arith, c.if-s-at.true, c.if-s-lt4.false))

pub returns : goal.returns
returns c = c.tag_by.ensures ∙ tag_read c.args.t.now.syntax.service c.args.s.now c.args.at (omega (arith, c.if-s-at.false, c.if-s-lt4.false))
