use Rattle.walk.specs.SectionLaws.{nameable-none, nameable-other, nameable-all, nameable-not}
use borrow.Author.Rules.{rules}
use Rattle.walk.proofs.sections.nameable.Goals as goal

pub returns-then-n-eq0 : goal.returns-then-n-eq0
returns-then-n-eq0 c = nameable-none c.args.s.now c.args.at c.args.n c.if-n-eq0.true

pub returns-then-s-at-ne85 : goal.returns-then-s-at-ne85
returns-then-s-at-ne85 c = nameable-other c.args.s.now c.args.at c.args.n c.requires.0 c.if-s-at-ne85.true

pub returns-then-content_is : goal.returns-then-content_is
returns-then-content_is c = nameable-all c.args.s.now c.args.at c.args.n c.part.ensures c.content_is.ensures c.if-content_is.true

pub returns : goal.returns
returns c = nameable-not c.args.s.now c.args.at c.args.n c.part.ensures c.content_is.ensures c.if-content_is.false
