use mathlib.Core.Path.{refl}
use Rattle.groups.specs.LinksLaws.{ends-in}
use Rattle.digest.specs.DigestsLaws.{names-open, names-none, names-beyond, names-there}
use borrow.Author.Rules.{rules}
use Rattle.digest.proofs.header_names.Goals as goal

pub overflow_add-next : goal.overflow_add-next
overflow_add-next c = let h = ends-in c.args.t.now.syntax.service c.args.s.now c.args.g.start c.stop.ensures c.in-Some.is in search rules

pub returns-then-g-next : goal.returns-then-g-next
returns-then-g-next c = λ l us cs w k. names-none c.args.t.now.syntax.service c.requires.t c.args.s.now c.args.g.start c.args.g.end l us cs w k c.stop.ensures c.in-Some.is refl c.if-g-next.true

pub returns-then-s-next : goal.returns-then-s-next
returns-then-s-next c = λ l us cs w k. names-beyond c.args.t.now.syntax.service c.requires.t c.args.s.now c.args.g.start c.args.g.end l us cs w k c.stop.ensures c.in-Some.is refl c.if-s-next.true

pub returns : goal.returns
returns c = λ l us cs w k. names-there c.args.t.now.syntax.service c.requires.t c.args.s.now c.args.g.start c.args.g.end l us cs w k c.stop.ensures c.in-Some.is refl c.if-g-next.false c.usa_names.ensures

pub returns-in_default : goal.returns-in_default
returns-in_default c = λ l us cs w k. names-open c.args.t.now.syntax.service c.requires.t c.args.s.now c.args.g.start c.args.g.end l us cs w k c.stop.ensures c.in_default.is
