use mathlib.Core.Path.{refl}
use borrow.Author.Rules.{rules}
use Rattle.groups.specs.LinksLaws.{ends-in}
use Rattle.values.specs.ValuesLaws.{usr-there, usr-none, usr-open}
use Rattle.values.proofs.usr_text.Goals as goal

pub overflow_add-next : goal.overflow_add-next
overflow_add-next c = let h = ends-in c.args.t.now.syntax.service c.args.s.now c.args.g.start c.stop.ensures c.in-Some.is in search rules

pub returns-then-next-g : goal.returns-then-next-g
returns-then-next-g c = λ c₁ o w k. usr-there c.args.t.now.syntax.version c.args.t.now.syntax.service c.requires.t c.args.s.now c.args.g.start c.args.g.end c₁ o w k c.stop.ensures c.in-Some.is refl c.if-next-g.true c.value_part.ensures c.component_part.ensures

pub returns : goal.returns
returns c = λ c₁ o w k. usr-none c.args.t.now.syntax.version c.args.t.now.syntax.service c.requires.t c.args.s.now c.args.g.start c.args.g.end c₁ o w k c.stop.ensures c.in-Some.is refl c.if-next-g.false c.part-2.ensures

pub returns-in_default : goal.returns-in_default
returns-in_default c = λ c₁ o w k. usr-open c.args.t.now.syntax.version c.args.t.now.syntax.service c.requires.t c.args.s.now c.args.g.start c.args.g.end c₁ c.part.result.now o w c.stop.ensures c.in_default.is
