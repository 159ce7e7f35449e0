use mathlib.Core.Path.{◌∙◌}
use borrow.Author.Tests.{eq-eqb, ne_eqb}
use Rattle.syntax.proofs.CleanLaws.{tags-by, tags-none}
use borrow.Author.Rules.{rules}
use Rattle.syntax.proofs.cutting.tag_by.Goals as goal

pub returns-then-from-ne0 : goal.returns-then-from-ne0
returns-then-from-ne0 c = rw (tags-none c.args.t.now.syntax c.requires.t c.args.a c.args.b c.args.c (c.from.ensures ∙ c.class.ensures) (c.from-2.ensures ∙ c.class-2.ensures) (c.from-3.ensures ∙ c.class-3.ensures) c.if-from-ne0.true)

pub returns-then-d-v : goal.returns-then-d-v
returns-then-d-v c = let t = tags-by c.args.t.now.syntax c.requires.t c.args.a c.args.b c.args.c (c.from.ensures ∙ c.class.ensures) (c.from-2.ensures ∙ c.class-2.ensures) (c.from-3.ensures ∙ c.class-3.ensures) c.if-from-ne0.false in rw (t.0, t.1, t.2, eq-eqb _ _ c.if-d-v.true)

pub returns-then-d-v-2 : goal.returns-then-d-v-2
returns-then-d-v-2 c = let t = tags-by c.args.t.now.syntax c.requires.t c.args.a c.args.b c.args.c (c.from.ensures ∙ c.class.ensures) (c.from-2.ensures ∙ c.class-2.ensures) (c.from-3.ensures ∙ c.class-3.ensures) c.if-from-ne0.false in rw (t.0, t.1, t.2, ne_eqb _ _ c.if-d-v.false, eq-eqb _ _ c.if-d-v-2.true)

pub returns : goal.returns
returns c = let t = tags-by c.args.t.now.syntax c.requires.t c.args.a c.args.b c.args.c (c.from.ensures ∙ c.class.ensures) (c.from-2.ensures ∙ c.class-2.ensures) (c.from-3.ensures ∙ c.class-3.ensures) c.if-from-ne0.false in rw (t.0, t.1, t.2, ne_eqb _ _ c.if-d-v.false, ne_eqb _ _ c.if-d-v-2.false)
