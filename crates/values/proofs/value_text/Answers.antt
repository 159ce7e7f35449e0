use Rattle.values.specs.ValuesLaws.{text-linked, text-trailed}
use Rattle.values.proofs.value_text.Goals as goal

pub returns-then-x : goal.returns-then-x
returns-then-x c = λ m h. text-linked h c.args.header.now c.link_text.result.now c.if-x.true (c.link_text.ensures m c.args.x.now.rows h)

pub returns : goal.returns
returns c = λ m h. text-trailed h c.args.header.now c.trailer_text.result.now c.if-x.false (c.trailer_text.ensures m h)
