use Rattle.syntax.specs.Content.{content}
use Rattle.values.specs.FiltersLaws.{value-empty, value-hex, value-other}
use Rattle.values.proofs.filter.value_into.Goals as goal

pub returns-then-is_over : goal.returns-then-is_over
returns-then-is_over c = value-empty c.args.version (content c.args.release c.args.code.now) (content c.args.release c.args.text.now) c.is_over.ensures c.if-is_over.true

pub returns-then-content_is : goal.returns-then-content_is
returns-then-content_is c = value-hex c.args.version (content c.args.release c.args.code.now) (content c.args.release c.args.text.now) c.is_over.ensures c.if-is_over.false c.content_is.ensures c.if-content_is.true c.hex_into.ensures

pub returns : goal.returns
returns c = value-other c.args.version (content c.args.release c.args.code.now) (content c.args.release c.args.text.now) c.is_over.ensures c.if-is_over.false c.content_is.ensures c.if-content_is.false c.other_into.ensures
