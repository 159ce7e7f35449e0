use Rattle.syntax.specs.Content.{content}
use Rattle.values.specs.FiltersLaws.{other-edc, other-early, other-six, other-late}
use Rattle.values.proofs.filter.other_into.Goals as goal

pub returns-then-content_is : goal.returns-then-content_is
returns-then-content_is c = other-edc c.args.version (content c.args.release c.args.code.now) (content c.args.release c.args.text.now) c.is_earlier.ensures c.if-is_earlier.true c.content_is.ensures c.if-content_is.true c.edc_into.ensures

pub returns-then-is_earlier : goal.returns-then-is_earlier
returns-then-is_earlier c = other-early c.args.version (content c.args.release c.args.code.now) (content c.args.release c.args.text.now) c.is_earlier.ensures c.if-is_earlier.true c.content_is.ensures c.if-content_is.false

pub returns-then-content_is-2 : goal.returns-then-content_is-2
returns-then-content_is-2 c = other-six c.args.version (content c.args.release c.args.code.now) (content c.args.release c.args.text.now) c.is_earlier.ensures c.if-is_earlier.false c.content_is-2.ensures c.if-content_is-2.true c.six_into.ensures

pub returns : goal.returns
returns c = other-late c.args.version (content c.args.release c.args.code.now) (content c.args.release c.args.text.now) c.is_earlier.ensures c.if-is_earlier.false c.content_is-2.ensures c.if-content_is-2.false
