use Rattle.syntax.specs.Content.{content}
use Rattle.values.specs.Filters.{value_by}
use Rattle.values.specs.FiltersLaws.{wrote-bad, wrote-long, wrote-done}
use Rattle.values.proofs.filter.value_of.Goals as goal

pub returns-then-too_long : goal.returns-then-too_long
returns-then-too_long c = wrote-long (value_by c.args.version (content c.args.release c.args.code.now) (content c.args.release c.args.text.now)) c.value_into.ensures c.in-Some.is c.too_long.ensures c.if-too_long.true c.refused-then-too_long.ensures

pub returns-in_default : goal.returns-in_default
returns-in_default c = wrote-bad (value_by c.args.version (content c.args.release c.args.code.now) (content c.args.release c.args.text.now)) c.value_into.ensures c.in_default.is c.refused.ensures

pub returns : goal.returns
returns c = wrote-done (value_by c.args.version (content c.args.release c.args.code.now) (content c.args.release c.args.text.now)) c.value_into.ensures c.in-Some.is c.too_long.ensures c.if-too_long.false c.value_into-2.ensures
