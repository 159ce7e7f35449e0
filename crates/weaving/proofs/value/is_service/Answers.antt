use Rattle.std.proofs.Common.{◌∙◌, le-ltb}
use Rattle.weaving.specs.ValueLaws.{service-none, service-by}
use Rattle.weaving.proofs.value.is_service.Goals as goal

pub returns-then-c-gt1 : goal.returns-then-c-gt1
returns-then-c-gt1 c = service-by c.args.t.now.syntax c.args.b c.class-c.ensures c.if-c-gt1.true

pub returns-else-c-gt1 : goal.returns-else-c-gt1
returns-else-c-gt1 c = le-ltb 1 c.class-c.result c.if-c-gt1.false ∙ service-none c.args.t.now.syntax c.args.b c.class-c.ensures c.if-c-gt1.false
