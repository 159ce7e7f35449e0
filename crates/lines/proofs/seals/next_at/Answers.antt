use Rattle.lines.specs.SealsLaws.{next_start, next-body}
use Rattle.lines.proofs.seals.next_at.Goals as goal

pub returns-then-i-x : goal.returns-then-i-x
returns-then-i-x c = next_start c.args.x.now.layout c.args.x.now.rows.now c.if-i-x.true

pub returns : goal.returns
returns c = next-body c.args.x.now.layout c.args.x.now.rows.now c.if-i-x.false
