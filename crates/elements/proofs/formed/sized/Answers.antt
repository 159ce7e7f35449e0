use Rattle.elements.specs.FormedLaws.{sized-none, sized-some, sized-few, sized-fits}
use borrow.Author.Rules.{rules}
use Rattle.elements.proofs.formed.sized.Goals as goal

pub returns-then-least-eq0 : goal.returns-then-least-eq0
returns-then-least-eq0 c = sized-none c.args.release c.args.x.now c.args.least c.args.most c.if-x-most.true c.if-least-eq0.true

pub returns-then-filled : goal.returns-then-filled
returns-then-filled c = sized-some c.args.release c.args.x.now c.args.least c.args.most c.if-x-most.true c.if-least-eq1.true (c.filled.ensures c.if-filled.true)

pub returns-then-n-least : goal.returns-then-n-least
returns-then-n-least c = sized-few c.args.release c.args.x.now c.args.least c.args.most c.content_length-n.ensures c.if-n-least.true

pub returns : goal.returns
returns c = sized-fits c.args.release c.args.x.now c.args.least c.args.most c.content_length-n.ensures c.if-n-least.false
