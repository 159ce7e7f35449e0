use mathlib.Core.Bool.{false≢true}
use Rattle.elements.specs.FormedLaws.{content-least, filled-one}
use borrow.Author.Rules.{rules}
use Rattle.elements.proofs.formed.filled.Goals as goal

pub returns-then-x-ge2 : goal.returns-then-x-ge2
returns-then-x-ge2 c = λ e. content-least c.args.release c.args.x.now c.if-x-ge2.true

pub returns-then-x-eq0 : goal.returns-then-x-eq0
returns-then-x-eq0 c = λ e. absurd (false≢true e)

pub returns : goal.returns
returns c = filled-one c.args.release c.args.x.now c.if-x-eq0.false
