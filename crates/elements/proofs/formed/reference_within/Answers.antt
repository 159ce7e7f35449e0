use mathlib.Core.Path.{ap}
use mathlib.Core.Bool.{not}
use Rattle.elements.specs.FormedLaws.{and-go, and-stop, reference-seen}
use borrow.Author.Rules.{rules}
use Rattle.elements.proofs.formed.reference_within.Goals as goal

pub returns-then-visible : goal.returns-then-visible
returns-then-visible c =
    let g = c in
    reference-seen g.args.release g.args.x.now g.args.least g.args.most c.if-x-most.true c.if-least-eq1.true (c.visible.ensures c.if-visible.true)

pub returns-then-sized : goal.returns-then-sized
returns-then-sized c = and-go c.sized.ensures c.if-sized.true (ap not c.is_blank-b.ensures)

pub returns : goal.returns
returns c = and-stop c.sized.ensures _ c.if-sized.false
