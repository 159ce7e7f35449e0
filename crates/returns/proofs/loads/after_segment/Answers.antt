use mathlib.Core.Path.{refl}
use Rattle.elements.specs.Octets.{asked_at}
use Rattle.returns.specs.ReadingLaws.{weighs-read, after-load, after_none}
use borrow.Author.Rules.{rules}
use Rattle.returns.proofs.loads.after_segment.Goals as goal

pub add-requires : goal.add-requires
add-requires c = (c.requires.at_in_bounds.2, weighs-read (asked_at c.args.t.now.syntax.service c.args.s.now c.args.at) c.load_at.ensures c.in-Some.is)

pub returns-in-Some : goal.returns-in-Some
returns-in-Some c = after-load (asked_at c.args.t.now.syntax.service c.args.s.now c.args.at) c.load_at.ensures c.in-Some.is c.add.ensures

pub returns-in-None : goal.returns-in-None
returns-in-None c = after_none (asked_at c.args.t.now.syntax.service c.args.s.now c.args.at) c.load_at.ensures c.in-None.is refl
