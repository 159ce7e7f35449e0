use mathlib.Core.Path.{refl}
use Rattle.references.specs.RefsLaws.{offer-used, offer-fits}
use borrow.Author.Rules.{rules}
use Rattle.references.proofs.refs.offer.Goals as goal

pub returns-then-slots-i-ne0 : goal.returns-then-slots-i-ne0
returns-then-slots-i-ne0 c = (offer-used c.requires.indexed c.name_of-w.ensures c.slot_of-i.ensures c.if-slots-i-ne0.true, refl)

pub returns : goal.returns
returns c = offer-fits c.requires.indexed c.requires.x_len_bound c.name_of-w.ensures c.slot_of-i.ensures c.if-slots-i-ne0.false c.keep.ensures
