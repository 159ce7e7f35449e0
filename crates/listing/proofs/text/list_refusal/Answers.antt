use Rattle.listing.specs.ListingLaws.{lists-full, lists-done}
use Rattle.writing.specs.LaidLaws.{laid-all}
use Rattle.listing.proofs.text.list_refusal.Goals as goal

pub returns-then-out-m : goal.returns-then-out-m
returns-then-out-m c = lists-full (laid-all c.refusal_line-m.ensures) c.if-out-m.true c.refused.ensures

pub returns : goal.returns
returns c = lists-done (laid-all c.refusal_line-m.ensures) c.if-out-m.false c.refusal_line.ensures
