use Rattle.listing.specs.ListingLaws.{lists-same, begun-not}
use Rattle.walk.specs.RunLaws.{begun-fits}
use mathlib.Core.Path.{sym, ◌∙◌}
use Rattle.listing.proofs.text.listing.Goals as goal

pub list_from-requires : goal.list_from-requires
list_from-requires c = let w = begun-fits c.args.s.now c.begin.ensures c.in-Ok.is in rw c.of.ensures (record { t = w.0; s_len_bound = (w.1, sym c.begin.ensures ∙ c.in-Ok.is) })

pub returns-in-Err : goal.returns-in-Err
returns-in-Err c = lists-same (begun-not c.args.s.now c.begin.ensures c.in-Err.is c.refusal.ensures) c.list_refusal.ensures
