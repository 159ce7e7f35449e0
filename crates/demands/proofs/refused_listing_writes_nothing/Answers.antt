use Rattle.demands.specs.RefusedLaws.{lists-none}
use Rattle.demands.proofs.refused_listing_writes_nothing.Goals as goal

pub returns : goal.returns
returns c = lists-none
