use Rattle.orders.specs.WrittenLaws.{seals-written}
use Rattle.orders.proofs.seals_is_written.Goals as goal

pub returns : goal.returns
returns c = seals-written
