use Rattle.kilograms.specs.BatchLaws.{booked-exact}
use Rattle.demands.proofs.years.batch_is_exact.Goals as goal

pub returns : goal.returns
returns c = booked-exact
