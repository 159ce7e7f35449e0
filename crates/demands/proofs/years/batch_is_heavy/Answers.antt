use Rattle.kilograms.specs.BatchLaws.{booked-heavy}
use Rattle.demands.proofs.years.batch_is_heavy.Goals as goal

pub returns : goal.returns
returns c = booked-heavy
