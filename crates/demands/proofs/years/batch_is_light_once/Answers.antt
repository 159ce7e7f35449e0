use Rattle.kilograms.specs.BatchLaws.{booked-light}
use Rattle.demands.proofs.years.batch_is_light_once.Goals as goal

pub returns : goal.returns
returns c = booked-light
