use Rattle.kilograms.specs.Example.{booked}
use Rattle.demands.proofs.years.example_is_booked.Goals as goal

pub returns : goal.returns
returns c = booked
