use Rattle.kilograms.specs.BatchLaws.{the-year}
use Rattle.demands.proofs.years.year_of_batches.Goals as goal

pub returns : goal.returns
returns c = the-year
