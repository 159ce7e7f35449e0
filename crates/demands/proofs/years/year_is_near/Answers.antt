use Rattle.returns.proofs.YearsLaws.{year-near}
use Rattle.demands.proofs.years.year_is_near.Goals as goal

pub returns : goal.returns
returns c = year-near
