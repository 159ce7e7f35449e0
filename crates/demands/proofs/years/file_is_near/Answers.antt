use Rattle.returns.proofs.YearsLaws.{file-leaves}
use Rattle.demands.proofs.years.file_is_near.Goals as goal

pub returns : goal.returns
returns c = file-leaves
