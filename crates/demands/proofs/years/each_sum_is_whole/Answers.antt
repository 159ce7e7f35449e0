use Rattle.returns.proofs.YearsLaws.{whole_again}
use Rattle.demands.proofs.years.each_sum_is_whole.Goals as goal

pub returns : goal.returns
returns c = whole_again
