use Rattle.kilograms.specs.BatchLaws.{then-multiple}
use Rattle.demands.proofs.years.sum_is_multiple.Goals as goal

pub returns : goal.returns
returns c = λ v n e x w m f h q. then-multiple v n e x h q
