use Rattle.demands.specs.OrdinalsLaws.{segment-named}
use Rattle.demands.proofs.refusal_names_its_segment.Goals as goal

pub returns : goal.returns
returns c = segment-named
