use Rattle.demands.specs.RefusedLaws.{gives_none}
use Rattle.demands.proofs.exported_refusal_writes_nothing.Goals as goal

pub returns : goal.returns
returns c = gives_none
