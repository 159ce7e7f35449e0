use Rattle.demands.specs.AllowedLaws.{octets-given}
use Rattle.demands.proofs.seal_octets_is_given.Goals as goal

pub returns : goal.returns
returns c = octets-given
