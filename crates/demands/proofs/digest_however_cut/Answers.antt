use Rattle.sha.specs.FeedingLaws.{cut}
use Rattle.demands.proofs.digest_however_cut.Goals as goal

pub returns : goal.returns
returns c = cut
