use Rattle.sha.specs.FeedingLaws.{cut-one}
use Rattle.digest.proofs.digest_one.Goals as goal

pub returns : goal.returns
returns c = cut-one c.args.x.now c.requires c.start-empty.ensures c.feed.ensures c.unwrap_or.ensures c.finish.ensures
