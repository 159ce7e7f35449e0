use Rattle.sha.specs.FeedingLaws.{cut-two}
use Rattle.digest.proofs.digest_two.Goals as goal

pub returns : goal.returns
returns c = cut-two c.args.x.now c.args.y.now c.requires c.start-empty.ensures c.feed.ensures c.unwrap_or-first.ensures c.feed-2.ensures c.unwrap_or-both.ensures c.finish.ensures
