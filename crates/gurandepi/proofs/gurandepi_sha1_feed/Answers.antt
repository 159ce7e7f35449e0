use Rattle.gurandepi.specs.AnswersLaws.{feeds-taken, feeds-refused}
use Rattle.gurandepi.proofs.gurandepi_sha1_feed.Goals as goal

pub returns-in-Some : goal.returns-in-Some
returns-in-Some c = feeds-taken c.args.state c.args.part.now c.into.ensures c.feed.ensures c.in-Some.is c.into-in-Some.ensures

pub returns-in-None : goal.returns-in-None
returns-in-None c = feeds-refused c.args.state c.args.part.now c.into.ensures c.feed.ensures c.in-None.is
