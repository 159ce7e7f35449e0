use Rattle.returns.proofs.YearsLaws.{message-leaves}
use Rattle.demands.proofs.years.message_is_near.Goals as goal

pub returns : goal.returns
returns c = message-leaves
