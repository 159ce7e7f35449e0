use Rattle.orders.proofs.OrdersLaws.{twice-agrees}
use Rattle.orders.proofs.twice_agrees.Goals as goal

pub returns : goal.returns
returns c = twice-agrees
