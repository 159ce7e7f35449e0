use Rattle.orders.proofs.OrdersLaws.{orders-agree}
use Rattle.orders.proofs.orders_agree.Goals as goal

pub returns : goal.returns
returns c = orders-agree
