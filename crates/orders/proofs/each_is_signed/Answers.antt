use Rattle.orders.proofs.SignedLaws.{each_signed}
use Rattle.orders.proofs.each_is_signed.Goals as goal

pub returns : goal.returns
returns c = each_signed
