use Rattle.kilograms.specs.OldSum.{handed_bits}
use Rattle.returns.specs.Returns.{message_old_sum_bits_of}
use Rattle.returns.proofs.ReturnsLaws.{starts-bits, held-bits, sum-promised}
use borrow.Author.Rules.{rules}
use Rattle.returns.proofs.sums.message_old_sum_bits.Goals as goal

pub sum_message-requires : goal.sum_message-requires
sum_message-requires c = starts-bits c.args.before c.handed_bits.ensures

pub returns : goal.returns
returns c = let both = sum-promised (message_old_sum_bits_of c.args.s.now c.args.message.now c.args.before) (c.sum_message.ensures (handed_bits c.args.before) (held-bits c.args.before) c.handed_bits.ensures) in record { value = both.0; result_value = both.1 }
