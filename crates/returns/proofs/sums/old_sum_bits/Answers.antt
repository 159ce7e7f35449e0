use Rattle.kilograms.specs.OldSum.{handed_bits}
use Rattle.returns.specs.Returns.{old_sum_bits_of}
use Rattle.returns.proofs.ReturnsLaws.{starts-bits, held-bits, sum-promised}
use borrow.Author.Rules.{rules}
use Rattle.returns.proofs.sums.old_sum_bits.Goals as goal

pub sum_file-requires : goal.sum_file-requires
sum_file-requires c = starts-bits c.args.before c.handed_bits.ensures

pub returns : goal.returns
returns c = let both = sum-promised (old_sum_bits_of c.args.s.now c.args.before) (c.sum_file.ensures (handed_bits c.args.before) (held-bits c.args.before) c.handed_bits.ensures) in record { value = both.0; result_value = both.1 }
