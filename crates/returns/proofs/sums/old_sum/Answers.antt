use Rattle.kilograms.specs.OldSum.{handed_in}
use Rattle.kilograms.specs.RunningLaws.{held-handed}
use Rattle.returns.specs.Returns.{old_sum_of}
use Rattle.returns.proofs.ReturnsLaws.{starts-handed, sum-promised}
use borrow.Author.Rules.{rules}
use Rattle.returns.proofs.sums.old_sum.Goals as goal

pub sum_file-requires : goal.sum_file-requires
sum_file-requires c = starts-handed c.args.before (search rules) c.handed_in.ensures

pub returns : goal.returns
returns c = let both = sum-promised (old_sum_of c.args.s.now c.args.before) (c.sum_file.ensures (handed_in c.args.before) (held-handed c.args.before (search rules)) c.handed_in.ensures) in record { value = both.0; result_value = both.1 }
