use borrow.Author.Rules.{rules}
use Rattle.kilograms.specs.RunningLaws.{runs-whole}
use Rattle.returns.proofs.ReturnsLaws.{sum-real, left_so}
use Rattle.returns.proofs.sums.left_by.Goals as goal

pub whole-requires : goal.whole-requires
whole-requires c = runs-whole c.args.t c.requires

pub bits_of-requires : goal.bits_of-requires
bits_of-requires c = sum-real c.args.t c.requires

pub returns : goal.returns
returns c = left_so c.args.t c.whole.ensures c.bits_of.ensures
