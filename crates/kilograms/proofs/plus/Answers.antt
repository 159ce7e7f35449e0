use Rattle.std.proofs.Common.{refl, arith, le→leb}
use lib.Ieee.{in_float}
use Rattle.kilograms.specs.SingleLaws.{plus-rounds}
use Rattle.kilograms.proofs.plus.Goals as goal

pub int_to_float-result : goal.int_to_float-result
unfolding in_float
int_to_float-result c = le→leb c.args.load 16777216 (omega arith)

pub returns : goal.returns
returns c = plus-rounds c.args.sum _ c.args.load c.requires refl
