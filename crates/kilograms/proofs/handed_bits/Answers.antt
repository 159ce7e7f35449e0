use Rattle.kilograms.specs.RunningLaws.{bits-real, bits-refused}
use Rattle.kilograms.proofs.handed_bits.Goals as goal

pub float_from_bits-bits : goal.float_from_bits-bits
float_from_bits-bits c = bits-real c.args.bits c.if-bits-le2139095040.true

pub returns : goal.returns
returns c = bits-refused c.args.bits c.if-bits-le2139095040.false
