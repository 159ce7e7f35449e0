-- "From 300,000,000 a load of 30,000 gives 300,030,016.": computed.
use Rattle.std.specs.Prelude.{◌≡◌, refl}
use Rattle.std.proofs.Math.Option.{some}
use Rattle.std.specs.Float.Ieee.{of_int, to_bits}
use Rattle.kilograms.specs.OldSum.{tally, added, bits_of}

pub booked : added (tally 300000000 0 0) (some 30000) ≡ tally 300030016 1 30000
booked = refl

-- its 32 bits, 4d8f0d18 and 4d8f10c2
pub bits-before : bits_of 300000000 ≡ 1301220632
unfolding of_int to_bits
bits-before = refl

pub bits-behind : bits_of 300030016 ≡ 1301221570
unfolding of_int to_bits
bits-behind = refl
