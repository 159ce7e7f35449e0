use Rattle.std.proofs.Common.{arith}
use Rattle.printing.proofs.HexLaws.{digit_low, digit_high}
use Rattle.printing.proofs.digit.Goals as goal

pub returns-then-n-lt10 : goal.returns-then-n-lt10
returns-then-n-lt10 c = digit_low c.args.n c.if-n-lt10.true

pub returns-else-n-lt10 : goal.returns-else-n-lt10
returns-else-n-lt10 c = digit_high c.args.n c.requires (omega (arith, c.if-n-lt10.false))
