use Rattle.std.proofs.Common.{arith}
use Rattle.printing.proofs.HexLaws.{spell_next}
use Rattle.printing.proofs.spell.Goals as goal

pub loop-k-preserved : goal.loop-k-preserved
loop-k-preserved c =
    spell_next c.args.octets.now c.loop-k.text c.loop-k.k c.digit.result c.digit-in-loop-k.result c.loop-k-test.true (omega (arith, c.loop-k-test.true, c.requires)) c.digit.ensures c.digit-in-loop-k.ensures c.loop-k.invariant
