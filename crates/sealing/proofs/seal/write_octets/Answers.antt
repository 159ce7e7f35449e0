use Rattle.writing.specs.WrittenLaws.{writes-over, writes-fit}
use Rattle.writing.specs.LaidLaws.{laid-all}
use Rattle.sealing.proofs.seal.write_octets.Goals as goal

pub returns-then-too_long : goal.returns-then-too_long
returns-then-too_long c = writes-over (laid-all c.put_octets-m.ensures) c.too_long.ensures c.if-too_long.true c.refused.ensures

pub returns : goal.returns
returns c = writes-fit (laid-all c.put_octets-m.ensures) c.too_long.ensures c.if-too_long.false c.put_octets.ensures
