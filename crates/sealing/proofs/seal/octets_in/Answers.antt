use Rattle.writing.specs.WrittenLaws.{writes-none}
use Rattle.sealing.specs.SealLaws.{octets-written, octets-barred}
use Rattle.sealing.proofs.seal.octets_in.Goals as goal

pub write_octets-requires : goal.write_octets-requires
write_octets-requires c = (c.requires.s_len_bound.0, c.may_seal.ensures.reference_len_bound c.if-may_seal.true)

pub returns-then-may_seal : goal.returns-then-may_seal
returns-then-may_seal c = λ m h. octets-written h c.args.reference.now c.args.filter (c.may_seal.ensures.by_index m h) c.if-may_seal.true c.write_octets.ensures

pub returns : goal.returns
returns c = λ m h. octets-barred h c.args.reference.now c.args.filter (c.may_seal.ensures.by_index m h) c.if-may_seal.false (writes-none c.refused.ensures)
