use Rattle.writing.specs.WrittenLaws.{writes-none}
use Rattle.sealing.specs.SealLaws.{seal-written, seal-barred}
use Rattle.sealing.proofs.seal.seal_in.Goals as goal

pub seal_value-requires : goal.seal_value-requires
seal_value-requires c = record { s_len_bound = (c.requires.s_len_bound.0, c.requires.s_len_bound.1, c.may_seal.ensures.reference_len_bound c.if-may_seal.true) }

pub returns-then-may_seal : goal.returns-then-may_seal
returns-then-may_seal c = λ m h. seal-written h c.args.reference.now c.args.filter (c.may_seal.ensures.by_index m h) c.args.value.now c.if-may_seal.true c.seal_value.ensures

pub returns : goal.returns
returns c = λ m h. seal-barred h c.args.reference.now c.args.filter (c.may_seal.ensures.by_index m h) c.args.value.now c.if-may_seal.false (writes-none c.refused.ensures)
