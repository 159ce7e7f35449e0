use Rattle.writing.specs.WrittenLaws.{writes-none}
use Rattle.sealing.specs.SealLaws.{sized-written, sized-barred}
use mathlib.Core.Path.{sym, ◌∙◌}
use Rattle.sealing.proofs.seal.seal_value.Goals as goal

pub seal_text-requires : goal.seal_text-requires
seal_text-requires c = record { s_len_bound = (c.requires.s_len_bound.0, c.requires.s_len_bound.1, c.requires.s_len_bound.2, sym c.is_value_length.ensures ∙ c.if-is_value_length.true) }

pub returns-then-is_value_length : goal.returns-then-is_value_length
returns-then-is_value_length c = sized-written c.args.x.now.classes.syntax c.args.s.now c.args.x.now.layout c.args.reference.now c.args.filter c.args.value.now c.is_value_length.ensures c.if-is_value_length.true c.seal_text.ensures

pub returns : goal.returns
returns c = sized-barred c.args.x.now.classes.syntax c.args.s.now c.args.x.now.layout c.args.reference.now c.args.filter c.args.value.now c.is_value_length.ensures c.if-is_value_length.false (writes-none c.refused.ensures)
