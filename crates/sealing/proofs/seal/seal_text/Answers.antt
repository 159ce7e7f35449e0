use lib.ListN.{length}
use native.Mathlib.Omega.{arith}
use Rattle.weaving.specs.Seals.{text_by}
use Rattle.writing.specs.WrittenLaws.{writes-none}
use Rattle.sealing.specs.SealLaws.{text-fits, text-laid, woven-writes, woven-barred}
use mathlib.Core.Path.{refl, ap}
use Rattle.sealing.proofs.seal.seal_text.Goals as goal

pub filter_text-n-requires : goal.filter_text-n-requires
filter_text-n-requires c = (text-fits c.args.x.now.classes.syntax.version c.args.filter c.args.value.now c.requires.s_len_bound.3).0

pub write_sealed-requires : goal.write_sealed-requires
write_sealed-requires c = let t = (text-fits c.args.x.now.classes.syntax.version c.args.filter c.args.value.now c.requires.s_len_bound.3) in let e = ap length (text-laid (text_by c.args.filter c.args.value.now) c.filter_text-n.ensures refl (text-fits c.args.x.now.classes.syntax.version c.args.filter c.args.value.now c.requires.s_len_bound.3).1 c.part-letters.ensures) in record { s_len_bound = (c.requires.s_len_bound.0, c.requires.s_len_bound.1, c.requires.s_len_bound.2, omega (arith, e, t.1)) }

pub returns-then-is_writable : goal.returns-then-is_writable
returns-then-is_writable c = woven-writes c.args.x.now.classes.syntax c.args.s.now c.args.x.now.layout c.args.reference.now c.args.filter (text-laid (text_by c.args.filter c.args.value.now) c.filter_text-n.ensures refl (text-fits c.args.x.now.classes.syntax.version c.args.filter c.args.value.now c.requires.s_len_bound.3).1 c.part-letters.ensures) c.is_writable.ensures c.if-is_writable.true c.write_sealed.ensures

pub returns : goal.returns
returns c = woven-barred c.args.x.now.classes.syntax c.args.s.now c.args.x.now.layout c.args.reference.now c.args.filter (text-laid (text_by c.args.filter c.args.value.now) c.filter_text-n.ensures refl (text-fits c.args.x.now.classes.syntax.version c.args.filter c.args.value.now c.requires.s_len_bound.3).1 c.part-letters.ensures) c.is_writable.ensures c.if-is_writable.false (writes-none c.refused.ensures)
