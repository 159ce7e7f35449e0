use native.Mathlib.Omega.{arith}
use mathlib.Core.Path.{ap, ◌∙◌}
use mathlib.Core.List.{◌++◌}
use lib.ListN.{length}
use lib.Seq.{slice, length-slice}
use Rattle.digest.specs.DigestsLaws.{digest-parts, digest-unnamed}
use Rattle.digest.proofs.parts_digest.Goals as goal

pub digest_two-requires : goal.digest_two-requires
digest_two-requires c = let x = ap length c.own_part.ensures.result_value ∙ length-slice c.args.p.header.start c.args.p.header.end c.args.s.now c.requires.start_le_end.1 in let y = ap length c.own_part-then-named.ensures.result_value ∙ length-slice c.args.p.body.start c.args.p.body.end c.args.s.now c.requires.start_le_end.3 in omega (arith, x, y, c.requires.start_le_end.1, c.requires.start_le_end.3, c.requires.s_len_bound)

pub returns-then-named : goal.returns-then-named
returns-then-named c = digest-parts c.args.s.now c.args.p c.if-named.true c.own_part.ensures.result_value c.own_part-then-named.ensures.result_value c.digest_two.ensures

pub returns : goal.returns
returns c = digest-unnamed (slice c.args.p.header.start c.args.p.header.end c.args.s.now ++ slice c.args.p.body.start c.args.p.body.end c.args.s.now) c.if-named.false c.unnamed.ensures
