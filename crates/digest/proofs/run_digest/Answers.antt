use native.Mathlib.Omega.{arith}
use mathlib.Core.Path.{ap, ◌∙◌}
use lib.ListN.{length}
use lib.Seq.{slice, length-slice}
use Rattle.digest.specs.DigestsLaws.{digest-run, digest-unnamed}
use Rattle.digest.proofs.run_digest.Goals as goal

pub digest_one-requires : goal.digest_one-requires
digest_one-requires c = let x = ap length c.own_part.ensures.result_value ∙ length-slice c.args.x.start c.args.x.end c.args.s.now c.requires.start_le_end.1 in omega (arith, x, c.requires.start_le_end.1, c.requires.s_len_bound)

pub returns-then-named : goal.returns-then-named
returns-then-named c = digest-run c.args.s.now c.args.x c.if-named.true c.own_part.ensures.result_value c.digest_one.ensures

pub returns : goal.returns
returns c = digest-unnamed (slice c.args.x.start c.args.x.end c.args.s.now) c.if-named.false c.unnamed.ensures
