use Rattle.lines.specs.Seals.{one_at, two_at}
use Rattle.lines.specs.Words.{feed, seal_words, covered_words}
use Rattle.groups.specs.Groups.{name_at}
use mathlib.Core.List.{[], ◌∷◌}
use native.Mathlib.Omega.{arith}
use Rattle.writing.specs.LaidLaws.{weaving-start, weaving-put, weaving-end}
use Rattle.lines.proofs.seals.seal_line.Goals as goal

pub put_covered-b-requires : goal.put_covered-b-requires
put_covered-b-requires c = record { end_bound = (c.requires.end_bound.0, omega (arith, c.put_seal-a.ensures.upper_bound, c.requires.end_bound.2)) }

pub returns : goal.returns
returns c = record { laid = weaving-end (weaving-put (weaving-put (weaving-put (weaving-start c.args.out.now c.args.at (seal_words (name_at c.args.x.now.t.now.syntax.service c.args.x.now.s.now c.args.start 2) (name_at c.args.x.now.t.now.syntax.service c.args.x.now.s.now c.args.start 3) ∷ covered_words (name_at c.args.x.now.t.now.syntax.service c.args.x.now.s.now c.args.start 3) (one_at c.args.x.now.layout c.args.start c.args.end) (two_at c.args.x.now.t.now.syntax.service c.args.x.now.s.now c.args.x.now.rows.now c.args.x.now.layout c.args.start) ∷ feed ∷ [])) c.put_seal-a.ensures.laid) c.put_covered-b.ensures.laid) c.put.ensures); upper_bound = omega (arith, c.put_seal-a.ensures.upper_bound, c.put_covered-b.ensures.upper_bound, c.put.ensures.place) }
