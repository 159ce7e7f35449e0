use Rattle.lines.specs.WordsLaws.{name-few}
use Rattle.writing.specs.LaidLaws.{laid_same}
use Rattle.syntax.specs.Content.{content}
use mathlib.Core.Path.{ap}
use native.Mathlib.Omega.{arith}
use Rattle.lines.proofs.words.put_name.Goals as goal

pub put_content-requires : goal.put_content-requires
put_content-requires c = let n = name-few c.args.t.now.syntax.service c.args.s.now c.args.a c.args.e c.component_part.ensures c.requires.s_len_bound.0 in omega (arith, n, c.requires.s_len_bound.1)

pub returns : goal.returns
returns c = let n = name-few c.args.t.now.syntax.service c.args.s.now c.args.a c.args.e c.component_part.ensures c.requires.s_len_bound.0 in record { laid = laid_same (ap (content c.args.t.now.syntax.service.release) c.component_part.ensures) c.put_content.ensures.laid; upper_bound = omega (arith, n, c.put_content.ensures.upper_bound) }
