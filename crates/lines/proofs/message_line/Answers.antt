use Rattle.lines.specs.Words.{message_words, loads_words}
use Rattle.groups.specs.Groups.{name_at}
use mathlib.Core.List.{[], ◌∷◌}
use native.Mathlib.Omega.{arith}
use Rattle.writing.specs.LaidLaws.{weaving-start, weaving-put, weaving-end}
use Rattle.lines.proofs.message_line.Goals as goal

pub returns : goal.returns
returns c = record { laid = weaving-end (weaving-put (weaving-put (weaving-start c.args.out.now c.args.at (message_words (name_at c.args.t.now.syntax.service c.args.s.now c.args.unh 1) (name_at c.args.t.now.syntax.service c.args.s.now c.args.unh 2) ∷ loads_words c.args.loads c.args.below c.args.grams ∷ [])) c.put_message-a.ensures.laid) c.put_loads.ensures.laid); upper_bound = omega (arith, c.put_message-a.ensures.upper_bound, c.put_loads.ensures.upper_bound) }
