use Rattle.groups.specs.Groups.{name_at}
use Rattle.lines.specs.Words.{feed}
use Rattle.syntax.specs.Octets.{octets}
use mathlib.Core.List.{[], ◌∷◌}
use native.Mathlib.Omega.{arith}
use Rattle.writing.specs.LaidLaws.{weaving-start, weaving-put, weaving-end}
use Rattle.lines.proofs.accepted_line.Goals as goal

pub returns : goal.returns
returns c = record { laid = weaving-end (weaving-put (weaving-put (weaving-put (weaving-start c.args.out.now 0 (octets "accepted " ∷ name_at c.args.t.now.syntax.service c.args.s.now c.args.from 5 ∷ feed ∷ [])) c.put-a.ensures) c.put_name-b.ensures.laid) c.put.ensures); upper_bound = omega (arith, c.put-a.ensures.place, c.put_name-b.ensures.upper_bound, c.put.ensures.place) }
