use Rattle.groups.specs.Groups.{name_at}
use Rattle.syntax.specs.Octets.{octets}
use mathlib.Core.List.{[], ◌∷◌}
use native.Mathlib.Omega.{arith}
use Rattle.writing.specs.LaidLaws.{weaving-start, weaving-put, weaving-end}
use Rattle.lines.proofs.put_message.Goals as goal

pub returns : goal.returns
returns c = record { laid = weaving-end (weaving-put (weaving-put (weaving-put (weaving-put (weaving-start c.args.out.now c.args.at (octets "message " ∷ name_at c.args.t.now.syntax.service c.args.s.now c.args.unh 1 ∷ octets " " ∷ name_at c.args.t.now.syntax.service c.args.s.now c.args.unh 2 ∷ [])) c.put-a.ensures) c.put_name-b.ensures.laid) c.put-c.ensures) c.put_name.ensures.laid); upper_bound = omega (arith, c.put-a.ensures.place, c.put_name-b.ensures.upper_bound, c.put-c.ensures.place, c.put_name.ensures.upper_bound) }
