use Rattle.groups.specs.Groups.{name_at}
use Rattle.syntax.specs.Octets.{octets}
use mathlib.Core.List.{[], ◌∷◌}
use native.Mathlib.Omega.{arith}
use Rattle.writing.specs.LaidLaws.{weaving-start, weaving-put, weaving-end}
use Rattle.lines.proofs.seals.put_seal.Goals as goal

pub returns : goal.returns
returns c = record { laid = weaving-end (weaving-put (weaving-put (weaving-put (weaving-put (weaving-start c.args.out.now c.args.at (octets "seal " ∷ name_at c.args.x.now.t.now.syntax.service c.args.x.now.s.now c.args.start 2 ∷ octets " scope " ∷ name_at c.args.x.now.t.now.syntax.service c.args.x.now.s.now c.args.start 3 ∷ [])) c.put-a.ensures) c.put_name-b.ensures.laid) c.put-c.ensures) c.put_name.ensures.laid); upper_bound = omega (arith, c.put-a.ensures.place, c.put_name-b.ensures.upper_bound, c.put-c.ensures.place, c.put_name.ensures.upper_bound) }
