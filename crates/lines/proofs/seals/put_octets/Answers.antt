use Rattle.writing.specs.Decimal.{decimal_of}
use Rattle.syntax.specs.Octets.{octets}
use mathlib.Core.List.{[], ◌∷◌}
use native.Mathlib.Omega.{arith}
use Rattle.writing.specs.LaidLaws.{weaving-start, weaving-put, weaving-end}
use Rattle.lines.proofs.seals.put_octets.Goals as goal

pub returns : goal.returns
returns c = record { laid = weaving-end (weaving-put (weaving-put (weaving-start c.args.out.now c.args.at (octets " octets " ∷ decimal_of c.args.n ∷ [])) c.put-a.ensures) c.put_number.ensures.laid); upper_bound = omega (arith, c.put-a.ensures.place, c.put_number.ensures.upper_bound) }
