use Rattle.lines.specs.Words.{feed}
use Rattle.writing.specs.Decimal.{decimal_of}
use Rattle.syntax.specs.Octets.{octets}
use mathlib.Core.List.{[], ◌∷◌}
use Rattle.writing.specs.LaidLaws.{weaving-start, weaving-put, weaving-end}
use Rattle.lines.proofs.refusal_line.Goals as goal

pub returns : goal.returns
returns c = weaving-end (weaving-put (weaving-put (weaving-put (weaving-put (weaving-put (weaving-put (weaving-put (weaving-start c.args.out.now 0 (octets "refused " ∷ decimal_of c.args.f.number ∷ octets " at " ∷ decimal_of c.args.f.place ∷ octets " segment " ∷ decimal_of c.args.f.segment ∷ feed ∷ [])) c.put-a.ensures) c.put_number-b.ensures.laid) c.put-c.ensures) c.put_number-d.ensures.laid) c.put-e.ensures) c.put_number-g.ensures.laid) c.put.ensures)
