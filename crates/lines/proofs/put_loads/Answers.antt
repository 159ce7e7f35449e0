use Rattle.lines.specs.Words.{feed, sign_words}
use Rattle.writing.specs.Decimal.{decimal_of}
use Rattle.syntax.specs.Octets.{octets}
use mathlib.Core.List.{[], ◌∷◌}
use native.Mathlib.Omega.{arith}
use Rattle.writing.specs.LaidLaws.{weaving-start, weaving-put, weaving-end}
use Rattle.lines.proofs.put_loads.Goals as goal

pub returns : goal.returns
returns c = record { laid = weaving-end (weaving-put (weaving-put (weaving-put (weaving-put (weaving-put (weaving-put (weaving-start c.args.out.now c.args.at (octets " loads " ∷ decimal_of c.args.loads ∷ octets " grams " ∷ sign_words c.args.below ∷ decimal_of c.args.grams ∷ feed ∷ [])) c.put-a.ensures) c.put_number-b.ensures.laid) c.put-c.ensures) c.put_sign-d.ensures.laid) c.put_number-e.ensures.laid) c.put.ensures); upper_bound = omega (arith, c.put-a.ensures.place, c.put_number-b.ensures.upper_bound, c.put-c.ensures.place, c.put_sign-d.ensures.upper_bound, c.put_number-e.ensures.upper_bound, c.put.ensures.place) }
