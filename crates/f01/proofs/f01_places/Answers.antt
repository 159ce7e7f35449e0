use mathlib.Core.Path.{◌∙◌, sym, subst}
use Rattle.syntax.specs.Octets.{octets}
use Rattle.f01.specs.F01.{run_in, f01_of}
use Rattle.ranges.specs.Told.{RunInside}
use Rattle.ranges.specs.RangesLaws.{run-promised}
use Rattle.f01.specs.ReferringLaws.{across-read}
use lib.ListN.{length}
use Rattle.f01.proofs.f01_places.Goals as goal

pub returns : goal.returns
returns c = let both = run-promised (f01_of c.args.autack.now c.args.referenced.now c.args.message.now c.args.header.now) (across-read (octets "F01") run_in c.args.autack.now c.args.referenced.now c.args.message.now c.args.header.now c.reference_named.ensures c.in_ok-referred.was (c.given.ensures ∙ c.run_of.ensures.value)) (subst (λ r. RunInside r (length c.args.referenced.now)) (sym c.given.ensures) c.run_of.ensures.run_inside) in record { value = both.0; result_value = both.1.0; run_inside = both.1.1 }
