use mathlib.Core.Path.{◌∙◌, sym, subst, ap}
use Rattle.std.specs.Prelude.{Ok}
use Rattle.syntax.specs.Octets.{octets}
use Rattle.ranges.specs.Told.{RunInside}
use Rattle.ranges.specs.RangesLaws.{run-promised}
use Rattle.f01.specs.ReferringLaws.{across-at, across-missing}
use Rattle.scope3.specs.Scope3.{whole_in, scope3_of}
use lib.ListN.{length}
use Rattle.scope3.proofs.scope3_places.Goals as goal

pub returns-in-Some : goal.returns-in-Some
returns-in-Some c = let both = run-promised (scope3_of c.args.autack.now c.args.referenced.now c.args.message.now c.args.header.now) (across-at (octets "3") whole_in c.args.autack.now c.args.referenced.now c.args.message.now c.args.header.now c.reference_named.ensures (c.in_ok-x.was ∙ ap Ok c.in-Some.is) (c.given.ensures ∙ c.whole_of.ensures.value)) (subst (λ r. RunInside r (length c.args.referenced.now)) (sym c.given.ensures) c.whole_of.ensures.run_inside) in record { value = both.0; result_value = both.1.0; run_inside = both.1.1 }

pub returns-in-None : goal.returns-in-None
returns-in-None c = let both = run-promised (scope3_of c.args.autack.now c.args.referenced.now c.args.message.now c.args.header.now) (across-missing (octets "3") whole_in c.args.autack.now c.args.referenced.now c.args.message.now c.args.header.now c.reference_named.ensures (c.in_ok-x.was ∙ ap Ok c.in-None.is) c.unreferred.ensures.value) c.unreferred.ensures.run_inside in record { value = both.0; result_value = both.1.0; run_inside = both.1.1 }
