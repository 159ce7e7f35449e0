use mathlib.Core.Path.{ap, ◌∙◌}
use Rattle.std.specs.Prelude.{Ok}
use Rattle.groups.specs.GroupsLaws.{groups-sought}
use Rattle.groups.specs.CallsLaws.{as-here}
use Rattle.ranges.specs.Ranges.{scope2_of}
use Rattle.ranges.specs.RangesLaws.{run-promised, scope2-here, scope2-inside}
use Rattle.ranges.proofs.scopes.scope2_places.Goals as goal

pub returns : goal.returns
returns c = let w = as-here c.args.s.now c.args.message.now c.message_named.ensures (c.in_ok-found.was ∙ ap Ok c.in-Some.is) in let t = groups-sought c.in-Some.found.classes.syntax.service c.args.s.now c.in-Some.found.rows c.args.header.now c.group_named.ensures c.trailers_of-trailers.ensures in let both = run-promised (scope2_of c.args.s.now c.args.message.now c.args.header.now) (scope2-here w c.args.header.now c.header_of.ensures t c.run_by.ensures) (scope2-inside w c.args.header.now c.header_of.ensures t c.run_by.ensures) in record { value = both.0; result_value = both.1.0; run_inside = both.1.1 }
