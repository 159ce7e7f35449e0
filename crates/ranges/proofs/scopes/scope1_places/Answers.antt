use mathlib.Core.Path.{ap, ◌∙◌}
use Rattle.std.specs.Prelude.{Ok}
use Rattle.groups.specs.CallsLaws.{as-here}
use Rattle.ranges.specs.Ranges.{scope1_of}
use Rattle.ranges.specs.RangesLaws.{parts-promised, scope1-here, scope1-inside}
use Rattle.ranges.proofs.scopes.scope1_places.Goals as goal

pub returns : goal.returns
returns c = let w = as-here c.args.s.now c.args.message.now c.message_named.ensures (c.in_ok-found.was ∙ ap Ok c.in-Some.is) in let both = parts-promised (scope1_of c.args.s.now c.args.message.now c.args.header.now) (scope1-here w c.args.header.now c.header_of.ensures c.parts_by.ensures) (scope1-inside w c.args.header.now c.header_of.ensures c.parts_by.ensures) in record { value = both.0; result_value = both.1.0; parts_inside = both.1.1 }
