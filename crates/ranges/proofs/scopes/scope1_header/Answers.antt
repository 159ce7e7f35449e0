use lib.ListN.{length}
use Rattle.ranges.specs.Told.{told_parts, header_part}
use Rattle.ranges.specs.Ranges.{scope1_of}
use mathlib.Core.Path.{sym, ap, ◌∙◌}
use Rattle.ranges.specs.RangesLaws.{parts-inside, header-part, part-octets, part_placed}
use Rattle.ranges.proofs.scopes.scope1_header.Goals as goal

pub own_part-requires : goal.own_part-requires
own_part-requires c = let w = parts-inside (length c.args.s.now) c.in-Ok.is c.scope1_places.ensures.parts_inside in (w.0, w.1)

pub returns-in-Ok : goal.returns-in-Ok
returns-in-Ok c = record { result_value = part-octets c.args.s.now (header_part (scope1_of c.args.s.now c.args.message.now c.args.header.now)) (header-part (scope1_of c.args.s.now c.args.message.now c.args.header.now) (ap told_parts (sym c.in-Ok.is) ∙ c.scope1_places.ensures.result_value)) c.own_part.ensures.result_value; ref_ptr_value = part_placed c.args.s.now (header_part (scope1_of c.args.s.now c.args.message.now c.args.header.now)) (header-part (scope1_of c.args.s.now c.args.message.now c.args.header.now) (ap told_parts (sym c.in-Ok.is) ∙ c.scope1_places.ensures.result_value)) c.args.s.ref_ptr.1 c.own_part.ensures.ref_ptr_value }

pub returns-in-Err : goal.returns-in-Err
returns-in-Err c = record { result_value = part-octets c.args.s.now (header_part (scope1_of c.args.s.now c.args.message.now c.args.header.now)) (header-part (scope1_of c.args.s.now c.args.message.now c.args.header.now) (ap told_parts (sym c.in-Err.is) ∙ c.scope1_places.ensures.result_value)) c.own_part-in-Err.ensures.result_value; ref_ptr_value = part_placed c.args.s.now (header_part (scope1_of c.args.s.now c.args.message.now c.args.header.now)) (header-part (scope1_of c.args.s.now c.args.message.now c.args.header.now) (ap told_parts (sym c.in-Err.is) ∙ c.scope1_places.ensures.result_value)) c.args.s.ref_ptr.1 c.own_part-in-Err.ensures.ref_ptr_value }
