use mathlib.Core.Path.{sym, ◌∙◌}
use lib.ListN.{length}
use Rattle.ranges.specs.Told.{run_part}
use Rattle.ranges.specs.RangesLaws.{run_inside, run-part, run-promised, part-octets, part_placed}
use Rattle.ranges.proofs.scopes.own_run.Goals as goal

pub own_part-requires : goal.own_part-requires
own_part-requires c = run_inside (length c.args.s.now) c.in-Ok.is c.requires

pub returns-in-Ok : goal.returns-in-Ok
returns-in-Ok c = record { result_value = λ x e. part-octets c.args.s.now (run_part x) (run-part x (run-promised x (sym c.in-Ok.is ∙ e) e).1.0) c.own_part.ensures.result_value; ref_ptr_value = λ x e. part_placed c.args.s.now (run_part x) (run-part x (run-promised x (sym c.in-Ok.is ∙ e) e).1.0) c.args.s.ref_ptr.1 c.own_part.ensures.ref_ptr_value }

pub returns-in-Err : goal.returns-in-Err
returns-in-Err c = record { result_value = λ x e. part-octets c.args.s.now (run_part x) (run-part x (run-promised x (sym c.in-Err.is ∙ e) e).1.0) c.own_part-in-Err.ensures.result_value; ref_ptr_value = λ x e. part_placed c.args.s.now (run_part x) (run-part x (run-promised x (sym c.in-Err.is ∙ e) e).1.0) c.args.s.ref_ptr.1 c.own_part-in-Err.ensures.ref_ptr_value }
