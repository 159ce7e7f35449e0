use mathlib.Core.Path.{refl, ap, ◌∙◌}
use Rattle.std.specs.Prelude.{Ok}
use Rattle.walk.specs.RunLaws.{begun-fits}
use Rattle.scope3.specs.Scope3Laws.{whole-missing, whole_here}
use Rattle.scope3.proofs.whole_of.Goals as goal

pub find-requires : goal.find-requires
find-requires c = let w = begun-fits c.args.s.now c.begin.ensures c.in_ok-start.was in record { t = rw c.of-t.ensures w.0; s_len_bound = (w.1, refl) }

pub returns-in_default : goal.returns-in_default
returns-in_default c = record { value = whole-missing c.args.s.now c.args.autack.now c.args.x c.begin.ensures c.in_ok-start.was c.part-message.ensures c.find.new.rows (c.in_ok-c.was ∙ ap Ok c.in_default.is) (rw c.of-t.ensures at c.find.ensures) refl; run_inside = tt }

pub returns : goal.returns
returns c = let both = whole_here c.args.s.now c.args.autack.now c.args.x c.begin.ensures c.in_ok-start.was c.part-message.ensures c.find.new.rows c.of-t.result c.of-t.ensures (c.in_ok-c.was ∙ ap Ok c.in-Some.is) (rw c.of-t.ensures at c.find.ensures) (rw c.of-t.ensures at c.is_referred.ensures) (c.whole_by.ensures c.args.s.now) in record { value = both.0; run_inside = both.1 }
