use mathlib.Core.Path.{refl}
use Rattle.std.proofs.lemmas.Result.{err_from_is_err_and}
use Rattle.syntax.specs.Content.{compared, content}
use Rattle.walk.specs.RunLaws.{begun-fits}
use Rattle.judge.specs.TotalsLaws.{totals-refused, totals-plain, totals-light}
use Rattle.judge.proofs.totals.sought.Goals as goal

pub find-requires : goal.find-requires
find-requires c = let w = begun-fits c.args.s.now c.begin.ensures c.in_ok-start.was in record { t = rw c.of-t.ensures w.0; s_len_bound = (w.1, refl) }

pub returns-in_err-start : goal.returns-in_err-start
returns-in_err-start c = let p = err_from_is_err_and c.from_residual.result c.from_residual.ensures.1 in record { value = rw (p.1, p.2) (totals-refused c.args.s.now c.args.reference.now c.begin.ensures c.in_err-start.was refl); light = rw p.1 tt }

pub returns : goal.returns
returns c = record { value = totals-plain c.args.s.now c.args.reference.now c.find.result c.find.new.rows c.begin.ensures c.in_ok-start.was (rw c.of-t.ensures at c.find.ensures); light = totals-light c.of-t.result.syntax c.args.s.now c.in_ok-start.start.at (compared (content 32 c.args.reference.now)) c.find.result c.find.new.rows c.find.ensures }
