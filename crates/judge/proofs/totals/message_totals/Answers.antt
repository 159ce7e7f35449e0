use mathlib.Core.Path.{sym, subst, ◌∙◌}
use Rattle.grammar.specs.Verdict.{totals_of}
use Rattle.judge.specs.Totals.{Light}
use Rattle.judge.specs.TotalsLaws.{totals-promised}
use Rattle.judge.proofs.totals.message_totals.Goals as goal

pub returns : goal.returns
returns c = let both = totals-promised (totals_of c.args.s.now c.args.reference.now) (c.totalled.ensures ∙ c.sought.ensures.value) (subst Light (sym c.totalled.ensures) c.sought.ensures.light) in record { value = both.0; result_value = both.1.0; result_value_2 = both.1.1.0; light = both.1.1.1 }
