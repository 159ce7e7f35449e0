use mathlib.Core.Path.{sym, ap, subst, ◌∙◌}
use Rattle.gurandepi.specs.SignedLaws.{signed-kept}
use Rattle.judge.specs.Totals.{told_totals, told_grams, Light}
use borrow.Author.Rules.{rules}
use Rattle.gurandepi.proofs.totals_answer.Goals as goal

pub signed_grams-grams-requires : goal.signed_grams-grams-requires
signed_grams-grams-requires c = subst Light c.in-Ok.is c.requires

pub returns-in-Ok : goal.returns-in-Ok
returns-in-Ok c = record { result_value = sym (ap told_totals c.in-Ok.is); grams_value = signed-kept c.in-Ok.x.grams (subst Light c.in-Ok.is c.requires) c.in-Ok.x.below c.signed_grams-grams.ensures ∙ sym (ap told_grams c.in-Ok.is) }

pub returns-in-Err : goal.returns-in-Err
returns-in-Err c = record { result_value = sym (ap told_totals c.in-Err.is); grams_value = sym (ap told_grams c.in-Err.is) }
