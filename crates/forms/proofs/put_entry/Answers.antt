use native.Mathlib.Omega.{arith}
use Rattle.forms.specs.FormsLaws.{grams-laid}
use Rattle.writing.specs.LaidLaws.{laid_more}
use Rattle.forms.proofs.put_entry.Goals as goal

pub returns : goal.returns
returns c = record { laid = laid_more (laid_more (laid_more c.put_number-a.ensures.laid c.put_number-b.ensures.laid) c.put_number-c.ensures.laid) (grams-laid c.args.form c.grams_number-n.ensures c.put_number.ensures.laid); upper_bound = omega (arith, c.put_number-a.ensures.upper_bound, c.put_number-b.ensures.upper_bound, c.put_number-c.ensures.upper_bound, c.put_number.ensures.upper_bound) }
