use mathlib.Core.Path.{refl, sym, ◌∙◌}
use borrow.Author.Tests.{not-true, not-false}
use Rattle.elements.specs.FieldsLaws.{Fielding, left, fielding-start, fielding-end, fielding-high, fielding-fits, fielding-broken, fielding-less, fielding-on}
use borrow.Author.Rules.{rules}
use Rattle.elements.proofs.fields.elements_from.Given as goal

abbrev pub invariant-loop-ends : goal.invariant-loop-ends
invariant-loop-ends l = Fielding l.t.syntax l.s l.at l.marks l.i l.ends l.b l.n

abbrev pub decreases-loop-ends : goal.decreases-loop-ends
decreases-loop-ends l = left l.s l.ends l.i
