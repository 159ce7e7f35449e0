use Prim.Native.Nat.{◌-◌}
use lib.ListN.{length}
use mathlib.Core.Path.{sym, ◌∙◌}
use Rattle.elements.specs.FieldsLaws.{Noting, noting-start, noting-over, noting-fits, noting-long, noting-on, noting-closed-long, noting-closed, inside-fits}
use borrow.Author.Rules.{rules}
use Rattle.elements.proofs.fields.note.Given as goal

abbrev pub invariant-loop-q : goal.invariant-loop-q
invariant-loop-q l = Noting l.t.syntax l.s l.from l.initial.marks l.marks l.b l.j l.n

abbrev pub decreases-loop-q : goal.decreases-loop-q
decreases-loop-q l = length l.s - l.j
