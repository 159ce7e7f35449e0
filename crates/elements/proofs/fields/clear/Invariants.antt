use lib.ListN.{length-set}
use Prim.Native.Nat.{◌-◌, ◌*◌}
use Rattle.elements.specs.Fields.{Cleared}
use Rattle.elements.specs.FieldsLaws.{clearing-start, clearing-end, clearing-on}
use borrow.Author.Rules.{rules}
use Rattle.elements.proofs.fields.clear.Given as goal

abbrev pub invariant-loop-p : goal.invariant-loop-p
invariant-loop-p l = Cleared l.marks 0 l.p

abbrev pub decreases-loop-p : goal.decreases-loop-p
decreases-loop-p l = 5 - l.p
