use Prim.Native.Nat.{◌-◌}
use lib.ListN.{length}
use Rattle.elements.specs.FieldsLaws.{Inside, inside-start, inside-over, inside-fits, inside-next, inside-last, inside-repeats, inside-else}
use borrow.Author.Rules.{rules}
use Rattle.elements.proofs.fields.skip.Given as goal

abbrev pub invariant-loop-q : goal.invariant-loop-q
invariant-loop-q l = Inside l.t.syntax l.s l.from l.b l.j

abbrev pub decreases-loop-q : goal.decreases-loop-q
decreases-loop-q l = length l.s - l.j
