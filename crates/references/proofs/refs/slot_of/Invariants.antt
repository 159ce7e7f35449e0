use mathlib.Core.Path.{refl, sym, ◌∙◌}
use Prim.Native.Nat.{◌-◌}
use lib.ListN.{length}
use Rattle.references.specs.RefsLaws.{Seeking, seeking-start, seeking-in, seeking-free, seeking-names, seeking-found, seeking-less, seeking-on}
use borrow.Author.Rules.{rules}
use Rattle.references.proofs.refs.slot_of.Given as goal

abbrev pub invariant-loop-n : goal.invariant-loop-n
invariant-loop-n l = Seeking l.names l.slots l.n l.head l.tail l.i l.a l.b

abbrev pub decreases-loop-n : goal.decreases-loop-n
decreases-loop-n l = length l.slots - l.i
