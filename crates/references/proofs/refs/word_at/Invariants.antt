use Prim.Native.Nat.{◌-◌}
use Rattle.references.specs.RefsLaws.{Packing, packing-start, packing-fits, packing-on, packing-end, packing-full}
use borrow.Author.Rules.{rules}
use Rattle.references.proofs.refs.word_at.Given as goal

abbrev pub invariant-loop-n : goal.invariant-loop-n
invariant-loop-n l = Packing l.release l.x l.from l.i l.v l.n

abbrev pub decreases-loop-n : goal.decreases-loop-n
decreases-loop-n l = 7 - l.n
