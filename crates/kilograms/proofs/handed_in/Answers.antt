use Rattle.std.proofs.Common.{T, sym, subst}
use lib.Ieee.{of_bits, neg}
use Rattle.kilograms.specs.RunningLaws.{low-handed, high-handed}
use Rattle.kilograms.proofs.handed_in.Goals as goal
use Rattle.kilograms.proofs.handed_in.Goals.{else-sum-via-then-sum+else-sum-2, else-sum-via-else-sum}

pub handed_whole-requires : goal.handed_whole-requires
unfolding of_bits neg
handed_whole-requires c = (subst T (sym c.if-sum.true) tt, subst T (sym c.if-sum-2.true) tt)

pub returns : goal.returns
unfolding of_bits neg
returns c = elim c.else-sum.branch [
  | else-sum-via-then-sum+else-sum-2 w ↦ high-handed c.args.sum w.if-sum-2.false
  | else-sum-via-else-sum w ↦ low-handed c.args.sum w.if-sum.false
]
