use Rattle.std.proofs.Common.{◌-◌, ◌≡◌, length}
use Rattle.filters.specs.HexLoopLaws.{Hexing}
use Rattle.filters.proofs.hex.hex_from.Given as goal

abbrev pub invariant-loop-two : goal.invariant-loop-two
invariant-loop-two l = Hexing l.release l.x l.initial.out l.from l.laid l.i l.n l.out × (length l.out ≡ length l.initial.out)

abbrev pub decreases-loop-two : goal.decreases-loop-two
decreases-loop-two l = length l.x - l.i
