use Rattle.std.proofs.Common.{◌≡◌, length}
use Rattle.filters.specs.TextLoopLaws.{Hexed}
use Rattle.filters.proofs.hex.hex_text.Given as goal

abbrev pub invariant-loop-b : goal.invariant-loop-b
invariant-loop-b l = Hexed l.initial.out l.at l.v l.b-index l.out l.p × (length l.out ≡ length l.initial.out)
