use Rattle.std.proofs.Common.{◌≡◌, ℕ, ◌+◌, length, drop}
use Rattle.sha.specs.Sha.{rounds}
use Rattle.sha.specs.Loops.{IsStretch}
use Rattle.sha.proofs.block.stretch.Given as goal

abbrev pub invariant-loop-x : goal.invariant-loop-x
invariant-loop-x g l = (t : ℕ) → IsStretch (goal.F-post g l.f) l.k t (length l.w) → rounds t l.w l.initial.s ≡ rounds (t + l.x-index) (drop l.x-index l.w) l.s
