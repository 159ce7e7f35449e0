use Rattle.std.proofs.Common.{◌≡◌, length}
use Rattle.sha.specs.Feeding.{poured, left}
use Rattle.sha.proofs.blocks_of.Given as goal

abbrev pub invariant-loop-block : goal.invariant-loop-block
invariant-loop-block l = (poured l.fn.h l.fn.part ≡ poured l.c l.rest) × (left l.fn.part ≡ left l.rest)

abbrev pub decreases-loop-block : goal.decreases-loop-block
decreases-loop-block l = length l.rest
