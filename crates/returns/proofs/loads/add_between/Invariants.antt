use borrow.Author.Rules.{rules}
use Prim.Native.Nat.{◌-◌}
use native.Mathlib.Omega.{arith}
use mathlib.Core.Path.{refl}
use lib.ListN.{length}
use Rattle.groups.specs.LinksLaws.{ends-in}
use Rattle.returns.specs.ReadingLaws.{Summing, summing_start, summing-runs, summing_on, summing-none, summing-end}
use Rattle.returns.proofs.loads.add_between.Given as goal

abbrev pub invariant-loop-at : goal.invariant-loop-at
invariant-loop-at l = Summing l.t.syntax.service l.s l.from l.to l.initial.k l.k l.at

abbrev pub decreases-loop-at : goal.decreases-loop-at
decreases-loop-at l = length l.s - l.at
