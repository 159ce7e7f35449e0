use borrow.Author.Rules.{rules}
use Prim.Native.Nat.{◌-◌}
use native.Mathlib.Omega.{arith}
use mathlib.Core.Path.{refl}
use lib.ListN.{length}
use Rattle.groups.specs.LinksLaws.{ends-in}
use Rattle.returns.specs.ReadingLaws.{Summing, summing_start, summing-runs, summing_on, summing-none, summing-end}
use Rattle.returns.proofs.loads.add_between.Goals as goal

pub loop-at-init : goal.loop-at-init
loop-at-init c = summing_start c.requires.s_len_bound.1

pub after_segment-k-requires : goal.after_segment-k-requires
after_segment-k-requires c = let h = ends-in c.args.t.now.syntax.service c.args.s.now c.loop-at.at c.stop.ensures c.in-Some.is in record { at_in_bounds = (omega (arith, h), c.requires.s_len_bound.0, summing-runs c.requires.s_len_bound.0 c.loop-at.invariant) }

pub overflow_add-at : goal.overflow_add-at
overflow_add-at c = let h = ends-in c.args.t.now.syntax.service c.args.s.now c.loop-at.at c.stop.ensures c.in-Some.is in search rules

pub loop-at-smaller : goal.loop-at-smaller
loop-at-smaller c = let h = ends-in c.args.t.now.syntax.service c.args.s.now c.loop-at.at c.stop.ensures c.in-Some.is in omega (arith, h)

pub loop-at-preserved : goal.loop-at-preserved
loop-at-preserved c = summing_on c.requires.t c.loop-at.invariant c.loop-at-test.true c.stop.ensures c.in-Some.is refl c.after_segment-k.ensures

pub returns-in-None : goal.returns-in-None
returns-in-None c = record { value = summing-none c.requires.t c.loop-at.invariant c.loop-at-test.true c.stop.ensures c.in-None.is; runs = summing-runs c.requires.s_len_bound.0 c.loop-at.invariant }

pub returns : goal.returns
returns c = record { value = summing-end c.loop-at.invariant c.loop-at-test.false; runs = summing-runs c.requires.s_len_bound.0 c.loop-at.invariant }
