use Prim.Native.Nat.{◌-◌}
use lib.ListN.{length}
use Rattle.syntax.proofs.CleanLaws.{tidy-start, tidy-then, tidy-none, tidy-separator, tidy-end, tidy-bad, tidy-short, tidy-freed-bad, tidy-freed}
use Rattle.syntax.specs.Clean.{Tidy}
use borrow.Author.Rules.{rules}
use Rattle.syntax.proofs.reading.clean_end.Goals as goal

pub loop-i-init : goal.loop-i-init
loop-i-init c = tidy-start _ _ _

pub returns-then-s-i : goal.returns-then-s-i
returns-then-s-i c = tidy-none (tidy-then c.loop-i.invariant c.data_end-i.ensures.tidy) c.if-s-i.true

pub returns-then-c-lt-TERMINATOR : goal.returns-then-c-lt-TERMINATOR
returns-then-c-lt-TERMINATOR c = tidy-separator (tidy-then c.loop-i.invariant c.data_end-i.ensures.tidy) c.if-s-i.false c.class-c.ensures (c.data_end-i.ensures.stops c.if-s-i.false) c.if-c-lt-TERMINATOR.true

pub returns-then-c-eq-TERMINATOR : goal.returns-then-c-eq-TERMINATOR
returns-then-c-eq-TERMINATOR c = tidy-end (tidy-then c.loop-i.invariant c.data_end-i.ensures.tidy) c.if-s-i.false c.class-c.ensures c.if-c-eq-TERMINATOR.true

pub returns-then-c-eq-OUTSIDE : goal.returns-then-c-eq-OUTSIDE
returns-then-c-eq-OUTSIDE c = tidy-bad (tidy-then c.loop-i.invariant c.data_end-i.ensures.tidy) c.if-s-i.false c.class-c.ensures c.if-c-eq-OUTSIDE.true

pub returns-then-s-i-2 : goal.returns-then-s-i-2
returns-then-s-i-2 c = tidy-short (tidy-then c.loop-i.invariant c.data_end-i.ensures.tidy) c.if-s-i.false c.class-c.ensures c.if-c-lt-TERMINATOR.false c.if-c-eq-TERMINATOR.false c.if-c-eq-OUTSIDE.false c.if-s-i-2.true

pub returns-then-d-eq-OUTSIDE : goal.returns-then-d-eq-OUTSIDE
returns-then-d-eq-OUTSIDE c = tidy-freed-bad (tidy-then c.loop-i.invariant c.data_end-i.ensures.tidy) c.if-s-i.false c.class-c.ensures c.if-c-lt-TERMINATOR.false c.if-c-eq-TERMINATOR.false c.if-c-eq-OUTSIDE.false c.if-s-i-2.false c.class-d.ensures c.if-d-eq-OUTSIDE.true

pub loop-i-smaller : goal.loop-i-smaller
loop-i-smaller c = let w = c.data_end-i.ensures.tidy.low in search rules

pub loop-i-preserved : goal.loop-i-preserved
loop-i-preserved c = tidy-freed (tidy-then c.loop-i.invariant c.data_end-i.ensures.tidy) c.if-s-i.false c.class-c.ensures c.if-c-lt-TERMINATOR.false c.if-c-eq-TERMINATOR.false c.if-c-eq-OUTSIDE.false c.if-s-i-2.false c.class-d.ensures c.if-d-eq-OUTSIDE.false
