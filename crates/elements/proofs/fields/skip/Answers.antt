use Prim.Native.Nat.{◌-◌}
use lib.ListN.{length}
use Rattle.elements.specs.FieldsLaws.{Inside, inside-start, inside-over, inside-fits, inside-next, inside-last, inside-repeats, inside-else}
use borrow.Author.Rules.{rules}
use Rattle.elements.proofs.fields.skip.Goals as goal

pub loop-q-init : goal.loop-q-init
loop-q-init c = inside-start _ _ _

pub overflow_add-result : goal.overflow_add-result
overflow_add-result c = let w = inside-fits c.loop-q.invariant c.clean_end.ensures c.in-Some.is in search rules

pub returns-then-k-eq4 : goal.returns-then-k-eq4
returns-then-k-eq4 c = inside-next c.loop-q.invariant c.clean_end.ensures c.in-Some.is c.if-k-eq4.true

pub overflow_add-result-then-k-eq5 : goal.overflow_add-result-then-k-eq5
overflow_add-result-then-k-eq5 c = let w = inside-fits c.loop-q.invariant c.clean_end.ensures c.in-Some.is in search rules

pub returns-then-k-eq5 : goal.returns-then-k-eq5
returns-then-k-eq5 c = inside-last c.loop-q.invariant c.clean_end.ensures c.in-Some.is c.if-k-eq5.true

pub overflow_add-j : goal.overflow_add-j
overflow_add-j c = let w = inside-fits c.loop-q.invariant c.clean_end.ensures c.in-Some.is in search rules

pub loop-q-smaller-then-k-eq3 : goal.loop-q-smaller-then-k-eq3
loop-q-smaller-then-k-eq3 c = let w = inside-fits c.loop-q.invariant c.clean_end.ensures c.in-Some.is in search rules

pub loop-q-preserved-then-k-eq3 : goal.loop-q-preserved-then-k-eq3
loop-q-preserved-then-k-eq3 c = inside-repeats c.loop-q.invariant c.clean_end.ensures c.in-Some.is c.if-k-eq3.true

pub overflow_add-j-in-Some : goal.overflow_add-j-in-Some
overflow_add-j-in-Some c = let w = inside-fits c.loop-q.invariant c.clean_end.ensures c.in-Some.is in search rules

pub loop-q-smaller : goal.loop-q-smaller
loop-q-smaller c = let w = inside-fits c.loop-q.invariant c.clean_end.ensures c.in-Some.is in search rules

pub loop-q-preserved : goal.loop-q-preserved
loop-q-preserved c = inside-else c.loop-q.invariant c.clean_end.ensures c.in-Some.is c.if-k-eq4.false c.if-k-eq5.false c.if-k-eq3.false

pub returns : goal.returns
returns c = inside-over c.loop-q.invariant c.clean_end.ensures c.in_default.is
