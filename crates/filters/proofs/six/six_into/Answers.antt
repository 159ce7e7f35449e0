use Rattle.std.proofs.Common.{refl, rules}
use Rattle.filters.specs.DecodingLaws.{digit-some}
use Rattle.filters.specs.SixLoopLaws.{sixing-start, sixing-end, sixing-short, sixing-less, sixing-fits, sixing-last, sixing-inner, sixing-first, sixing-second, sixing-third, sixing-fourth, sixing-on}
use Rattle.filters.proofs.six.six_into.Goals as goal

pub loop-four-init : goal.loop-four-init
loop-four-init c = (sixing-start, refl)

pub returns-in-Over : goal.returns-in-Over
returns-in-Over c = sixing-end c.loop-four.invariant.0 c.next_piece.ensures c.in-Over.is

pub returns-in-Short : goal.returns-in-Short
returns-in-Short c = sixing-short c.loop-four.invariant.0 c.next_piece.ensures c.in-Short.is

pub last_group-requires : goal.last_group-requires
last_group-requires c = let h = sixing-fits c.loop-four.invariant.0 c.next_piece.ensures c.in-Of.is in search rules

pub returns-then-last : goal.returns-then-last
returns-then-last c = sixing-last c.loop-four.invariant.0 c.next_piece.ensures c.in-Of.is c.if-d-eq-PAD.true c.is_over-last.ensures c.if-last.true c.last_group.ensures

pub returns-else-last : goal.returns-else-last
returns-else-last c = sixing-inner c.loop-four.invariant.0 c.next_piece.ensures c.in-Of.is c.if-d-eq-PAD.true c.is_over-last.ensures c.if-last.false

pub returns-in_err-p-in-Of : goal.returns-in_err-p-in-Of
returns-in_err-p-in-Of c =
    rw c.from_residual.ensures (sixing-first c.loop-four.invariant.0 c.next_piece.ensures c.in-Of.is c.if-d-eq-PAD.false c.in_err-p-in-Of.was c.bits_of.ensures)

pub returns-in_err-q-in-Of : goal.returns-in_err-q-in-Of
returns-in_err-q-in-Of c =
    rw c.from_residual-in_err-q-in-Of.ensures
    (sixing-second c.loop-four.invariant.0 c.next_piece.ensures c.in-Of.is c.if-d-eq-PAD.false c.in_err-q-in-Of.was c.bits_of-in-Of.ensures)

pub returns-in_err-r-in-Of : goal.returns-in_err-r-in-Of
returns-in_err-r-in-Of c =
    rw c.from_residual-in_err-r-in-Of.ensures
    (sixing-third c.loop-four.invariant.0 c.next_piece.ensures c.in-Of.is c.if-d-eq-PAD.false c.in_err-r-in-Of.was c.bits_of-in-Of-2.ensures)

pub returns-in_err-s-in-Of : goal.returns-in_err-s-in-Of
returns-in_err-s-in-Of c =
    rw c.from_residual-in_err-s-in-Of.ensures
    (sixing-fourth c.loop-four.invariant.0 c.next_piece.ensures c.in-Of.is c.if-d-eq-PAD.false c.in_err-s-in-Of.was c.bits_of-in-Of-3.ensures)

pub first_of-requires : goal.first_of-requires
first_of-requires c =
    let p = digit-some 64 _ c.bits_of.ensures c.in_ok-p-in-Of.was in
    let q = digit-some 64 _ c.bits_of-in-Of.ensures c.in_ok-q-in-Of.was in
    (rw p.0 p.1, rw q.0 q.1)

pub put-n-requires : goal.put-n-requires
put-n-requires c = let h = sixing-fits c.loop-four.invariant.0 c.next_piece.ensures c.in-Of.is in search rules

pub loop-four-smaller : goal.loop-four-smaller
loop-four-smaller c = sixing-less c.loop-four.invariant.0 c.next_piece.ensures c.in-Of.is

pub loop-four-preserved : goal.loop-four-preserved
loop-four-preserved c = (
  sixing-on c.loop-four.invariant.0 c.next_piece.ensures c.in-Of.is c.if-d-eq-PAD.false (digit-some 64 _ c.bits_of.ensures c.in_ok-p-in-Of.was)
      (digit-some 64 _ c.bits_of-in-Of.ensures c.in_ok-q-in-Of.was) (digit-some 64 _ c.bits_of-in-Of-2.ensures c.in_ok-r-in-Of.was)
      (digit-some 64 _ c.bits_of-in-Of-3.ensures c.in_ok-s-in-Of.was) c.first_of.ensures c.second_of.ensures c.third_of.ensures c.put-n.ensures,
  search rules,
)
