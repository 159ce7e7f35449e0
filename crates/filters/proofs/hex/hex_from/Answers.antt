use Rattle.std.proofs.Common.{refl, rules}
use Rattle.filters.specs.HexLoopLaws.{hexing-start, hexing-end, hexing-odd, hexing-less, hexing-fits, hexing-high, hexing-low, hexing-on}
use Rattle.filters.proofs.hex.hex_from.Goals as goal

pub loop-two-init : goal.loop-two-init
loop-two-init c = (hexing-start c.requires, refl)

pub returns-in-Over : goal.returns-in-Over
returns-in-Over c = hexing-end c.loop-two.invariant.0 c.next_piece.ensures c.in-Over.is

pub returns-in-Short : goal.returns-in-Short
returns-in-Short c = hexing-odd c.loop-two.invariant.0 c.next_piece.ensures c.in-Short.is

pub returns-in_err-a-in-Of : goal.returns-in_err-a-in-Of
returns-in_err-a-in-Of c = rw c.from_residual.ensures (hexing-high c.loop-two.invariant.0 c.next_piece.ensures c.in-Of.is c.half_of.ensures c.in_err-a-in-Of.was)

pub returns-in_err-b-in-Of : goal.returns-in_err-b-in-Of
returns-in_err-b-in-Of c =
    rw c.from_residual-in_err-b-in-Of.ensures
    (hexing-low c.loop-two.invariant.0 c.next_piece.ensures c.in-Of.is c.half_of.ensures c.in_ok-a-in-Of.was c.half_of-in-Of.ensures c.in_err-b-in-Of.was)

pub overflow_add-n : goal.overflow_add-n
overflow_add-n c = let h = hexing-fits c.loop-two.invariant.0 c.next_piece.ensures c.in-Of.is in search rules

pub loop-two-smaller : goal.loop-two-smaller
loop-two-smaller c = hexing-less c.loop-two.invariant.0 c.next_piece.ensures c.in-Of.is

pub loop-two-preserved : goal.loop-two-preserved
loop-two-preserved c =
    (hexing-on c.loop-two.invariant.0 c.next_piece.ensures c.in-Of.is c.half_of.ensures c.in_ok-a-in-Of.was c.half_of-in-Of.ensures c.in_ok-b-in-Of.was c.store.ensures, search rules)
