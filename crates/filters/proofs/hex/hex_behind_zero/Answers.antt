use Rattle.filters.specs.HexLoopLaws.{odd-on}
use Rattle.filters.proofs.hex.hex_behind_zero.Goals as goal

pub returns : goal.returns
returns c = odd-on _ _ _ c.next_octet.ensures c.in_ok-c.was c.half_of.ensures c.in_ok-a.was c.store.ensures c.hex_from.ensures
