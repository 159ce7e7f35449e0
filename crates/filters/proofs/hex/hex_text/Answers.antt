use Rattle.std.proofs.Common.{refl, rules}
use Rattle.filters.specs.TextLoopLaws.{hexed-start, hexed-end, hexed-room, hexed-on}
use Rattle.filters.proofs.hex.hex_text.Goals as goal

pub loop-b-init : goal.loop-b-init
loop-b-init c = (hexed-start, refl)

pub put_octet-p-requires : goal.put_octet-p-requires
put_octet-p-requires c = let h = hexed-room c.loop-b.invariant.0 c.loop-b-test.true in search rules

pub loop-b-preserved : goal.loop-b-preserved
loop-b-preserved c = (search (hexed-on, rules), search rules)

pub returns : goal.returns
returns c = search (hexed-end, rules)
