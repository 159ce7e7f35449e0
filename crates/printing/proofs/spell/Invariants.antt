use Rattle.std.proofs.Common.{◌≡◌, ◌*◌, take}
use Rattle.printing.specs.HexText.{hex_text}
use Rattle.printing.proofs.spell.Given as goal

abbrev pub invariant-loop-k : goal.invariant-loop-k
invariant-loop-k l = take (2 * l.k) l.text ≡ hex_text (take l.k l.octets)
