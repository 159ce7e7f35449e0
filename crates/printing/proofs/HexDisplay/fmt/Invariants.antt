use Rattle.std.proofs.Common.{◌≤◌, ◌-◌, length, take}
use Rattle.std.specs.Fmt.{HasWritten, IsPlainFormatter}
use Rattle.printing.specs.HexText.{hex_text}
use Rattle.printing.proofs.HexDisplay.fmt.Given as goal

abbrev pub invariant-loop-i : goal.invariant-loop-i
invariant-loop-i g l = (l.i ≤ length l.self.0.now) × (IsPlainFormatter l.initial.f → HasWritten g.W.Write.write_str_gives l.initial.f (hex_text (take l.i l.self.0.now)) l.f)

abbrev pub decreases-loop-i : goal.decreases-loop-i
decreases-loop-i g l = length l.self.0.now - l.i
