use Rattle.std.proofs.Common.{◌≡◌, ◌+◌, ◌≤◌, ◌++◌, length, take}
use Rattle.printing.proofs.Output.put_all.Given as goal

abbrev pub invariant-loop-b : goal.invariant-loop-b
invariant-loop-b g l = length l.initial.self + l.b-index ≤ 4096 → l.self ≡ l.initial.self ++ take l.b-index l.octets
