use Rattle.lines.specs.SealsLaws.{Sealing}
use Rattle.lines.proofs.seals.seal_lines.Given as goal

abbrev pub invariant-loop-i : goal.invariant-loop-i
invariant-loop-i l = Sealing l.x.t.now.syntax.service l.x.s.now l.x.rows.now l.x.layout l.initial.out l.at l.i l.out l.p
