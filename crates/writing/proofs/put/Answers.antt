use Rattle.std.proofs.Common.{arith}
use Rattle.writing.specs.LaidLaws.{laid-cut, laid-past}
use Rattle.writing.proofs.put.Goals as goal
use Rattle.writing.proofs.put.Goals.{then-at-out, else-at-out}

pub returns : goal.returns
returns c =
    elim c.if-at-out.branch [
      | then-at-out w ↦ laid-cut w.if-at-out.true w.min-n.ensures w.copy.ensures (omega arith) w.out-is
      | else-at-out w ↦ laid-past w.if-at-out.false w.out-is
    ]
