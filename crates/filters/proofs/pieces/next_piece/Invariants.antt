use Rattle.filters.specs.PiecesLaws.{Taking}
use Rattle.filters.proofs.pieces.next_piece.Given as goal

abbrev pub invariant-loop-k : goal.invariant-loop-k
invariant-loop-k g l = Taking g.row.N l.release l.x l.i l.slot-items l.k l.j
