use Rattle.std.proofs.Common.{rules}
use Rattle.segments.specs.Checked.{edge_in, edge-less}
use Rattle.segments.proofs.print_elements.Goals as goal

pub overflow_add-i : goal.overflow_add-i
overflow_add-i g c =
    let w = edge_in c.args.t.now.syntax.service c.args.s.now c.loop-q.i c.piece_end.ensures c.in-Some.is in
    search rules

pub loop-q-smaller : goal.loop-q-smaller
loop-q-smaller g c = edge-less c.args.t.now.syntax.service c.args.s.now c.loop-q.i c.piece_end.ensures c.in-Some.is
