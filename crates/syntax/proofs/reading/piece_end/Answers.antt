use Rattle.syntax.proofs.SegmentLaws.{edge_in, edge_on, edge-end}
use mathlib.Core.Path.{sym}
use borrow.Author.Rules.{rules}
use Rattle.syntax.proofs.reading.piece_end.Goals as goal

pub bounds-s-q : goal.bounds-s-q
bounds-s-q c = let a = c.args in edge_in a.t.now.syntax a.s.now a.from c.stop.ensures c.in-Some.is

pub returns-then-c-eq-TERMINATOR : goal.returns-then-c-eq-TERMINATOR
returns-then-c-eq-TERMINATOR c =
    let start = c in
    edge-end start.args.t.now.syntax start.args.s.now start.args.from c.stop.ensures c.in-Some.is c.class-c.ensures
    c.if-c-eq-TERMINATOR.true

pub returns-else-c-eq-TERMINATOR : goal.returns-else-c-eq-TERMINATOR
returns-else-c-eq-TERMINATOR c =
    let start = c in
    edge_on start.args.t.now.syntax start.args.s.now start.args.from c.stop.ensures c.in-Some.is c.class-c.ensures
    c.if-c-eq-TERMINATOR.false

pub returns-in-None : goal.returns-in-None
returns-in-None c = rw (← c.stop.ensures, c.in-None.is)
