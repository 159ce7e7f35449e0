use Rattle.std.proofs.Common.{arith, refl}
use Rattle.filters.specs.PiecesLaws.{taking-start, taking-over, taking-short, taking-on, taking-end}
use Rattle.filters.proofs.pieces.next_piece.Goals as goal

pub loop-k-init : goal.loop-k-init
loop-k-init g c = taking-start

pub returns-then-k-eq0 : goal.returns-then-k-eq0
returns-then-k-eq0 g c = taking-over c.loop-k.invariant c.next_octet.ensures c.in_default.is (omega arith) c.if-k-eq0.true

pub returns-else-k-eq0 : goal.returns-else-k-eq0
returns-else-k-eq0 g c = taking-short c.loop-k.invariant c.next_octet.ensures c.in_default.is (omega arith) c.if-k-eq0.false

pub loop-k-preserved : goal.loop-k-preserved
loop-k-preserved g c = taking-on c.loop-k.invariant c.next_octet.ensures (omega arith) c.in-Some.is refl

pub returns : goal.returns
returns g c = taking-end c.loop-k.invariant c.requires c.loop-k-test.false
