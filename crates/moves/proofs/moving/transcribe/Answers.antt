use Rattle.std.proofs.Common.{arith, sym, ◌∙◌}
use Rattle.moves.specs.MovingLaws.{count-bad, moving-start, moving-room, moving-on, moving-bad, moving-large, moving-over, moving-sign, moving-end}
use Rattle.moves.proofs.moving.transcribe.Goals as goal

pub returns-in_default : goal.returns-in_default
returns-in_default c = count-bad c.args.from c.args.to c.args.stored.now c.args.out.now c.args.out.now c.refused.ensures c.read_count.ensures c.in_default.is

pub loop-init : goal.loop-init
loop-init c = moving-start c.args.from c.args.to c.args.stored.now (λ j. omega (arith, c.type_inv.stored j)) (omega arith) c.read_count.ensures c.in-Some.is c.put_count-p.ensures.upper_bound

pub returns-in_default-read_entry : goal.returns-in_default-read_entry
returns-in_default-read_entry c = moving-bad c.loop.invariant _ (omega arith) c.read_entry.ensures c.in_default-read_entry.is c.refused-in_default-read_entry.ensures

pub returns-then-too_large : goal.returns-then-too_large
returns-then-too_large c =
    moving-large c.loop.invariant _ (omega arith) c.read_entry.ensures c.in-Some-read_entry.is c.too_large.ensures c.if-too_large.true c.refused-then-too_large.ensures

pub put_entry-p-requires : goal.put_entry-p-requires
put_entry-p-requires c = (moving-room c.loop.invariant (omega arith), sym c.too_large.ensures ∙ c.if-too_large.false)

pub loop-preserved : goal.loop-preserved
loop-preserved c =
    moving-on c.loop.invariant (omega arith) (omega arith) c.read_entry.ensures c.in-Some-read_entry.is c.too_large.ensures c.if-too_large.false c.or_below-any.ensures
    (c.put_entry-p.ensures.laid, c.put_entry-p.ensures.upper_bound)

pub returns-then-i-stored : goal.returns-then-i-stored
returns-then-i-stored c = moving-over c.loop.invariant _ (omega arith) c.if-i-stored.true c.refused-then-i-stored.ensures

pub returns-then-sign_lost : goal.returns-then-sign_lost
returns-then-sign_lost c = moving-sign c.loop.invariant c.sign_lost.ensures _ (omega arith) c.if-i-stored.false c.if-sign_lost.true c.refused-then-sign_lost.ensures

pub returns : goal.returns
returns c = moving-end c.loop.invariant c.sign_lost.ensures (omega arith) c.if-i-stored.false c.if-sign_lost.false c.put_count-p.ensures.laid
