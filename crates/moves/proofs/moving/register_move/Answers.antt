use Rattle.std.proofs.lemmas.Result.{err_from_is_err_and}
use Rattle.moves.specs.Stored.{move_of}
use Rattle.moves.specs.MovingLaws.{move-refused, move-over, move-fit}
use Rattle.moves.proofs.moving.register_move.Goals as goal

pub returns-then-too_long : goal.returns-then-too_long
returns-then-too_long c = move-over (move_of c.args.from c.args.to c.args.stored.now) _ _ c.in_ok-m.was c.transcribe.ensures c.too_long.ensures c.if-too_long.true c.refused.ensures

pub returns-in_err-m : goal.returns-in_err-m
returns-in_err-m c =
    let p = err_from_is_err_and c.from_residual.result c.from_residual.ensures.1 in
    rw (p.1, p.2) (move-refused (move_of c.args.from c.args.to c.args.stored.now) _ _ c.args.out.now c.in_err-m.was c.transcribe.ensures)

pub returns : goal.returns
returns c = move-fit (move_of c.args.from c.args.to c.args.stored.now) _ _ c.in_ok-m.was c.transcribe.ensures c.too_long.ensures c.if-too_long.false c.transcribe-2.ensures
