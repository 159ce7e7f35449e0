use Rattle.weaving.specs.PiecesLaws.{close-early, close_late}
use Rattle.weaving.proofs.pieces.put_close.Goals as goal

pub returns-then-is_earlier : goal.returns-then-is_earlier
returns-then-is_earlier c = let both = close-early c.args.y.version c.args.y.service c.is_earlier.ensures c.if-is_earlier.true c.put.ensures in record { laid = both.0; upper_bound = both.1 }

pub returns : goal.returns
returns c = let both = close_late c.args.y.version c.args.y.service c.is_earlier.ensures c.if-is_earlier.false c.put-2.ensures in record { laid = both.0; upper_bound = both.1 }
