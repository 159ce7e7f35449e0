use Rattle.weaving.specs.PiecesLaws.{usr-early, usr-late}
use Rattle.weaving.proofs.pieces.put_usr.Goals as goal

pub returns-then-is_earlier : goal.returns-then-is_earlier
returns-then-is_earlier c = let both = usr-early c.args.y.version c.args.y.service c.is_earlier.ensures c.if-is_earlier.true c.put.ensures in record { laid = both.0; upper_bound = both.1 }

pub returns : goal.returns
returns c = let both = usr-late c.args.y.version c.args.y.service c.is_earlier.ensures c.if-is_earlier.false c.put-2.ensures in record { laid = both.0; upper_bound = both.1 }
