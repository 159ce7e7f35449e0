use Rattle.weaving.specs.PiecesLaws.{trailer-pieces, trailer-most, trailer-room}
use Rattle.weaving.specs.Woven.{trailer_pieces}
use Rattle.writing.specs.LaidLaws.{weaving-start, weaving-put, weaving-end, laid_same}
use mathlib.Core.Path.{sym}
use Rattle.weaving.proofs.pieces.put_trailer.Goals as goal

pub put-requires : goal.put-requires
put-requires c = trailer-room c.put-p1.ensures.place c.put-p2.ensures.place c.put_close-p3.ensures.upper_bound c.put_usr-p4.ensures.upper_bound c.put_released-p5.ensures.upper_bound c.requires.at_bound.0 c.requires.at_bound.1

pub returns : goal.returns
returns c = record { laid = laid_same (sym (trailer-pieces c.args.t.now.syntax.service c.args.t.now.syntax.version c.args.reference.now c.args.letters.now)) (weaving-end (weaving-put (weaving-put (weaving-put (weaving-put (weaving-put (weaving-put (weaving-start c.args.out.now c.args.at (trailer_pieces c.args.t.now.syntax.version c.args.t.now.syntax.service c.args.reference.now c.args.letters.now)) c.put-p1.ensures) c.put-p2.ensures) c.put_close-p3.ensures.laid) c.put_usr-p4.ensures.laid) c.put_released-p5.ensures.laid) c.put.ensures)); upper_bound = trailer-most c.args.at c.put-p1.ensures.place c.put-p2.ensures.place c.put_close-p3.ensures.upper_bound c.put_usr-p4.ensures.upper_bound c.put_released-p5.ensures.upper_bound c.put.ensures.place c.requires.at_bound.1 }
