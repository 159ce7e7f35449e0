use Rattle.weaving.specs.PiecesLaws.{header-pieces, header-most}
use Rattle.weaving.specs.Woven.{header_pieces}
use Rattle.writing.specs.LaidLaws.{weaving-start, weaving-put, weaving-end, laid_same}
use mathlib.Core.Path.{sym}
use Rattle.weaving.proofs.pieces.put_header.Goals as goal

pub returns : goal.returns
returns c = record { laid = laid_same (sym (header-pieces c.args.v c.args.reference.now c.args.filter)) (weaving-end (weaving-put (weaving-put (weaving-put (weaving-put (weaving-put (weaving-put (weaving-start c.args.out.now c.args.at (header_pieces c.args.v c.args.reference.now c.args.filter)) c.put-p1.ensures) c.put-p2.ensures) c.put-p3.ensures) c.put_number-p4.ensures.laid) c.put-p5.ensures) c.put.ensures)); upper_bound = header-most c.args.at c.put-p1.ensures.place c.put-p2.ensures.place c.put-p3.ensures.place c.put_number-p4.ensures.upper_bound c.put-p5.ensures.place c.put.ensures.place c.requires.1 }
