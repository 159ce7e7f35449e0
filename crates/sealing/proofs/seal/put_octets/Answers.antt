use Rattle.weaving.specs.PiecesLaws.{part-short}
use Rattle.weaving.specs.Woven.{octets_pieces}
use Rattle.writing.specs.LaidLaws.{weaving-start, weaving-put, weaving-end, laid_same}
use borrow.Author.Rules.{rules}
use Rattle.sealing.proofs.seal.put_octets.Goals as goal

pub put-requires : goal.put-requires
put-requires c = let h = part-short c.args.s.now c.args.c.body c.args.c.tail c.part.ensures c.requires.0 in search rules

pub returns : goal.returns
returns c = (weaving-end (weaving-put (weaving-put (weaving-start c.args.out.now 0 (octets_pieces c.args.v c.args.s.now c.args.c c.args.reference.now c.args.filter)) c.put_header-p.ensures.laid) (laid_same c.part.ensures c.put.ensures)))
