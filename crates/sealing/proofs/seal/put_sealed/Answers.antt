use Rattle.weaving.specs.PiecesLaws.{part-short, sealed-room}
use Rattle.weaving.specs.Woven.{sealed_pieces}
use Rattle.writing.specs.LaidLaws.{weaving-start, weaving-put, weaving-end, laid_same}
use borrow.Author.Rules.{rules}
use Rattle.sealing.proofs.seal.put_sealed.Goals as goal

pub put-p1-requires : goal.put-p1-requires
put-p1-requires c = let h = part-short c.args.s.now 0 c.args.x.now.layout.heads c.part.ensures c.requires.s_len_bound.0 in search rules

pub put_header-p2-requires : goal.put_header-p2-requires
put_header-p2-requires c = let h = part-short c.args.s.now 0 c.args.x.now.layout.heads c.part.ensures c.requires.s_len_bound.0 in search rules

pub put-p3-requires : goal.put-p3-requires
put-p3-requires c = let h = part-short c.args.s.now 0 c.args.x.now.layout.heads c.part.ensures c.requires.s_len_bound.0 in let k = part-short c.args.s.now c.args.x.now.layout.heads c.args.x.now.layout.unt c.part-2.ensures c.requires.s_len_bound.0 in search rules

pub put_trailer-p4-requires : goal.put_trailer-p4-requires
put_trailer-p4-requires c = let h = part-short c.args.s.now 0 c.args.x.now.layout.heads c.part.ensures c.requires.s_len_bound.0 in let k = part-short c.args.s.now c.args.x.now.layout.heads c.args.x.now.layout.unt c.part-2.ensures c.requires.s_len_bound.0 in search rules

pub put_rest-requires : goal.put_rest-requires
put_rest-requires c = let h = part-short c.args.s.now 0 c.args.x.now.layout.heads c.part.ensures c.requires.s_len_bound.0 in let k = part-short c.args.s.now c.args.x.now.layout.heads c.args.x.now.layout.unt c.part-2.ensures c.requires.s_len_bound.0 in record { at_bound = (sealed-room c.put-p1.ensures.place c.put_header-p2.ensures.upper_bound c.put-p3.ensures.place c.put_trailer-p4.ensures.upper_bound h k, c.requires.s_len_bound.0, c.requires.s_len_bound.1) }

pub returns : goal.returns
returns c = (weaving-end (weaving-put (weaving-put (weaving-put (weaving-put (weaving-put (weaving-start c.args.out.now 0 (sealed_pieces c.args.x.now.classes.syntax.version c.args.x.now.classes.syntax.service c.args.s.now c.args.x.now.layout c.args.reference.now c.args.filter c.args.letters.now)) (laid_same c.part.ensures c.put-p1.ensures)) c.put_header-p2.ensures.laid) (laid_same c.part-2.ensures c.put-p3.ensures)) c.put_trailer-p4.ensures.laid) c.put_rest.ensures))
