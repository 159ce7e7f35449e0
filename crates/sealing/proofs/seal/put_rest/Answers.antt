use Prim.Native.Nat.{ℕ, ◌+◌}
use lib.Seq.{slice}
use lib.ListN.{length}
use Rattle.writing.specs.Decimal.{decimal_of}
use Rattle.weaving.specs.PiecesLaws.{part-short}
use Rattle.weaving.specs.Woven.{rest_pieces}
use Rattle.writing.specs.LaidLaws.{weaving-start, weaving-put, weaving-end, laid_same}
use mathlib.Core.Path.{ap, ◌∙◌}
use borrow.Author.Rules.{rules}
use Rattle.sealing.proofs.seal.put_rest.Goals as goal

pub put-p1-requires : goal.put-p1-requires
put-p1-requires c = let h = part-short c.args.s.now c.args.unt (c.args.unt + 4) c.part.ensures c.requires.at_bound.1 in search rules

pub put-requires : goal.put-requires
put-requires c = let h = part-short c.args.s.now c.count_end.result (length c.args.s.now) c.part-2.ensures c.requires.at_bound.1 in search rules

pub returns : goal.returns
returns c = (weaving-end (weaving-put (weaving-put (weaving-put (weaving-start c.args.out.now c.args.at (rest_pieces c.args.t.now.syntax.service c.args.s.now c.args.unt)) (laid_same c.part.ensures c.put-p1.ensures)) (laid_same (ap decimal_of c.grown.ensures) c.put_number-p2.ensures.laid)) (laid_same (c.part-2.ensures ∙ ap (λ (k : ℕ). slice k (length c.args.s.now) c.args.s.now) c.count_end.ensures) c.put.ensures)))
