use Rattle.std.proofs.Common.{sym, ap, ◌∙◌, arith}
use Rattle.sha.specs.Sha.{block}
use Rattle.sha.specs.Feeding.{poured, left}
use Rattle.sha.specs.LoopsLaws.{pouring-on, pouring-end}
use Rattle.sha.proofs.blocks_of.Goals as goal

pub loop-block-preserved : goal.loop-block-preserved
loop-block-preserved c =
    let p = c.in-Some.ensures.cases in
    let n = p.2 in
    let g =
    pouring-on c.args.h c.loop-block.c c.args.part.now c.loop-block.rest.now c.loop-block.invariant.0 c.loop-block.invariant.1 c.compress-c.result (omega (arith, n))
    (c.compress-c.ensures ∙ ap (block c.loop-block.c) p.0) in
    (g.0 ∙ ap (poured c.compress-c.result) (sym p.1), g.1 ∙ ap left (sym p.1))

pub returns-clause-chain : goal.returns-clause-chain
returns-clause-chain c = (pouring-end c.args.h c.loop-block.c c.args.part.now c.loop-block.rest.now c.loop-block.invariant.0 c.loop-block.invariant.1 c.in_default.ensures.cases).0

pub returns-clause-rest : goal.returns-clause-rest
returns-clause-rest c = (pouring-end c.args.h c.loop-block.c c.args.part.now c.loop-block.rest.now c.loop-block.invariant.0 c.loop-block.invariant.1 c.in_default.ensures.cases).1
