use Rattle.std.proofs.Common.{ap, ◌∙◌, arith, take_all}
use Rattle.sha.specs.Sha.{block}
use Rattle.sha.proofs.block.compress.Goals as goal

pub returns-in-Some-Some : goal.returns-in-Some-Some
returns-in-Some-Some c =
    c.compressed.ensures ∙ ap (block c.args.h) (c.in-Some-Some.ensures.cases.same ∙ take_all 64 c.args.s.now (omega (arith, c.requires.0)))
