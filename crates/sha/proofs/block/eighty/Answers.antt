use Rattle.std.proofs.Common.{◌≡◌, length, drop, of_calls, rules}
use Rattle.sha.specs.LoopsLaws.{rounds-all, taken-most, stretch-choice, stretch-low, stretch-majority, stretch-high}
use Rattle.sha.proofs.block.eighty.Goals as goal

pub returns : goal.returns
returns c =
    let l : length c.args.w.now ≡ 80 = search rules in
    let w = c.args.w.now in
    rounds-all w c.args.h c.stretch-a.result c.stretch-b.result c.stretch-c.result c.stretch.result l
    (c.stretch-a.ensures 0 (stretch-choice _ (taken-most 20 w) (λ x y z r p. search (of_calls, rules))))
    (c.stretch-b.ensures 20 (stretch-low _ (taken-most 20 (drop 20 w)) (λ x y z r p. search (of_calls, rules))))
    (c.stretch-c.ensures 40 (stretch-majority _ (taken-most 20 (drop 40 w)) (λ x y z r p. search (of_calls, rules))))
    (c.stretch.ensures 60 (stretch-high _ (taken-most 20 (drop 60 w)) (λ x y z r p. search (of_calls, rules))))
