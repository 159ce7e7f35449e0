use mathlib.Core.Path.{◌∙◌}
use Rattle.grammar.specs.Verdict.{verdict_of}
use Rattle.judge.specs.ToldLaws.{given-back, promised}
use borrow.Author.Rules.{rules}
use Rattle.judge.proofs.run.judge.Goals as goal

pub returns : goal.returns
returns c = let both = promised (verdict_of c.args.s.now) (given-back c.args.s.now c.judged.result c.map_err.ensures.cases (λ f g q. search rules) ∙ c.judged.ensures) in record { value = both.0; result_value = both.1 }
