use Rattle.std.proofs.Common.{rules, ap, ◌∙◌, sym, add-one}
use Rattle.std.proofs.lemmas.List.{take_rest}
use Rattle.commands.specs.Lines.{words_left}
use Rattle.commands.proofs.LinesLaws.{words_at, words_whole, words_some}
use Rattle.commands.proofs.Words.next.Goals as goal

pub returns-in-Some-clause-next : goal.returns-in-Some-clause-next
returns-in-Some-clause-next c =
    let left = c.in_ok-left.left.now in
    let end = c.in-Some.end in
    sym c.self.view_is ∙ ap words_left c.in_ok-left.was ∙ words_at left end (search rules) (search rules) (search rules) ∙ simp (take_rest, add-one)

pub returns-in-Some-clause-over : goal.returns-in-Some-clause-over
returns-in-Some-clause-over c =
    (λ e. absurd (search rules), λ e. absurd (words_some c.in_ok-left.left.now (sym (ap words_left c.in_ok-left.was) ∙ c.self.view_is ∙ e)))

pub returns-in-None-clause-next : goal.returns-in-None-clause-next
returns-in-None-clause-next c =
    sym c.self.view_is ∙ ap words_left c.in_ok-left.was ∙ words_whole c.in_ok-left.left.now (search rules)

pub returns-in-None-clause-over : goal.returns-in-None-clause-over
returns-in-None-clause-over c =
    (λ e. absurd (search rules), λ e. absurd (words_some c.in_ok-left.left.now (sym (ap words_left c.in_ok-left.was) ∙ c.self.view_is ∙ e)))
