use mathlib.Core.Path.{sym, ◌∙◌}
use native.Mathlib.Omega.{arith}
use Rattle.walk.specs.RunLaws.{whole, ending, walking-bad, walking-stop, walking_on, room-here}
use Rattle.std.proofs.lemmas.Result.{err_from_is_err_and}
use borrow.Author.Rules.{rules}
use Rattle.walk.proofs.advance.advance.Goals as goal

pub overflow_add-next : goal.overflow_add-next
overflow_add-next c = let w = ending c.args.t.now.syntax c.requires.going.fits c.args.s.now c.args.at c.requires.going.walks.short c.look-g.ensures.look c.in_ok-end.was in search rules

pub turn-requires : goal.turn-requires
turn-requires c = let w = whole c.args.t.now.syntax c.requires.going.fits (sym c.look-g.ensures.look ∙ c.in_ok-end.was) in record { ready = record { before = _; held = c.requires.going.walks.held; ends = w.ends; short = (let a = c.requires.going.walks.short in let b = w.inside in omega (arith, a, b)); room = room-here c.requires.going.walks w.ends w.inside; kind = w.kind; noted = c.look-g.ensures.noted _ _ c.in_ok-end.was; marks = c.look-g.ensures.marks }; count_value = c.requires.going.walks.first; sought = λ a e. c.requires.sought a (sym w.kind ∙ e) }

pub returns-in_err-end : goal.returns-in_err-end
returns-in_err-end c = let p = err_from_is_err_and c.from_residual.result c.from_residual.ensures.1 in record { by_index = λ a w. rw (p.1, p.2) (walking-bad w c.requires.going.fits c.requires.going.before c.requires.going.inside (sym c.look-g.ensures.look ∙ c.in_err-end.was)); marks_len = c.look-g.ensures.marks }

pub returns-in_err-state : goal.returns-in_err-state
returns-in_err-state c = let p = err_from_is_err_and c.from_residual-in_err-state.result c.from_residual-in_err-state.ensures.1 in record { by_index = λ a w. rw (p.1, p.2) (walking-stop w c.requires.going.fits c.requires.going.before (sym c.look-g.ensures.look ∙ c.in_ok-end.was) _ _ _ _ c.in_err-state.was c.turn.ensures); marks_len = c.look-g.ensures.marks }

pub returns : goal.returns
returns c = record { by_index = λ a w. walking_on w c.requires.going.fits c.requires.going.before (sym c.look-g.ensures.look ∙ c.in_ok-end.was) _ c.turn.auto.names c.in_ok-state.was c.turn.ensures; marks_len = c.look-g.ensures.marks }
