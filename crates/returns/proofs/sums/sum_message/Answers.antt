use Rattle.std.specs.Prelude.{Ok, refl}
use Rattle.std.proofs.Common.{ap, ◌∙◌}
use Rattle.std.proofs.lemmas.Result.{err_from_is_err_and}
use Rattle.groups.specs.CallsLaws.{as-here, as-missing, as-refused}
use Rattle.returns.proofs.ReturnsLaws.{short-so, message-so, message-missing, message-refused}
use borrow.Author.Rules.{rules}
use Rattle.returns.proofs.sums.sum_message.Goals as goal

pub add_between-requires : goal.add_between-requires
add_between-requires c = let w = as-here c.args.s.now c.args.message.now c.message_named.ensures (c.in_ok-found.was ∙ ap Ok c.in-Some.is) in record { t = w.fits; s_len_bound = (short-so c.args.s.now w.i w.read, c.requires) }

pub concluded-requires : goal.concluded-requires
concluded-requires c = c.add_between.ensures.runs

pub returns : goal.returns
returns c = message-so c.args.s.now c.args.message.now (as-here c.args.s.now c.args.message.now c.message_named.ensures (c.in_ok-found.was ∙ ap Ok c.in-Some.is)) c.add_between.ensures.value c.concluded.ensures

pub returns-in_default : goal.returns-in_default
returns-in_default c = message-missing c.args.s.now c.args.message.now (as-missing c.args.s.now c.args.message.now c.message_named.ensures (c.in_ok-found.was ∙ ap Ok c.in_default.is)) c.missing.ensures

pub returns-in_err-found : goal.returns-in_err-found
returns-in_err-found c = let p = err_from_is_err_and c.from_residual.result c.from_residual.ensures.1 in rw (p.1, p.2) (message-refused c.args.s.now c.args.message.now (as-refused c.args.s.now c.args.message.now c.message_named.ensures c.in_err-found.was))
