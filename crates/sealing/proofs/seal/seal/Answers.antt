use mathlib.Core.Path.{refl, ap, ◌∙◌}
use Rattle.std.specs.Prelude.{Ok}
use Rattle.std.proofs.lemmas.Result.{err_from_is_err_and}
use Rattle.groups.specs.CallsLaws.{as-here, as-missing, as-refused}
use Rattle.writing.specs.WrittenLaws.{writes-none}
use Rattle.sealing.specs.SealLaws.{seal-holds, seal-missing, seal-refused, held-short, held-unt}
use Rattle.sealing.proofs.seal.seal.Goals as goal

pub returns-in_err-found : goal.returns-in_err-found
returns-in_err-found c = let p = err_from_is_err_and c.from_residual.result c.from_residual.ensures.1 in rw (p.1, p.2) (seal-refused c.args.s.now c.args.message.now c.args.reference.now c.args.filter c.args.value.now (as-refused c.args.s.now c.args.message.now c.message_named.ensures c.in_err-found.was) (writes-none refl))

pub returns-in_default : goal.returns-in_default
returns-in_default c = seal-missing c.args.s.now c.args.message.now c.args.reference.now c.args.filter c.args.value.now (as-missing c.args.s.now c.args.message.now c.message_named.ensures (c.in_ok-found.was ∙ ap Ok c.in_default.is)) (writes-none c.refused.ensures)

pub seal_in-requires : goal.seal_in-requires
seal_in-requires c = let w = as-here c.args.s.now c.args.message.now c.message_named.ensures (c.in_ok-found.was ∙ ap Ok c.in-Some.is) in record { s_len_bound = (held-short w, held-unt w, w.few.0) }

pub returns : goal.returns
returns c = let w = as-here c.args.s.now c.args.message.now c.message_named.ensures (c.in_ok-found.was ∙ ap Ok c.in-Some.is) in seal-holds c.args.s.now c.args.message.now c.args.reference.now c.args.filter c.args.value.now w (c.seal_in.ensures c.args.message.now w)
