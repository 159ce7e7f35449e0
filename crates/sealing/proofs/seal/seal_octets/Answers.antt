use mathlib.Core.Path.{refl, ap, ◌∙◌}
use Rattle.std.specs.Prelude.{Ok}
use Rattle.std.proofs.lemmas.Result.{err_from_is_err_and}
use Rattle.groups.specs.CallsLaws.{as-here, as-missing, as-refused}
use Rattle.writing.specs.WrittenLaws.{writes-none}
use Rattle.sealing.specs.SealLaws.{octets-holds, octets-missing, octets-refused, held-short}
use Rattle.sealing.proofs.seal.seal_octets.Goals as goal

pub returns-in_err-found : goal.returns-in_err-found
returns-in_err-found c = let p = err_from_is_err_and c.from_residual.result c.from_residual.ensures.1 in rw (p.1, p.2) (octets-refused c.args.s.now c.args.message.now c.args.reference.now c.args.filter (as-refused c.args.s.now c.args.message.now c.message_named.ensures c.in_err-found.was) (writes-none refl))

pub returns-in_default : goal.returns-in_default
returns-in_default c = octets-missing c.args.s.now c.args.message.now c.args.reference.now c.args.filter (as-missing c.args.s.now c.args.message.now c.message_named.ensures (c.in_ok-found.was ∙ ap Ok c.in_default.is)) (writes-none c.refused.ensures)

pub octets_in-requires : goal.octets_in-requires
octets_in-requires c = let w = as-here c.args.s.now c.args.message.now c.message_named.ensures (c.in_ok-found.was ∙ ap Ok c.in-Some.is) in record { s_len_bound = (held-short w, w.few.0) }

pub returns : goal.returns
returns c = let w = as-here c.args.s.now c.args.message.now c.message_named.ensures (c.in_ok-found.was ∙ ap Ok c.in-Some.is) in octets-holds c.args.s.now c.args.message.now c.args.reference.now c.args.filter w (c.octets_in.ensures c.args.message.now w)
