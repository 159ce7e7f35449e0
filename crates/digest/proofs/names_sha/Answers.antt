use mathlib.Core.Path.{ap, ◌∙◌}
use Rattle.std.specs.Prelude.{Ok}
use Rattle.groups.specs.CallsLaws.{as-here, as-missing, as-refused}
use Rattle.digest.specs.DigestsLaws.{names-holds, names-missing, names-refused}
use Rattle.digest.proofs.names_sha.Goals as goal

pub names_in-requires : goal.names_in-requires
names_in-requires c = let w = as-here c.args.s.now c.args.message.now c.message_named.ensures (c.in-Ok-Some.is ∙ ap Ok c.in-Ok-Some.field-0-is) in record { t = (w.fits, w.few.0, w.few.2) }

pub returns-in-Ok-Some : goal.returns-in-Ok-Some
returns-in-Ok-Some c = let w = as-here c.args.s.now c.args.message.now c.message_named.ensures (c.in-Ok-Some.is ∙ ap Ok c.in-Ok-Some.field-0-is) in names-holds c.args.s.now c.args.message.now c.args.header.now w (c.names_in.ensures c.args.message.now w)

pub returns-in-Ok-None : goal.returns-in-Ok-None
returns-in-Ok-None c = names-missing c.args.s.now c.args.message.now c.args.header.now (as-missing c.args.s.now c.args.message.now c.message_named.ensures (c.in-Ok-None.is ∙ ap Ok c.in-Ok-None.field-0-is))

pub returns-in-Err : goal.returns-in-Err
returns-in-Err c = names-refused c.args.s.now c.args.message.now c.args.header.now (as-refused c.args.s.now c.args.message.now c.message_named.ensures c.in-Err.is)
