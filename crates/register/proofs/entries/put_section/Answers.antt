use mathlib.Core.Path.{refl}
use Rattle.register.proofs.RegisterLaws.{section-light, section-entry, section-none}
use Rattle.register.proofs.entries.put_section.Goals as goal

pub entry_of-e-requires : goal.entry_of-e-requires
entry_of-e-requires c = (c.requires.2 c.if-closed.true).0

pub put_entry-end-requires : goal.put_entry-end-requires
put_entry-end-requires c = (c.requires.1, section-light c.args.form c.args.c c.entry_of-e.ensures (c.requires.2 c.if-closed.true).1)

pub returns-then-closed : goal.returns-then-closed
returns-then-closed c = section-entry c.args.c c.if-closed.true c.entry_of-e.ensures refl c.or_below.ensures c.put_entry-end.ensures.laid

pub returns : goal.returns
returns c = section-none c.args.c c.if-closed.false
