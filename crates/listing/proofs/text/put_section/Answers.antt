use Rattle.listing.specs.ListingLaws.{section-closed, section-other}
use native.Mathlib.Omega.{arith}
use Rattle.listing.proofs.text.put_section.Goals as goal

pub seal_lines-requires : goal.seal_lines-requires
seal_lines-requires c = record { s_len_bound = (c.requires.s_len_bound.0, omega (arith, c.message_line-a.ensures.upper_bound, c.requires.s_len_bound.1)) }

pub returns-then-closed : goal.returns-then-closed
returns-then-closed c = record { laid = section-closed c.args.t.now.syntax.service c.args.s.now c.args.rows.now c.args.c c.if-closed.true c.message_line-a.ensures.laid c.seal_lines.ensures.laid; upper_bound = omega (arith, c.message_line-a.ensures.upper_bound, c.seal_lines.ensures.upper_bound) }

pub returns : goal.returns
returns c = record { laid = section-other c.args.t.now.syntax.service c.args.s.now c.args.rows.now c.args.c c.if-closed.false; upper_bound = omega arith }
