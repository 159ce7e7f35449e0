use native.Mathlib.Omega.{arith}
use mathlib.Core.Path.{refl, ◌∙◌}
use Rattle.message.specs.StepsLaws.{ust-bad, ust-moved}
use borrow.Author.Rules.{rules}
use Rattle.message.proofs.steps.on_ust.Goals as goal

pub returns-then-n-i : goal.returns-then-n-i
returns-then-n-i c = record { by_index = ust-bad c.args.g.now.syntax.service c.args.g.now.octets.now c.args.g.now.at c.args.m c.args.heads.now c.requires.sought.found _ c.if-n-i.true; heads_len = c.requires.segments_bound.1 }

pub overflow_cast-base : goal.overflow_cast-base
overflow_cast-base c = omega (arith, c.requires.roomy.sizes c.args.i c.if-n-i.false, c.requires.segments_bound.0)

pub returns : goal.returns
returns c = record { by_index = ust-moved c.args.g.now.syntax.service c.args.g.now.octets.now c.args.g.now.at c.args.m c.args.heads.now c.requires.sought.found c.if-n-i.false c.requires.roomy c.name_header.ensures c.claimed_in-claim.ensures.0 c.with_trailer.ensures; heads_len = c.name_header.ensures.long ∙ c.requires.segments_bound.1 }
