use mathlib.Core.Path.{◌∙◌}
use Rattle.message.specs.StepsLaws.{grow-last-room, header-moved}
use borrow.Author.Rules.{rules}
use Rattle.message.proofs.steps.in_header.Goals as goal

pub grow_last-requires : goal.grow_last-requires
grow_last-requires c = record { n_bound = c.requires.roomy.headers; heads_len = c.requires.segments_bound.1; n_bound_2 = grow-last-room c.requires.roomy c.requires.segments_bound.0 }

pub returns : goal.returns
returns c = record { by_index = header-moved c.requires.roomy c.requires.segments_bound.0 c.args.g c.grow_last.ensures c.grown_to.ensures; heads_len = c.grow_last.ensures.long ∙ c.requires.segments_bound.1 }
