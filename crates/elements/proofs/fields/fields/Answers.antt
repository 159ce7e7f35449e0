use native.Mathlib.Omega.{arith}
use Rattle.elements.specs.FieldsLaws.{tag-behind, tag-broken}
use borrow.Author.Rules.{rules}
use Rattle.elements.proofs.fields.fields.Goals as goal

pub pass_tag-requires : goal.pass_tag-requires
pass_tag-requires c = record { from_in_bounds = omega (arith, c.requires.tag_at.0.long) }

pub elements_from-requires : goal.elements_from-requires
elements_from-requires c = record { passed_as = (tag-behind c.requires.tag_at.0 c.pass_tag.ensures c.in_ok-from.was, c.clear.ensures) }

pub returns-in_err-from : goal.returns-in_err-from
returns-in_err-from c = rw c.from_residual.ensures (tag-broken c.clear.new.marks c.requires.tag_at.0 c.pass_tag.ensures c.in_err-from.was c.clear.ensures.room)
