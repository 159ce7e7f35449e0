use Rattle.elements.specs.FieldsLaws.{pass-separator}
use borrow.Author.Rules.{rules}
use Rattle.elements.proofs.fields.pass_tag.Goals as goal

pub returns-then-class-eq4 : goal.returns-then-class-eq4
returns-then-class-eq4 c = pass-separator c.requires.from_in_bounds c.class.ensures c.if-class-eq4.true
