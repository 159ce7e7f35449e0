use Rattle.message.specs.StepsLaws.{number-told, number-never}
use borrow.Author.Rules.{rules}
use Rattle.message.proofs.steps.number_in.Goals as goal

pub returns-in-Some : goal.returns-in-Some
returns-in-Some c = number-told c.args.g.now.syntax.service c.args.g.now.octets.now c.args.g.now.at c.args.p c.requires.le_p.0 c.requires.le_p.2 c.field.ensures c.digits_value.ensures c.in-Some.is

pub returns-in-None : goal.returns-in-None
returns-in-None c = absurd (number-never c.args.g.now.syntax.service c.args.g.now.octets.now c.args.g.now.at c.args.p c.requires.le_p.0 c.requires.le_p.2 c.field.ensures c.digits_value.ensures c.in-None.is)
