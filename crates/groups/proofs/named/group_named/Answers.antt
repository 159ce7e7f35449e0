use borrow.Author.Rules.{rules}
use Rattle.groups.specs.GroupsLaws.{sought-plain}
use Rattle.groups.proofs.named.group_named.Goals as goal

pub returns : goal.returns
returns c = sought-plain c.args.t.now.syntax.service c.args.s.now c.args.rows.now c.args.reference.now c.args.g c.group_like.ensures
