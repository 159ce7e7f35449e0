use Rattle.groups.specs.CallsLaws.{named-plain}
use borrow.Author.Rules.{rules}
use Rattle.groups.proofs.calls.message_named.Goals as goal

pub returns : goal.returns
returns c = named-plain c.args.s.now c.args.message.now c.message_like.result c.message_like.ensures
