use Rattle.weaving.specs.ValueLaws.{may-service, may-plain}
use borrow.Author.Rules.{rules}
use Rattle.weaving.proofs.value.may_write.Goals as goal

pub returns-then-is_service : goal.returns-then-is_service
returns-then-is_service c = search (may-service, rules)

pub returns : goal.returns
returns c = search (may-plain, rules)
