use Rattle.weaving.specs.ValueLaws.{put-freed, put-plain}
use borrow.Author.Rules.{rules}
use Rattle.weaving.proofs.value.put_octet.Goals as goal

pub returns-then-is_service : goal.returns-then-is_service
returns-then-is_service c = search (put-freed, rules)

pub returns : goal.returns
returns c = search (put-plain, rules)
