use borrow.Author.Rules.{rules}
use Rattle.weaving.specs.AllowedLaws.{most-early, most-hexed, most-sixed}
use Rattle.weaving.proofs.allowed.most_octets.Goals as goal

pub returns-then-is_earlier : goal.returns-then-is_earlier
returns-then-is_earlier c = search (most-early, rules)

pub returns-then-filter-eq2 : goal.returns-then-filter-eq2
returns-then-filter-eq2 c = search (most-hexed, rules)

pub returns-else-filter-eq2 : goal.returns-else-filter-eq2
returns-else-filter-eq2 c = search (most-sixed, rules)
