use Rattle.filters.specs.DecodingLaws.{digit-some}
use Rattle.filters.specs.SixLoopLaws.{padded-two}
use Rattle.filters.proofs.six.last_group.Goals as goal

pub returns-then-r-eq0 : goal.returns-then-r-eq0
returns-then-r-eq0 c =
    padded-two _ _ _ (digit-some 64 _ c.bits_of.ensures c.in_ok-p.was) (digit-some 64 _ c.bits_of-2.ensures c.in_ok-q.was) (digit-some 64 _ c.bits_of-3.ensures c.in_ok-r.was)
    c.if-r-eq0.true c.first_of-then-r-eq0.ensures c.second_of.ensures c.put-then-r-eq0.ensures
