use Rattle.std.proofs.Common.{refl, rules}
use Rattle.filters.specs.TextLoopLaws.{sixed-start, sixed-end, sixed-room-one, sixed-one, sixed-room-two, sixed-two, sixed-room, sixed-on, sixed-less}
use Rattle.filters.proofs.six.six_text.Goals as goal

pub loop-rest-init : goal.loop-rest-init
loop-rest-init c = (sixed-start, refl)

pub put_three-p-requires : goal.put_three-p-requires
put_three-p-requires c = let h = sixed-room c.loop-rest.invariant.0 c.in-len3-up.len_at_least in search rules

pub loop-rest-smaller : goal.loop-rest-smaller
loop-rest-smaller c = sixed-less c.loop-rest.invariant.0 c.in-len3-up.len_at_least

pub loop-rest-preserved : goal.loop-rest-preserved
loop-rest-preserved c = (sixed-on c.loop-rest.invariant.0 c.in-len3-up.len_at_least c.put_three-p.ensures, search rules)

pub put_one-requires : goal.put_one-requires
put_one-requires c = let h = sixed-room-one c.loop-rest.invariant.0 c.in-len1.len_at_least c.in-len1.len_below in search rules

pub put_two-requires : goal.put_two-requires
put_two-requires c = let h = sixed-room-two c.loop-rest.invariant.0 c.in-len2.len_at_least c.in-len2.len_below in search rules

pub returns-in-len1 : goal.returns-in-len1
returns-in-len1 c = sixed-one c.loop-rest.invariant.0 c.in-len1.len_at_least c.in-len1.len_below c.put_one.ensures

pub returns-in-len2 : goal.returns-in-len2
returns-in-len2 c = sixed-two c.loop-rest.invariant.0 c.in-len2.len_at_least c.in-len2.len_below c.put_two.ensures

pub returns-in_default-rest : goal.returns-in_default-rest
returns-in_default-rest c = sixed-end c.loop-rest.invariant.0 c.in_default-rest.len_below
