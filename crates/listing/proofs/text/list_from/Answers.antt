use Rattle.listing.specs.ListingLaws.{lists-full, lists-same, told-refused, told-length, told-laid}
use Rattle.listing.proofs.text.list_from.Goals as goal

pub returns-then-out-m : goal.returns-then-out-m
returns-then-out-m c = lists-full (told-length c.args.s.now (record { syntax = c.args.t.now.syntax; at = c.args.from }) c.requires.s_len_bound.1 _ _ _ c.lay.ensures c.in-Ok.is) c.if-out-m.true c.refused.ensures

pub returns-in-Err : goal.returns-in-Err
returns-in-Err c = lists-same (told-refused c.args.s.now (record { syntax = c.args.t.now.syntax; at = c.args.from }) c.requires.s_len_bound.1 _ _ _ c.lay.ensures c.in-Err.is) c.list_refusal.ensures

pub returns-else-out-m : goal.returns-else-out-m
returns-else-out-m c = told-laid c.args.s.now (record { syntax = c.args.t.now.syntax; at = c.args.from }) c.requires.s_len_bound.1 _ _ _ c.lay.ensures c.in-Ok.is _ c.if-out-m.false c.lay-in-Ok.ensures
