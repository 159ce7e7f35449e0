use Rattle.std.proofs.Common.{◌≡◌, length, rules}
use Rattle.sha.specs.FeedingLaws.{filled-by}
use Rattle.sha.proofs.filled.Goals as goal

pub returns : goal.returns
returns c = let f : length c.args.b ≡ 64 = search rules in filled-by c.args.b c.args.part.now c.args.k c.min-n.result f c.requires c.min-n.ensures c.copy_from_slice.ensures.after c.copy_from_slice-2.ensures.after
