use Rattle.std.proofs.Common.{◌≡◌, length, rules}
use Rattle.sha.specs.FeedingLaws.{finished-padded}
use Rattle.sha.proofs.finish.Goals as goal

pub returns : goal.returns
returns c = let f : length c.args.st.buffer ≡ 64 = search rules in finished-padded c.args.st.chain c.args.st.buffer c.args.st.count f c.pad.ensures c.absorb.ensures.chain c.absorb.ensures.buffer c.length_octets.ensures c.absorb-2.ensures.chain c.digest_octets.ensures
