use Rattle.std.proofs.lemmas.Result.{err_from_is_err_and}
use lib.ListN.{length}
use Rattle.ranges.specs.RangesLaws.{parts-inside}
use Rattle.digest.specs.Digests.{digest1_of}
use Rattle.digest.specs.DigestsLaws.{scope1-short, digest-promised, digest1-given, digest1-refused}
use Rattle.digest.proofs.digest_scope1.Goals as goal

pub parts_digest-requires : goal.parts_digest-requires
parts_digest-requires c = record { start_le_end = parts-inside (length c.args.s.now) c.in_ok-places.was c.scope1_places.ensures.parts_inside; s_len_bound = scope1-short c.args.s.now c.args.message.now c.args.header.now c.scope1_places.ensures.value c.in_ok-places.was }

pub returns : goal.returns
returns c = let both = digest-promised (digest1_of c.args.s.now c.args.message.now c.args.header.now) (digest1-given c.args.s.now c.args.message.now c.args.header.now c.scope1_places.ensures.value c.in_ok-places.was c.names_sha.ensures c.parts_digest.ensures) in record { value = both.0; result_value = both.1 }

pub returns-in_err-places : goal.returns-in_err-places
returns-in_err-places c = let p = err_from_is_err_and c.from_residual.result c.from_residual.ensures.1 in let both = digest-promised (digest1_of c.args.s.now c.args.message.now c.args.header.now) (digest1-refused c.args.s.now c.args.message.now c.args.header.now c.scope1_places.ensures.value c.in_err-places.was) in rw (p.1, p.2) (record { value = both.0; result_value = both.1 })
