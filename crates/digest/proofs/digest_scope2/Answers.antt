use Rattle.std.proofs.lemmas.Result.{err_from_is_err_and}
use lib.ListN.{length}
use Rattle.ranges.specs.Ranges.{scope2_of}
use Rattle.ranges.specs.RangesLaws.{run_inside}
use Rattle.digest.specs.Digests.{named_in, digest2_of}
use Rattle.digest.specs.DigestsLaws.{scope2-short, digest-promised, digest-run-given, digest-run-refused}
use Rattle.digest.proofs.digest_scope2.Goals as goal

pub run_digest-requires : goal.run_digest-requires
run_digest-requires c = record { start_le_end = run_inside (length c.args.s.now) c.in_ok-run.was c.scope2_places.ensures.run_inside; s_len_bound = scope2-short c.args.s.now c.args.message.now c.args.header.now c.scope2_places.ensures.value c.in_ok-run.was }

pub returns : goal.returns
returns c = let both = digest-promised (digest2_of c.args.s.now c.args.message.now c.args.header.now) (digest-run-given c.args.s.now (named_in c.args.s.now c.args.message.now c.args.header.now) (scope2_of c.args.s.now c.args.message.now c.args.header.now) c.scope2_places.ensures.value c.in_ok-run.was c.names_sha.ensures c.run_digest.ensures) in record { value = both.0; result_value = both.1 }

pub returns-in_err-run : goal.returns-in_err-run
returns-in_err-run c = let p = err_from_is_err_and c.from_residual.result c.from_residual.ensures.1 in let both = digest-promised (digest2_of c.args.s.now c.args.message.now c.args.header.now) (digest-run-refused c.args.s.now (named_in c.args.s.now c.args.message.now c.args.header.now) (scope2_of c.args.s.now c.args.message.now c.args.header.now) c.scope2_places.ensures.value c.in_err-run.was) in rw (p.1, p.2) (record { value = both.0; result_value = both.1 })
