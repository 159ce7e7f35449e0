use Rattle.std.proofs.lemmas.Result.{err_from_is_err_and}
use lib.ListN.{length}
use Rattle.syntax.specs.Octets.{octets}
use Rattle.scope3.specs.Scope3.{whole_in, scope3_of}
use Rattle.ranges.specs.RangesLaws.{run_inside}
use Rattle.digest.specs.Digests.{named_in, digest3_of}
use Rattle.digest.specs.DigestsLaws.{across-short, digest-promised, digest-run-given, digest-run-refused}
use Rattle.digest.proofs.digest_scope3.Goals as goal

pub run_digest-requires : goal.run_digest-requires
run_digest-requires c = record { start_le_end = run_inside (length c.args.referenced.now) c.in_ok-run.was c.scope3_places.ensures.run_inside; s_len_bound = across-short (octets "3") whole_in c.args.autack.now c.args.referenced.now c.args.message.now c.args.header.now c.scope3_places.ensures.value c.in_ok-run.was }

pub returns : goal.returns
returns c = let both = digest-promised (digest3_of c.args.autack.now c.args.referenced.now c.args.message.now c.args.header.now) (digest-run-given c.args.referenced.now (named_in c.args.autack.now c.args.message.now c.args.header.now) (scope3_of c.args.autack.now c.args.referenced.now c.args.message.now c.args.header.now) c.scope3_places.ensures.value c.in_ok-run.was c.names_sha.ensures c.run_digest.ensures) in record { value = both.0; result_value = both.1 }

pub returns-in_err-run : goal.returns-in_err-run
returns-in_err-run c = let p = err_from_is_err_and c.from_residual.result c.from_residual.ensures.1 in let both = digest-promised (digest3_of c.args.autack.now c.args.referenced.now c.args.message.now c.args.header.now) (digest-run-refused c.args.referenced.now (named_in c.args.autack.now c.args.message.now c.args.header.now) (scope3_of c.args.autack.now c.args.referenced.now c.args.message.now c.args.header.now) c.scope3_places.ensures.value c.in_err-run.was) in rw (p.1, p.2) (record { value = both.0; result_value = both.1 })
