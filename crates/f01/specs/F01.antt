-- F01, on the readings of the AUTACK's interchange and of the one that it refers to.
use Rattle.std.specs.Prelude.{ℕ, cond, List}
use Rattle.std.proofs.Math.Option.{Option, none, some}
use Rattle.syntax.specs.Octets.{octets}
use Rattle.grammar.specs.Valid.{Interchange, interchange, opening_in}
use Rattle.spans.specs.Span.{Span, span, span_at}
use Rattle.groups.specs.Calls.{Answered, then, service_in}
use Rattle.ranges.specs.Ranges.{Run, run}
use Rattle.f01.specs.Targets.{Target, target, has_reference, across_of}

abbrev pub run_of : Span → Run
run_of (span a e) = run a e

-- "in the interchange whose UNB 0020 equals [it], from the first UNH to the last UNT of messages not of type AUTACK". "An F01 run fails with 13
-- if .. the lent interchange has another 0020, it holds no message or an AUTACK lies inside it."
abbrev pub run_in : Interchange → Target → Option Run
run_in (interchange n u ms z) (target k m) =
    cond (has_reference (interchange n u ms z) k) (then (span_at (service_in (interchange n u ms z)) (opening_in n).at u ms) (λ x. some (run_of x))) none

abbrev pub f01_of : List ℕ → List ℕ → List ℕ → List ℕ → Answered Run
f01_of a s m r = across_of (octets "F01") run_in a s m r
