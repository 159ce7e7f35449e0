-- What is sealed, on the reading of an interchange.
use Rattle.std.specs.Prelude.{ℕ, cond, List}
use Rattle.std.proofs.Math.Option.{Option, none, some}
use Rattle.syntax.specs.Octets.{octets, same}
use Rattle.syntax.specs.declared.Service.{Service}
use Rattle.grammar.specs.Interchange.{Header, Open, message}
use Rattle.grammar.specs.Valid.{Interchange}
use Rattle.grammar.specs.Verdict.{verdict_of}
use Rattle.grammar.specs.Named.{Placed, placed}
use Rattle.walk.specs.Layout.{body_at, tail_at}
use Rattle.groups.specs.Groups.{Chosen, chosen}
use Rattle.groups.specs.Parts.{scope_h, header_named, trailer_named, header_at, header_end, trailer_at}
use Rattle.groups.specs.Calls.{Answered, answered_by, then, service_in, message_in}

-- ---- "A header of another scope than the call's is no such header (13)."

abbrev pub of_scope : List ℕ → Chosen Header → Option (Chosen Header)
of_scope code (chosen hs h) = cond (same (scope_h h) code) (some (chosen hs h)) none

abbrev pub header_in : List ℕ → Open → List ℕ → Option (Chosen Header)
header_in code o r = then (header_named o r) (of_scope code)

-- ---- "Scope 1: the header group from its USH, then the body, joined. Other header and trailer groups stay out."

-- start and end of the header group, start and end of the body
pub data Parts : Type 0 where
  parts : ℕ → ℕ → ℕ → ℕ → Parts

abbrev pub scope1_at : Service → Placed → List ℕ → Option Parts
scope1_at σ (placed (message o t) q) r =
    then (header_in (octets "1") o r)
    (λ h. some (parts (header_at σ q o h) (header_end σ q o h) (body_at σ q o) (tail_at σ q o)))

abbrev pub scope1_in : Interchange → List ℕ → List ℕ → Option Parts
scope1_in i m r = then (message_in i m) (λ p. scope1_at (service_in i) p r)

abbrev pub scope1_of : List ℕ → List ℕ → List ℕ → Answered Parts
scope1_of s m r = answered_by (verdict_of s) (λ i. scope1_in i m r)

-- ---- "Scope 2: from the USH to the octet before the associated UST, one run, other groups included."

-- start and end
pub data Run : Type 0 where
  run : ℕ → ℕ → Run

abbrev pub scope2_at : Service → Placed → List ℕ → Option Run
scope2_at σ (placed (message o t) q) r =
    then (header_in (octets "2") o r)
    (λ h. then (trailer_named o r) (λ x. some (run (header_at σ q o h) (trailer_at σ q o x))))

abbrev pub scope2_in : Interchange → List ℕ → List ℕ → Option Run
scope2_in i m r = then (message_in i m) (λ p. scope2_at (service_in i) p r)

abbrev pub scope2_of : List ℕ → List ℕ → List ℕ → Answered Run
scope2_of s m r = answered_by (verdict_of s) (λ i. scope2_in i m r)
