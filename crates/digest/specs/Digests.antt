-- "a call that gives the digest of a named range": SHA-1 of exactly the octets that the range call hands back.
use Rattle.std.specs.Prelude.{ℕ, Bool, false, cond, not, ◌&&◌, List, ◌∷◌, ◌++◌, replicate, Result, Ok, Err}
use Rattle.std.proofs.Math.Option.{Option, none, some}
use Rattle.std.proofs.Math.Seq.{slice}
use Rattle.syntax.specs.Octets.{octets, same}
use Rattle.syntax.specs.Refusals.{at_zero}
use Rattle.syntax.specs.declared.Refusal.{Refusal}
use Rattle.grammar.specs.Lists.{Snoc, nil, ◌▷◌}
use Rattle.grammar.specs.Segments.{Asked, Usa, seg, asked}
use Rattle.grammar.specs.Interchange.{Leaf, Header, header, message}
use Rattle.grammar.specs.Verdict.{verdict_of}
use Rattle.grammar.specs.Named.{Placed, placed}
use Rattle.message.specs.Summary.{or_else}
use Rattle.groups.specs.Groups.{Chosen, chosen}
use Rattle.groups.specs.Parts.{header_named}
use Rattle.groups.specs.Calls.{Answered, given, refused_as, answered_by, then, message_in}
use Rattle.ranges.specs.Ranges.{Parts, parts, Run, run, scope1_of, scope2_of}
use Rattle.f01.specs.F01.{f01_of}
use Rattle.scope3.specs.Scope3.{scope3_of}
use Rattle.sha.specs.Sha.{sha1}

-- ---- "The first USA directly after USH must name, unrepeated, code 16 in 0527, as in source document 004."

-- a USA whose first element is unrepeated and has the content 16 in its fourth component, 0527
abbrev pub names_sha : Asked → Bool
names_sha a = same a.tag (octets "USA") && (not (a.repeated 1) && same (a.text 1 3) (octets "16"))

-- the first of the USAs that stand between USH and the first USC
abbrev pub first_of : Snoc Leaf → Option Leaf
first_of nil = none
first_of (us ▷ u) = or_else (first_of us) (some u)

abbrev pub first_usa : Chosen Header → Option Leaf
first_usa (chosen hs (header c us cs)) = first_of us

-- of the header that a call names
abbrev pub usa_at : Placed → List ℕ → Option Leaf
usa_at (placed (message o t) q) r = then (header_named o r) first_usa

abbrev pub usa_of : List ℕ → List ℕ → List ℕ → Answered Leaf
usa_of s m r = answered_by (verdict_of s) (λ i. then (message_in i m) (λ p. usa_at p r))

abbrev pub named_by : Answered Leaf → Bool
named_by (given u) = names_sha (asked (seg Usa u))
named_by (refused_as f) = false

abbrev pub named_in : List ℕ → List ℕ → List ℕ → Bool
named_in s m r = named_by (usa_of s m r)

-- ---- the octets that the range calls hand back: "with the two parts of scope 1 one after the other"

abbrev pub parts_octets : List ℕ → Answered Parts → Answered (List ℕ)
parts_octets s (given (parts a b c d)) = given (slice a b s ++ slice c d s)
parts_octets s (refused_as f) = refused_as f

abbrev pub run_octets : List ℕ → Answered Run → Answered (List ℕ)
run_octets s (given (run a e)) = given (slice a e s)
run_octets s (refused_as f) = refused_as f

-- ---- the calls. "18 where it names another or there is none, after 13": where the range is refused, that refusal stands
abbrev pub digested : Bool → Answered (List ℕ) → Answered (List ℕ)
digested b (given x) = cond b (given (sha1 x)) (refused_as (at_zero 18))
digested b (refused_as f) = refused_as f

abbrev pub digest1_of : List ℕ → List ℕ → List ℕ → Answered (List ℕ)
digest1_of s m r = digested (named_in s m r) (parts_octets s (scope1_of s m r))

abbrev pub digest2_of : List ℕ → List ℕ → List ℕ → Answered (List ℕ)
digest2_of s m r = digested (named_in s m r) (run_octets s (scope2_of s m r))

-- the header stands in the AUTACK's interchange a, the octets in the other
abbrev pub digest_f01_of : List ℕ → List ℕ → List ℕ → List ℕ → Answered (List ℕ)
digest_f01_of a s m r = digested (named_in a m r) (run_octets s (f01_of a s m r))

abbrev pub digest3_of : List ℕ → List ℕ → List ℕ → List ℕ → Answered (List ℕ)
digest3_of a s m r = digested (named_in a m r) (run_octets s (scope3_of a s m r))

-- ---- as the calls answer: the digest, with the number 0; "on refusal .. every other number given back is 0"

abbrev pub digest_as : Answered (List ℕ) → Result (List ℕ) Refusal
digest_as (given x) = Ok x
digest_as (refused_as f) = Err f

abbrev pub digest_numbers : Answered (List ℕ) → List ℕ
digest_numbers (given x) = 0 ∷ 0 ∷ 0 ∷ x
digest_numbers (refused_as f) = f.number ∷ f.place ∷ f.segment ∷ replicate 20 0

abbrev pub told_digest : Result (List ℕ) Refusal → List ℕ
told_digest (Ok x) = 0 ∷ 0 ∷ 0 ∷ x
told_digest (Err f) = f.number ∷ f.place ∷ f.segment ∷ replicate 20 0
