-- Example P of document 01, "Marked for proof": P1 to P10, computed over the definitions that the calls promise. One table under one proof.
use Rattle.std.specs.Prelude.{ℕ, ◌-◌, List, [], ◌∷◌, ◌++◌, map, ◌≡◌, refl, length}
use Rattle.std.proofs.Math.Seq.{slice}
use Rattle.syntax.specs.Octets.{octets}
use Rattle.syntax.specs.Example.{P}
use Rattle.syntax.specs.Repertoire.{inside}
use Rattle.grammar.specs.Example.{P3, P4, P5, P6, P7, P8, P9}
use Rattle.grammar.specs.Grams.{magnitude}
use Rattle.grammar.specs.Verdict.{verdict_of, totals_of, numbers, total_numbers, total_grams}
use Rattle.groups.specs.Calls.{Answered, given, refused_as}
use Rattle.ranges.specs.Ranges.{Parts, parts, scope1_of}
use Rattle.ranges.specs.Told.{part_numbers}
use Rattle.writing.specs.Written.{Text, text, no_text}
use Rattle.values.specs.Values.{value_of}
use Rattle.sealing.specs.Sealing.{seal_of, seal_octets_of}

-- ---- as numbers

-- "sealed octets": how many the header part has, and the body part
abbrev sealed : Answered Parts → List ℕ
sealed (given (parts a b c d)) = (b - a) ∷ (d - c) ∷ []
sealed (refused_as f) = []

-- number, place and segment, then the octets that are written
abbrev valued : Text → List ℕ
valued (text t) = 0 ∷ 0 ∷ 0 ∷ t
valued (no_text f) = f.number ∷ f.place ∷ f.segment ∷ []

-- ---- the table

-- what is computed, and what the paper prints
pub data Row : Type 0 where
  row : List ℕ → List ℕ → Row

abbrev pub computed : Row → List ℕ
computed (row a b) = a

abbrev pub printed : Row → List ℕ
printed (row a b) = b

abbrev pub table : List Row
table =
    -- P1 accepted, 57,340,000 g
    row (numbers (verdict_of P)) (0 ∷ 0 ∷ 0 ∷ [])
    ∷ row (total_numbers (totals_of P (octets "M1"))) (0 ∷ 0 ∷ 0 ∷ 2 ∷ [])
    ∷ row (magnitude (total_grams (totals_of P (octets "M1"))) ∷ []) (57340000 ∷ [])
    -- P2 empty: 1 at 0, in no segment
    ∷ row (numbers (verdict_of [])) (1 ∷ 0 ∷ 0 ∷ [])
    -- P3 `UNT+6`: 10 at 113, in segment 6
    ∷ row (numbers (verdict_of P3)) (10 ∷ 113 ∷ 6 ∷ [])
    -- P4 cut to 122 octets: 7 at 122, the end: it counts as the next, 7
    ∷ row (numbers (verdict_of P4)) (7 ∷ 122 ∷ 7 ∷ [])
    -- P5 `27.3.4`: 12 at 80, in segment 4
    ∷ row (numbers (verdict_of P5)) (12 ∷ 80 ∷ 4 ∷ [])
    -- P6 `30,000` is 30 kg: 10 at 114, in segment 6
    ∷ row (numbers (verdict_of P6)) (10 ∷ 114 ∷ 6 ∷ [])
    -- P7 183 octets, sealed octets 32 and 50: from 63 to 95 the header, from there to 145 the body
    ∷ row (numbers (verdict_of P7)) (0 ∷ 0 ∷ 0 ∷ [])
    ∷ row (length P7 ∷ []) (183 ∷ [])
    ∷ row (part_numbers (scope1_of P7 (octets "M1") (octets "A1"))) (0 ∷ 0 ∷ 0 ∷ 63 ∷ 95 ∷ 95 ∷ 145 ∷ [])
    ∷ row (sealed (scope1_of P7 (octets "M1") (octets "A1"))) (32 ∷ 50 ∷ [])
    -- .. which sealing P writes, and which are signed; the same REF again is refused
    ∷ row (valued (seal_of P (octets "M1") (octets "A1") 2 (15 ∷ 160 ∷ []))) (0 ∷ 0 ∷ 0 ∷ P7)
    ∷ row (valued (seal_octets_of P (octets "M1") (octets "A1") 2)) (0 ∷ 0 ∷ 0 ∷ (slice 63 95 P7 ++ slice 95 145 P7))
    ∷ row (valued (seal_of P7 (octets "M1") (octets "A1") 2 (15 ∷ 160 ∷ []))) (16 ∷ 0 ∷ 0 ∷ [])
    -- P8 in P7 `UST+A1+3`: 10 at 165, in segment 10
    ∷ row (numbers (verdict_of P8)) (10 ∷ 165 ∷ 10 ∷ [])
    -- P9 in P7 `UST+A2`: 9 at 145, in segment 8
    ∷ row (numbers (verdict_of P9)) (9 ∷ 145 ∷ 8 ∷ [])
    -- P10 value of P7 is 0F A0
    ∷ row (valued (value_of P7 (octets "M1") (octets "A1"))) (0 ∷ 0 ∷ 0 ∷ 15 ∷ 160 ∷ [])
    ∷ []

pub all : map computed table ≡ map printed table
unfolding inside
all = refl
