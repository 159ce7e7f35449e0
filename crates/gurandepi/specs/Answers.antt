-- The exported answers: the fields of each struct, in their order. The paper's number and place and the ordinal of the segment come first, then the call's own numbers. The grams of
-- `Loads`, which may be below zero, are told beside these.
use Rattle.std.specs.Prelude.{ℕ, List, [], ◌∷◌, Bool, cond, is_some, ◌≡◌}
use Rattle.writing.specs.Written.{Text, left_in, written_numbers}
use Rattle.gurandepi.specs.declared.Answer.{Answer}
use Rattle.gurandepi.specs.declared.Loads.{Loads}
use Rattle.gurandepi.specs.declared.OldSum.{OldSum}
use Rattle.gurandepi.specs.declared.Parts.{Parts}
use Rattle.gurandepi.specs.declared.Range.{Range}
use Rattle.gurandepi.specs.declared.Written.{Written}
use Rattle.gurandepi.specs.declared.Digest.{Digest}
use Rattle.gurandepi.specs.declared.Sha1.{Sha1}
use Rattle.gurandepi.specs.declared.Fed.{Fed}
use Rattle.sha.specs.Feeding.{fed_of, fed_from}
use Rattle.sha.specs.declared.Sha.{Sha}

abbrev pub answer_fields : Answer → List ℕ
answer_fields r = r.number ∷ r.place ∷ r.segment ∷ []

abbrev pub totals_fields : Loads → List ℕ
totals_fields r = r.number ∷ r.place ∷ r.segment ∷ r.loads ∷ []

-- but for the sum in single precision, which is no whole number's field
abbrev pub old_sum_fields : OldSum → List ℕ
old_sum_fields r = r.number ∷ r.place ∷ r.segment ∷ r.sum ∷ r.bits ∷ r.loads ∷ r.kilograms ∷ []

abbrev pub parts_fields : Parts → List ℕ
parts_fields r = r.number ∷ r.place ∷ r.segment ∷ r.header_start ∷ r.header_end ∷ r.body_start ∷ r.body_end ∷ []

abbrev pub range_fields : Range → List ℕ
range_fields r = r.number ∷ r.place ∷ r.segment ∷ r.start ∷ r.end ∷ []

abbrev pub written_fields : Written → List ℕ
written_fields r = r.number ∷ r.place ∷ r.segment ∷ r.length ∷ []

-- the answer r and the octets out' of an exported call that is to write x into out
pub record Gives (x : Text) (out : List ℕ) (r : Written) (out' : List ℕ) : Type 0 where
  pub answer : written_fields r ≡ written_numbers x out
  pub octets : out' ≡ left_in x out

-- ---- digests

abbrev pub digest_fields : Digest → List ℕ
digest_fields r = r.number ∷ r.place ∷ r.segment ∷ r.octets

-- the state that a struct holds
abbrev pub state_in : Sha1 → Sha
state_in s = record { chain = record { a = s.a; b = s.b; c = s.c; d = s.d; e = s.e }; buffer = s.buffer; count = s.count }

-- "15 where more than 2^32 - 1 octets are fed, which changes nothing": the answer, and the state that is handed back
pub record Feeds (st : Sha1) (part : List ℕ) (r : Fed) : Type 0 where
  pub answer : r.number ∷ r.place ∷ r.segment ∷ [] ≡ cond (is_some (fed_of (state_in st) part)) 0 15 ∷ 0 ∷ 0 ∷ []
  pub state : state_in r.state ≡ fed_from (state_in st) part
