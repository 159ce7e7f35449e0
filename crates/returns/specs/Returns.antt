-- The old sum that a file leaves, and the one that a message of it leaves: "kilograms in single precision, in file order, one rounding for each addition".
use Rattle.returns.specs.declared.sums.Left.{Left}
use Rattle.std.specs.Prelude.{ℕ, List, [], ◌∷◌, pos, negsuc, Float, Result, Ok, Err}
use Rattle.std.proofs.Math.Option.{Option, none, some}
use Rattle.syntax.specs.Refusals.{at_zero}
use Rattle.syntax.specs.declared.Refusal.{Refusal}
use Rattle.grammar.specs.Lists.{Snoc, each, joined, list}
use Rattle.grammar.specs.Grams.{Grams}
use Rattle.grammar.specs.Valid.{Interchange, interchange}
use Rattle.grammar.specs.Verdict.{verdict_of, loads_m}
use Rattle.grammar.specs.Named.{Placed, placed}
use Rattle.groups.specs.Calls.{Answered, given, refused_as, answered_by, then, message_in}
use Rattle.kilograms.specs.OldSum.{Old, tally, refused, added_all, kilograms_in, single, bits_of, handed_in, handed_bits}

-- ---- the loads, in order

-- of a file: those of all its messages
abbrev pub file_loads : Interchange → Snoc Grams
file_loads (interchange n u ms z) = joined loads_m ms

-- of one message
abbrev pub message_loads : Placed → Snoc Grams
message_loads (placed m q) = loads_m m

-- "Calls give 1 to 12 first .., then 13"
abbrev pub file_loads_of : List ℕ → Answered (Snoc Grams)
file_loads_of s = answered_by (verdict_of s) (λ i. some (file_loads i))

abbrev pub message_loads_of : List ℕ → List ℕ → Answered (Snoc Grams)
message_loads_of s m = answered_by (verdict_of s) (λ i. then (message_in i m) (λ p. some (message_loads p)))

-- "Loads are whole kilograms from 0 to 100,000": the kilograms of a load, none for any other
abbrev pub kilograms_of : Grams → Option ℕ
kilograms_of (pos g) = kilograms_in g
kilograms_of (negsuc g) = none

abbrev pub weighed : Snoc Grams → List (Option ℕ)
weighed l = list (each kilograms_of l)

-- ---- the sum that is left

-- the sum, how many loads were added, and their exact kilograms; or the refusal
pub data Summed : Type 0 where
  left : ℕ → ℕ → ℕ → Summed
  refused_sum : Refusal → Summed

abbrev pub summed_as : Old → Summed
summed_as (tally v n e) = left v n e
summed_as (refused n) = refused_sum (at_zero n)

-- "Refusals, after 13: 24 for any other sum handed in ..; then by load in order"
abbrev pub summed_by : Old → Answered (Snoc Grams) → Summed
summed_by k (refused_as f) = refused_sum f
summed_by k (given l) = summed_as (added_all k (weighed l))

-- "each call takes the sum the last file left and hands it on"
abbrev pub old_sum_of : List ℕ → Float → Summed
old_sum_of s x = summed_by (handed_in x) (file_loads_of s)

abbrev pub message_old_sum_of : List ℕ → List ℕ → Float → Summed
message_old_sum_of s m x = summed_by (handed_in x) (message_loads_of s m)

-- the same with the sum by its 32 bits
abbrev pub old_sum_bits_of : List ℕ → ℕ → Summed
old_sum_bits_of s b = summed_by (handed_bits b) (file_loads_of s)

abbrev pub message_old_sum_bits_of : List ℕ → List ℕ → ℕ → Summed
message_old_sum_bits_of s m b = summed_by (handed_bits b) (message_loads_of s m)

-- ---- as the calls answer it, and the paper's number and place for each case of the answer, the segment, and then the sum in kilograms and as its 32 bits,
-- the loads and their kilograms; 0 where there is none

abbrev pub old_sum_as : Summed → Result Left Refusal
old_sum_as (left v n e) = Ok (record { sum = v; single = single v; bits = bits_of v; loads = n; kilograms = e })
old_sum_as (refused_sum f) = Err f

abbrev pub told_sum : Result Left Refusal → List ℕ
told_sum (Ok x) = 0 ∷ 0 ∷ 0 ∷ x.sum ∷ x.bits ∷ x.loads ∷ x.kilograms ∷ []
told_sum (Err f) = f.number ∷ f.place ∷ f.segment ∷ 0 ∷ 0 ∷ 0 ∷ 0 ∷ []

-- and in single precision; 0 where there is none
abbrev pub single_in : Result Left Refusal → Float
single_in (Ok x) = x.single
single_in (Err f) = single 0

abbrev pub single_of : Summed → Float
single_of (left v n e) = single v
single_of (refused_sum f) = single 0

abbrev pub sum_numbers : Summed → List ℕ
sum_numbers (left v n e) = 0 ∷ 0 ∷ 0 ∷ v ∷ bits_of v ∷ n ∷ e ∷ []
sum_numbers (refused_sum f) = f.number ∷ f.place ∷ f.segment ∷ 0 ∷ 0 ∷ 0 ∷ 0 ∷ []
