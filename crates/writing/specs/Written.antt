-- What a call that writes a text answers, and what it leaves in the lent buffer.
use Rattle.std.specs.Prelude.{ℕ, List, [], ◌∷◌, ◌++◌, Bool, true, cond, ◌≡◌, ltb, length, drop, Result, Ok, Err}
use Rattle.syntax.specs.Refusals.{at_zero}
use Rattle.syntax.specs.declared.Refusal.{Refusal}

-- the text that is to be written, or the refusal where there is none
pub data Text : Type 0 where
  text : List ℕ → Text
  no_text : Refusal → Text

-- 13 and up: at 0
abbrev pub refused_as : ℕ → Result ℕ Refusal
refused_as number = Err (at_zero number)

-- "result longer than the lent buffer or than 65,535": n octets, where the buffer has room for so many
abbrev pub too_long : ℕ → ℕ → Bool
too_long room n = cond (ltb 65535 n) true (ltb room n)

abbrev pub written_as : Text → List ℕ → Result ℕ Refusal
written_as (no_text f) out = Err f
written_as (text t) out = cond (too_long (length out) (length t)) (refused_as 15) (Ok (length t))

-- the text first, and "Lent octets beyond a written result stay."; all as it was where the call refuses
abbrev pub left_in : Text → List ℕ → List ℕ
left_in (no_text f) out = out
left_in (text t) out = cond (too_long (length out) (length t)) out (t ++ drop (length t) out)

-- ---- the paper's numbers: number and place, then the length; "on refusal .. every other number given back is 0"

abbrev pub length_numbers : ℕ → List ℕ
length_numbers n = 0 ∷ 0 ∷ 0 ∷ n ∷ []

abbrev pub refusal_numbers : Refusal → List ℕ
refusal_numbers f = f.number ∷ f.place ∷ f.segment ∷ 0 ∷ []

-- of a call that is to write x into out; 15 where it is too long
abbrev pub written_numbers : Text → List ℕ → List ℕ
written_numbers (no_text f) out = refusal_numbers f
written_numbers (text t) out = cond (too_long (length out) (length t)) (refusal_numbers (at_zero 15)) (length_numbers (length t))

-- as the answer has them
abbrev pub told_written : Result ℕ Refusal → List ℕ
told_written (Ok n) = length_numbers n
told_written (Err f) = refusal_numbers f

-- the answer r and the octets out' of a call that is to write x into out
pub record Writes (x : Text) (out : List ℕ) (r : Result ℕ Refusal) (out' : List ℕ) : Type 0 where
  pub answer : r ≡ written_as x out
  pub numbers : told_written r ≡ written_numbers x out
  pub octets : out' ≡ left_in x out
