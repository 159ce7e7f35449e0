-- A call that measures its text, refuses what is too long, and then lays it.
use Rattle.std.specs.Prelude.{ℕ, ◌≤◌, Bool, true, false, cond, List, ◌≡◌, refl, ltb, length, Result, Ok, Err}
use Rattle.std.proofs.Common.{arith, ap, sym, ◌∙◌, subst, ltb-false}
use Rattle.std.proofs.lemmas.Bool.{false≢true}
use Rattle.syntax.specs.Refusals.{at_zero}
use Rattle.syntax.specs.declared.Refusal.{Refusal}
use Rattle.writing.specs.Laid.{Laid}
use Rattle.writing.specs.LaidLaws.{laid-front}
use Rattle.writing.specs.Written.{Text, text, no_text, refused_as, too_long, written_as, left_in, length_numbers, refusal_numbers, written_numbers, told_written, Writes}

-- the answer and the octets settle the numbers
pub told-by : (c : Bool) (n : ℕ) → told_written (cond c (refused_as 15) (Ok n)) ≡ cond c (refusal_numbers (at_zero 15)) (length_numbers n)
told-by true n = refl
told-by false n = refl

told-as : (x : Text) (out : List ℕ) → told_written (written_as x out) ≡ written_numbers x out
told-as (no_text f) out = refl
told-as (text t) out = told-by (too_long (length out) (length t)) (length t)

pub writes : {x : Text} {out left : List ℕ} {r : Result ℕ Refusal} → r ≡ written_as x out → left ≡ left_in x out → Writes x out r left
writes {x} {out} e d = record { answer = e; numbers = ap told_written e ∙ told-as x out; octets = d }

pub writes_as : {x z : Text} {out left : List ℕ} {a : Result ℕ Refusal} → x ≡ z → Writes x out a left → Writes z out a left
writes_as {out = out} {left = left} {a = a} e w = subst (λ (v : Text). Writes v out a left) e w

pub writes-none : {f : Refusal} {out : List ℕ} {r : Result ℕ Refusal} → r ≡ Err f → Writes (no_text f) out r out
writes-none e = writes e refl

-- a length is no refusal
pub length-told : {A : Type 0} {n : ℕ} {f : Refusal} → Ok n ≡ Err f → A
length-told e = let z : ◌≡◌ {A = ℕ} 0 1 = cc in absurd (omega arith)

room_for : (room n : ℕ) → too_long room n ≡ false → n ≤ room
room_for room n e = by (ltb 65535 n) e
  where
    by : (c : Bool) → cond c true (ltb room n) ≡ false → n ≤ room
    by true h = absurd (false≢true (sym h))
    by false h = ltb-false room n h

module _ {t : List ℕ} {m : ℕ} (e : m ≡ length t) where
  -- by what `too_long` answers
  module _ {out : List ℕ} {b : Bool} (d : b ≡ too_long (length out) m) where
    pub writes-over : {r : Result ℕ Refusal} → b ≡ true → r ≡ refused_as 15 → Writes (text t) out r out
    writes-over h q = writes (q ∙ rw (← e, ← d, h)) (rw (← e, ← d, h))

    pub writes-fit : {out' : List ℕ} {k : ℕ} → b ≡ false → Laid out 0 t k out' → Writes (text t) out (Ok m) out'
    writes-fit h g =
        let f : length t ≤ length out = omega (arith, e, room_for (length out) m (sym d ∙ h)) in
        writes (rw (← e, ← d, h)) (laid-front g f ∙ rw (← e, ← d, h))
