-- The decimal text of a number: digits that give the number, at most 20 of them below 2 to the 64, and no leading zero.
use Rattle.std.specs.Prelude.{ℕ, zero, suc, ◌+◌, ◌-◌, ◌*◌, ◌/◌, ◌%◌, ◌≤◌, ◌<◌, List, [], ◌∷◌, ◌≡◌, refl, Bool, true, false, cond, ltb, length, get_or, set, drop}
use Rattle.std.proofs.Common.{arith, ap, sym, ◌∙◌, drop_of_length-le, length-set, drop-cons, lt-length-set, drop-set-lt, get_or-set_same, lt-ltb, le-ltb, ltb-true, ltb-false, le-leb}
use Rattle.syntax.specs.Content.{value_from, all_digits}
use Rattle.syntax.proofs.ContentLaws.{power}
use Rattle.writing.specs.Decimal.{digits_before, decimal_of, Filled}

-- what holds where n has one digit, and where the last of its digits comes off, holds of all of them
by_digits : (P : ℕ → List ℕ → List ℕ → Type 0)
    → ((n : ℕ) (t : List ℕ) → n < 10 → P n t ((48 + n) ∷ t))
    → ((n : ℕ) (t d : List ℕ) → 10 ≤ n → P (n / 10) ((48 + n % 10) ∷ t) d → P n t d)
    → (more n : ℕ) (t : List ℕ) → n < power (suc more) → P n t (digits_before more n t)
by_digits P one on zero n t h = one n t h
by_digits P one on (suc more) n t h =
    pick (ltb n 10) refl (by_digits P one on more (n / 10) ((48 + n % 10) ∷ t) (let l : n < power (suc more) * 10 = h in omega arith))
  where
    pick : (b : Bool) → ltb n 10 ≡ b → P (n / 10) ((48 + n % 10) ∷ t) (digits_before more (n / 10) ((48 + n % 10) ∷ t))
        → P n t (cond b ((48 + n) ∷ t) (digits_before more (n / 10) ((48 + n % 10) ∷ t)))
    pick true e p = one n t (ltb-true n 10 e)
    pick false e p = on n t (digits_before more (n / 10) ((48 + n % 10) ∷ t)) (ltb-false n 10 e) p

-- the digits are those of n
pub decimal-value : (n : ℕ) → n < 18446744073709551616 → value_from 0 (decimal_of n) ≡ n
decimal-value n h = by_digits (λ m t d. value_from 0 d ≡ value_from m t) one on 19 n [] (omega arith)
  where
    one : (m : ℕ) (t : List ℕ) → m < 10 → value_from 0 ((48 + m) ∷ t) ≡ value_from m t
    one m t h = let e : 0 * 10 + (48 + m - 48) ≡ m = omega arith in ap (λ (k : ℕ). value_from k t) e

    on : (m : ℕ) (t d : List ℕ) → 10 ≤ m → value_from 0 d ≡ value_from (m / 10) ((48 + m % 10) ∷ t) → value_from 0 d ≡ value_from m t
    on m t d h e = let q : m / 10 * 10 + (48 + m % 10 - 48) ≡ m = omega arith in e ∙ ap (λ (k : ℕ). value_from k t) q

pub decimal-digits : (n : ℕ) → n < 18446744073709551616 → all_digits (decimal_of n) ≡ true
decimal-digits n h = by_digits (λ m t d. all_digits t ≡ true → all_digits d ≡ true) one on 19 n [] (omega arith) refl
  where
    one : (m : ℕ) (t : List ℕ) → m < 10 → all_digits t ≡ true → all_digits ((48 + m) ∷ t) ≡ true
    one m t h e = rw (le-leb 48 (48 + m) (omega arith), le-leb (48 + m) 57 (omega arith), e)

    on : (m : ℕ) (t d : List ℕ) → 10 ≤ m → (all_digits ((48 + m % 10) ∷ t) ≡ true → all_digits d ≡ true) → all_digits t ≡ true → all_digits d ≡ true
    on m t d h f e = f (one (m % 10) t (omega arith) e)

-- a leading zero only where the number is 0
pub decimal-first : (n : ℕ) → n < 18446744073709551616 → get_or (decimal_of n) 0 0 ≡ 48 → n ≡ 0
decimal-first n h = by_digits (λ m t d. get_or d 0 0 ≡ 48 → m ≡ 0) one on 19 n [] (omega arith)
  where
    one : (m : ℕ) (t : List ℕ) → m < 10 → 48 + m ≡ 48 → m ≡ 0
    one m t h e = omega arith

    on : (m : ℕ) (t d : List ℕ) → 10 ≤ m → (get_or d 0 0 ≡ 48 → m / 10 ≡ 0) → get_or d 0 0 ≡ 48 → m ≡ 0
    on m t d h f e = let z = f e in omega arith

digits-few : (more n : ℕ) (t : List ℕ) → length (digits_before more n t) ≤ suc more + length t
digits-few zero n t = omega arith
digits-few (suc more) n t = pick (ltb n 10) (digits-few more (n / 10) ((48 + n % 10) ∷ t))
  where
    pick : (b : Bool) → length (digits_before more (n / 10) ((48 + n % 10) ∷ t)) ≤ suc more + suc (length t)
        → length (cond b ((48 + n) ∷ t) (digits_before more (n / 10) ((48 + n % 10) ∷ t))) ≤ suc (suc more) + length t
    pick true h = omega arith
    pick false h = omega arith

pub decimal-few : (n : ℕ) → length (decimal_of n) ≤ 20
decimal-few n = digits-few 19 n []

-- ---- the loop that fills a buffer from its end: what is left of n is m, whose last digit goes to k

pub record Filling (n m k : ℕ) (digits : List ℕ) : Type 0 where
  pub sized : length digits ≡ 20
  pub place : k < 20
  pub below : m < power (suc k)
  pub going : digits_before k m (drop (suc k) digits) ≡ decimal_of n

pub filling-start : {n : ℕ} {digits : List ℕ} → n < 18446744073709551616 → length digits ≡ 20 → Filling n n 19 digits
filling-start {n} {digits} h e = record {
  sized = e;
  place = omega arith;
  below = omega arith;
  going = rw (drop_of_length-le digits {i = 20} (omega arith));
}

-- the digit stored stands before the others
stored : (digits : List ℕ) (k d : ℕ) → k < length digits → drop k (set digits k d) ≡ d ∷ drop (suc k) digits
stored digits k d h =
    let l : k < length (set digits k d) = lt-length-set digits k d h in
    drop-cons (set digits k d) k 0 l ∙ rw (get_or-set_same digits k d 0 h, drop-set-lt (suc k) digits k d (omega arith))

one-digit : (k m : ℕ) (t : List ℕ) → m < 10 → digits_before k m t ≡ (48 + m) ∷ t
one-digit zero m t h = refl
one-digit (suc k) m t h = rw (lt-ltb m 10 h)

-- where more than one digit is left, there is room before k
room : {n m : ℕ} (k : ℕ) {digits : List ℕ} → Filling n m k digits → 9 < m → 0 < k
room {m = m} zero g h = let l : m < 10 = g.below in absurd (omega arith)
room (suc k) g h = omega arith

pub filling-more : {n m k : ℕ} {digits : List ℕ} → Filling n m k digits → 9 < m → 0 < k
filling-more {k = k} g h = room k g h

module _ {n m : ℕ} {digits : List ℕ} {d : ℕ} {digits' : List ℕ} where
  filling-next : (k : ℕ) → Filling n m k digits → 9 < m → d ≡ 48 + m % 10 → digits' ≡ set digits k d → Filling n (m / 10) (k - 1) digits'
  filling-next zero g h e q = let l : m < 10 = g.below in absurd (omega arith)
  filling-next (suc k) g h e q =
      let l : m < power (suc k) * 10 = g.below in
      let p = g.place in
      let s = g.sized in
      let j : suc k < length digits = omega arith in
      let z : suc k - 1 ≡ k = omega arith in
      rw z (record {
        sized = rw q (length-set digits (suc k) d ∙ s);
        place = omega arith;
        below = omega arith;
        going = rw (q, stored digits (suc k) d j, e) (rw (le-ltb m 10 h) at g.going);
      })

  module _ {k : ℕ} (g : Filling n m k digits) (e : d ≡ 48 + m % 10) (q : digits' ≡ set digits k d) where
    pub filling-on : 9 < m → Filling n (m / 10) (k - 1) digits'
    filling-on h = filling-next k g h e q

    pub filling-end : m ≤ 9 → Filled n k digits'
    filling-end h =
        let p = g.place in
        let s = g.sized in
        let j : k < length digits = omega arith in
        let u : d ≡ 48 + m = omega arith in
        record {
          sized = rw q (length-set digits k d ∙ s);
          place = p;
          holds = rw q (stored digits k d j ∙ rw u (sym (one-digit k m (drop (suc k) digits) (omega arith))) ∙ g.going);
        }
