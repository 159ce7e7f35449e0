-- Texts of code 7 and values are one to one.
use Rattle.std.specs.Prelude.{ℕ, zero, suc, ◌+◌, ◌*◌, ◌/◌, ◌%◌, ◌<◌, List, [], ◌∷◌, ◌++◌, ◌≡◌, refl, Bool, true, false, cond, T, ltb, eqb, length}
use Rattle.std.proofs.Common.{arith, sym, ◌∙◌, eqb→eq, lt-ltb, le-ltb, ltb-true, ltb-false, eqb-true}
use Rattle.std.proofs.Math.Option.{Option, none, some, none-ne-some}
use Rattle.std.proofs.Math.Dec.{eqb-suc-zero}
use Rattle.filters.specs.BelowLaws.{at_each}
use Rattle.filters.specs.Octets.{Octets, before}
use Rattle.filters.specs.Six.{six_digit, six_text, bits_of, size_of, first_of, second_of, third_of, group_of, six_value}

-- ---- digits and bits, by computation

bits-digit : (n : ℕ) → n < 64 → bits_of (six_digit n) ≡ n
bits-digit n h = eqb→eq _ _ (at_each (λ k. eqb (bits_of (six_digit k)) k) 64 tt n h)

digit_low : (c : ℕ) → c < 123 → T (cond (ltb (bits_of c) 64) (eqb (six_digit (bits_of c)) c) true)
digit_low c h = at_each (λ k. cond (ltb (bits_of k) 64) (eqb (six_digit (bits_of k)) k) true) 123 tt c h

digit-bits : (c : ℕ) → bits_of c < 64 → six_digit (bits_of c) ≡ c
digit-bits c h = by (ltb 122 c) refl
  where
    by : (b : Bool) → ltb 122 c ≡ b → six_digit (bits_of c) ≡ c
    by true e = let z : bits_of c ≡ 64 = rw e in absurd (omega arith)
    by false e = let t = digit_low c (omega (arith, ltb-false 122 c e)) in eqb→eq _ _ (rw (lt-ltb _ _ h) at t)

pad-low : (c : ℕ) → c < 123 → T (cond (eqb (bits_of c) 65) (eqb c 61) true)
pad-low c h = at_each (λ k. cond (eqb (bits_of k) 65) (eqb k 61) true) 123 tt c h

pub pad-is : (c : ℕ) → bits_of c ≡ 65 → c ≡ 61
pad-is c h = by (ltb 122 c) refl
  where
    by : (b : Bool) → ltb 122 c ≡ b → c ≡ 61
    by true e = let z : bits_of c ≡ 64 = rw e in absurd (omega arith)
    by false e = let t = pad-low c (omega (arith, ltb-false 122 c e)) in eqb→eq _ _ (rw h at t)

-- ---- the text of octets stands for them

pub six-there : (v : List ℕ) → Octets v → six_value (six_text v) ≡ some v
six-there [] o = refl
six-there (x ∷ []) o =
    let a : x / 4 < 64 = omega (arith, o.0) in
    let b : x % 4 * 16 < 64 = omega arith in
    let u : x / 4 * 4 + x % 4 * 16 / 16 ≡ x = omega arith in
    let w : x % 4 * 16 % 16 ≡ 0 = omega arith in
    rw (bits-digit (x / 4) a, bits-digit (x % 4 * 16) b, le-ltb 63 (x / 4) (omega arith), le-ltb 63 (x % 4 * 16) (omega arith), w, u)
six-there (x ∷ y ∷ []) o =
    let a : x / 4 < 64 = omega (arith, o.0) in
    let b : x % 4 * 16 + y / 16 < 64 = omega (arith, o.1.0) in
    let c : y % 16 * 4 < 64 = omega arith in
    let u : x / 4 * 4 + (x % 4 * 16 + y / 16) / 16 ≡ x = omega (arith, o.1.0) in
    let z : (x % 4 * 16 + y / 16) % 16 * 16 + y % 16 * 4 / 4 ≡ y = omega (arith, o.1.0) in
    let w : y % 16 * 4 % 4 ≡ 0 = omega arith in
    rw (
      bits-digit (x / 4) a,
      bits-digit (x % 4 * 16 + y / 16) b,
      bits-digit (y % 16 * 4) c,
      le-ltb 63 (x / 4) (omega arith),
      le-ltb 63 (x % 4 * 16 + y / 16) (omega arith),
      lt-ltb _ _ c,
      w,
      u,
      z,
    )
six-there (x ∷ y ∷ z ∷ v) o =
    let a : x / 4 < 64 = omega (arith, o.0) in
    let b : x % 4 * 16 + y / 16 < 64 = omega (arith, o.1.0) in
    let c : y % 16 * 4 + z / 64 < 64 = omega (arith, o.1.1.0) in
    let d : z % 64 < 64 = omega arith in
    let u : x / 4 * 4 + (x % 4 * 16 + y / 16) / 16 ≡ x = omega (arith, o.1.0) in
    let i : (x % 4 * 16 + y / 16) % 16 * 16 + (y % 16 * 4 + z / 64) / 4 ≡ y = omega (arith, o.1.0, o.1.1.0) in
    let j : (y % 16 * 4 + z / 64) % 4 * 64 + z % 64 ≡ z = omega (arith, o.1.1.0) in
    rw (
      bits-digit (x / 4) a,
      bits-digit (x % 4 * 16 + y / 16) b,
      bits-digit (y % 16 * 4 + z / 64) c,
      bits-digit (z % 64) d,
      le-ltb 63 (x / 4) (omega arith),
      le-ltb 63 (x % 4 * 16 + y / 16) (omega arith),
      lt-ltb _ _ c,
      lt-ltb _ _ d,
      u,
      i,
      j,
      six-there v o.1.1.1,
    )

-- ---- what four characters stand for

cond-by : {A : Type 0} (P : A → Type 0) (b : Bool) {t u : A} → (b ≡ true → P t) → (b ≡ false → P u) → P (cond b t u)
cond-by P true f g = f refl
cond-by P false f g = g refl

pub data Sized (p q r s : ℕ) : ℕ → Type 0 where
  bad : Sized p q r s 0
  three : p < 64 → q < 64 → r < 64 → s < 64 → Sized p q r s 3
  two : p < 64 → q < 64 → r < 64 → s ≡ 65 → r % 4 ≡ 0 → Sized p q r s 2
  one : p < 64 → q < 64 → r ≡ 65 → s ≡ 65 → q % 16 ≡ 0 → Sized p q r s 1

low : (n : ℕ) → ltb 63 n ≡ false → n < 64
low n e = omega (arith, ltb-false 63 n e)

pub sized : (p q r s : ℕ) → Sized p q r s (size_of p q r s)
sized p q r s =
    cond-by (Sized p q r s) (ltb 63 p) (λ _. bad) (λ a. cond-by (Sized p q r s) (ltb 63 q) (λ _. bad) (λ b.
    cond-by (Sized p q r s) (ltb r 64)
    (λ c. cond-by (Sized p q r s) (ltb s 64) (λ d. three (low p a) (low q b) (ltb-true _ _ c) (ltb-true _ _ d))
    (λ _. cond-by (Sized p q r s) (eqb s 65) (λ d. cond-by (Sized p q r s) (eqb (r % 4) 0) (λ e. two (low p a) (low q b) (ltb-true _ _ c) (eqb-true _ _ d) (eqb-true _ _ e)) (λ _. bad)) (λ _. bad)))
    (λ _. cond-by (Sized p q r s) (eqb r 65)
    (λ c. cond-by (Sized p q r s) (eqb s 65) (λ d. cond-by (Sized p q r s) (eqb (q % 16) 0) (λ e. one (low p a) (low q b) (eqb-true _ _ c) (eqb-true _ _ d) (eqb-true _ _ e)) (λ _. bad)) (λ _. bad))
    (λ _. bad))))

-- ---- a text that stands for a value is that value's text, and the value is octets

last_of : (l : Bool) {w v : List ℕ} → cond l (some w) none ≡ some v → (l ≡ true) × (v ≡ w)
last_of true q = (refl, cc)
last_of false q = absurd (none-ne-some _ q)

not_last : (l : Bool) {v : List ℕ} → cond l none none ≡ some v → ⊥
not_last true q = none-ne-some _ q
not_last false q = none-ne-some _ q

nil-of : (s : List ℕ) → eqb (length s) 0 ≡ true → s ≡ []
nil-of [] e = refl
nil-of (x ∷ s) e = let z : false ≡ true = sym (eqb-suc-zero (length s)) ∙ e in absurd (tf z)
  where
    tf : false ≡ true → ⊥
    tf z = let y : ◌≡◌ {A = ℕ} 0 1 = cc in omega arith

more_of : (p : List ℕ) (r : Option (List ℕ)) {v : List ℕ} → before p r ≡ some v → (w : List ℕ) × (r ≡ some w) × (v ≡ p ++ w)
more_of p none q = absurd (none-ne-some _ q)
more_of p (some w) q = (w, refl, cc)

module _ (a b c d : ℕ) (t v : List ℕ) where
  back : (k : ℕ) → Sized (bits_of a) (bits_of b) (bits_of c) (bits_of d) k
      → group_of k (eqb (length t) 0) (bits_of a) (bits_of b) (bits_of c) (bits_of d) (six_value t) ≡ some v
      → ((w : List ℕ) → six_value t ≡ some w → (six_text w ≡ t) × Octets w) → (six_text v ≡ a ∷ b ∷ c ∷ d ∷ t) × Octets v
  back zero bad q ih = absurd (not_last (eqb (length t) 0) q)
  back (suc (suc (suc zero))) (three e f g h) q ih =
      let m = more_of (first_of (bits_of a) (bits_of b) ∷ second_of (bits_of b) (bits_of c) ∷ third_of (bits_of c) (bits_of d) ∷ []) (six_value t) q in
      let i : (bits_of a * 4 + bits_of b / 16) / 4 ≡ bits_of a = omega arith in
      let j : (bits_of a * 4 + bits_of b / 16) % 4 * 16 + (bits_of b % 16 * 16 + bits_of c / 4) / 16 ≡ bits_of b = omega arith in
      let k : (bits_of b % 16 * 16 + bits_of c / 4) % 16 * 4 + (bits_of c % 4 * 64 + bits_of d) / 64 ≡ bits_of c = omega arith in
      let l : (bits_of c % 4 * 64 + bits_of d) % 64 ≡ bits_of d = omega arith in
      let x : bits_of a * 4 + bits_of b / 16 < 256 = omega arith in
      let y : bits_of b % 16 * 16 + bits_of c / 4 < 256 = omega arith in
      let z : bits_of c % 4 * 64 + bits_of d < 256 = omega arith in
      (rw (m.2, i, j, k, l, digit-bits a e, digit-bits b f, digit-bits c g, digit-bits d h, (ih m.0 m.1).0), rw m.2 (x, (y, (z, (ih m.0 m.1).1))))
  back (suc (suc zero)) (two e f g h n) q ih =
      let m : (eqb (length t) 0 ≡ true) × (v ≡ (bits_of a * 4 + bits_of b / 16) ∷ (bits_of b % 16 * 16 + bits_of c / 4) ∷ []) = last_of (eqb (length t) 0) q in
      let i : (bits_of a * 4 + bits_of b / 16) / 4 ≡ bits_of a = omega arith in
      let j : (bits_of a * 4 + bits_of b / 16) % 4 * 16 + (bits_of b % 16 * 16 + bits_of c / 4) / 16 ≡ bits_of b = omega arith in
      let k : (bits_of b % 16 * 16 + bits_of c / 4) % 16 * 4 ≡ bits_of c = omega arith in
      let x : bits_of a * 4 + bits_of b / 16 < 256 = omega arith in
      let y : bits_of b % 16 * 16 + bits_of c / 4 < 256 = omega arith in
      (rw (m.1, i, j, k, digit-bits a e, digit-bits b f, digit-bits c g, nil-of t m.0, pad-is d h), rw m.1 (x, (y, tt)))
  back (suc zero) (one e f g h n) q ih =
      let m : (eqb (length t) 0 ≡ true) × (v ≡ (bits_of a * 4 + bits_of b / 16) ∷ []) = last_of (eqb (length t) 0) q in
      let i : (bits_of a * 4 + bits_of b / 16) / 4 ≡ bits_of a = omega arith in
      let j : (bits_of a * 4 + bits_of b / 16) % 4 * 16 ≡ bits_of b = omega arith in
      let x : bits_of a * 4 + bits_of b / 16 < 256 = omega arith in
      (rw (m.1, i, j, digit-bits a e, digit-bits b f, nil-of t m.0, pad-is c g, pad-is d h), rw m.1 (x, tt))
  back (suc (suc (suc (suc _)))) none_so_many q ih = elim none_so_many [ ]

pub six-back : (t v : List ℕ) → six_value t ≡ some v → (six_text v ≡ t) × Octets v
six-back [] v q = let e : v ≡ [] = cc in (rw e, rw e tt)
six-back (a ∷ []) v q = absurd (none-ne-some _ q)
six-back (a ∷ b ∷ []) v q = absurd (none-ne-some _ q)
six-back (a ∷ b ∷ c ∷ []) v q = absurd (none-ne-some _ q)
six-back (a ∷ b ∷ c ∷ d ∷ t) v q = back a b c d t v _ (sized (bits_of a) (bits_of b) (bits_of c) (bits_of d)) q (six-back t)

pub six-length : (v : List ℕ) → length (six_text v) ≡ 4 * ((length v + 2) / 3)
six-length [] = refl
six-length (x ∷ []) = refl
six-length (x ∷ y ∷ []) = refl
six-length (x ∷ y ∷ z ∷ v) = omega (arith, six-length v)
