-- Texts of code 2 and values are one to one.
use Rattle.std.specs.Prelude.{ℕ, ◌+◌, ◌*◌, ◌/◌, ◌%◌, ◌<◌, List, [], ◌∷◌, ◌≡◌, refl, ◌⊎◌, Bool, true, false, cond, T, ltb, eqb, length}
use Rattle.std.proofs.Common.{arith, inl, inr, eqb→eq, lt-ltb, ltb-true, ltb-false}
use Rattle.std.proofs.Math.Option.{Option, none, some}
use Rattle.filters.specs.BelowLaws.{at_each}
use Rattle.filters.specs.Octets.{Octets, before}
use Rattle.filters.specs.Hex.{hex_digit, hex_text, half_of, hex_pairs, hex_value}

-- ---- digits and halves, by computation

half-digit : (n : ℕ) → n < 16 → half_of (hex_digit n) ≡ n
half-digit n h = eqb→eq _ _ (at_each (λ k. eqb (half_of (hex_digit k)) k) 16 tt n h)

digit_low : (c : ℕ) → c < 71 → T (cond (ltb (half_of c) 16) (eqb (hex_digit (half_of c)) c) true)
digit_low c h = at_each (λ k. cond (ltb (half_of k) 16) (eqb (hex_digit (half_of k)) k) true) 71 tt c h

digit-half : (c : ℕ) → half_of c < 16 → hex_digit (half_of c) ≡ c
digit-half c h = by (ltb 70 c) refl
  where
    by : (b : Bool) → ltb 70 c ≡ b → hex_digit (half_of c) ≡ c
    by true e = let z : half_of c ≡ 16 = rw e in absurd (omega arith)
    by false e = let t = digit_low c (omega (arith, ltb-false 70 c e)) in eqb→eq _ _ (rw (lt-ltb _ _ h) at t)

-- ---- the two ways round

-- the text of octets stands for them
pairs-there : (v : List ℕ) → Octets v → hex_pairs (hex_text v) ≡ some v
pairs-there [] o = refl
pairs-there (x ∷ v) o =
    let h : x / 16 < 16 = omega (arith, o.0) in
    let l : x % 16 < 16 = omega arith in
    let e : x / 16 * 16 + x % 16 ≡ x = omega arith in
    rw (half-digit (x / 16) h, half-digit (x % 16) l, lt-ltb _ _ h, lt-ltb _ _ l, pairs-there v o.1, e)

-- a text that stands for a value is that value's text, and the value is octets
pairs-back : (t v : List ℕ) → hex_pairs t ≡ some v → (hex_text v ≡ t) × Octets v
pairs-back [] v q = let e : v ≡ [] = cc in (rw e, rw e tt)
pairs-back (a ∷ []) v q = let z : ◌≡◌ {A = ℕ} 0 1 = cc in absurd (omega arith)
pairs-back (a ∷ b ∷ s) v q = one (ltb (half_of a) 16) (ltb (half_of b) 16) (hex_pairs s) refl refl refl q (pairs-back s)
  where
    one : (h l : Bool) (r : Option (List ℕ)) → ltb (half_of a) 16 ≡ h → ltb (half_of b) 16 ≡ l → hex_pairs s ≡ r
        → cond h (cond l (before ((half_of a * 16 + half_of b) ∷ []) r) none) none ≡ some v
        → ((w : List ℕ) → hex_pairs s ≡ some w → (hex_text w ≡ s) × Octets w) → (hex_text v ≡ a ∷ b ∷ s) × Octets v
    one false l r i j k e ih = let z : ◌≡◌ {A = ℕ} 0 1 = cc in absurd (omega arith)
    one true false r i j k e ih = let z : ◌≡◌ {A = ℕ} 0 1 = cc in absurd (omega arith)
    one true true none i j k e ih = let z : ◌≡◌ {A = ℕ} 0 1 = cc in absurd (omega arith)
    one true true (some w) i j k e ih =
        let f : v ≡ (half_of a * 16 + half_of b) ∷ w = cc in
        let m : half_of a < 16 = ltb-true _ _ i in
        let n : half_of b < 16 = ltb-true _ _ j in
        let p : (half_of a * 16 + half_of b) / 16 ≡ half_of a = omega arith in
        let o : (half_of a * 16 + half_of b) % 16 ≡ half_of b = omega arith in
        let y : half_of a * 16 + half_of b < 256 = omega arith in
        (rw (f, p, o, digit-half a m, digit-half b n, (ih w k).0), rw f (y, (ih w k).1))

pub hex-length : (v : List ℕ) → length (hex_text v) ≡ 2 * length v
hex-length [] = refl
hex-length (x ∷ v) = omega (arith, hex-length v)

-- the text of octets stands for them
pub hex-there : (v : List ℕ) → Octets v → hex_value (hex_text v) ≡ some v
hex-there v o = rw (even v) (pairs-there v o)
  where
    even : (v : List ℕ) → eqb (length (hex_text v) % 2) 0 ≡ true
    even v = let z : length (hex_text v) % 2 ≡ 0 = omega (arith, hex-length v) in rw z

-- so does that text without its first character, where that is a zero
pub hex-shorter : (t v : List ℕ) → Octets v → hex_text v ≡ 48 ∷ t → hex_value t ≡ some v
hex-shorter t v o e = rw odd (rw e at (pairs-there v o))
  where
    odd : eqb (length t % 2) 0 ≡ false
    odd = let l = rw e at (hex-length v) in let z : length t % 2 ≡ 1 = omega (arith, l) in rw z

-- and nothing else: a text that stands for a value is that value's text, or that without its first character, a zero; and the value is octets
pub hex-back : (t v : List ℕ) → hex_value t ≡ some v → ((hex_text v ≡ t) ⊎ (hex_text v ≡ 48 ∷ t)) × Octets v
hex-back t v q = by (eqb (length t % 2) 0) q
  where
    by : (b : Bool) → cond b (hex_pairs t) (hex_pairs (48 ∷ t)) ≡ some v → ((hex_text v ≡ t) ⊎ (hex_text v ≡ 48 ∷ t)) × Octets v
    by true e = let k = pairs-back t v e in (inl k.0, k.1)
    by false e = let k = pairs-back (48 ∷ t) v e in (inr k.0, k.1)
