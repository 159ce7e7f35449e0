-- Single precision on whole numbers up to the limit: a float is such a number or not, and an addition rounds the exact sum once.
use Rattle.std.specs.Prelude.{◌≡◌, ℕ, zero, suc, ◌+◌, ◌-◌, ◌*◌, ◌/◌, ◌%◌, ◌^◌, ◌<◌, ◌≤◌, min, Bool, true, false, cond, ◌&&◌, T, ltb, ℤ, pos, negsuc, nat_eq, nat_le, nat_lt, refl, Float}
use Rattle.std.proofs.Common.{sym, ap, ◌∙◌, subst, le_trans, le_of_eq, lt_of_lt_of_le, lt_of_not-le, not-le_of_lt, mul-one, one-mul, mul_comm, mul_assoc, mul_left_comm, mul_right_comm, mul-le-mul_right, mul-le-mul_left, mul-lt-mul_of_pos_right, mul-pos, le-div_iff_mul-le, div-lt_iff_lt-mul, add-mul, mul-div_cancel, arith, ltb→lt, pow-add, pow_pos, pow_mono, shl_lt, lt-ltb, le-ltb, ltb-true, ltb-false}
use Rattle.std.proofs.Math.Nat.{eq_of_mul-eq-mul_right, min-eq_left}
use Rattle.std.specs.Float.{nan, inf, fin, Format, binary32}
use Rattle.std.specs.Float.Ieee.{emax, low, up, down, size, round, sum, add, to_unsigned, of_int, fits}
use Rattle.std.specs.Float.Ieee.Back.{round_whole, whole_unique}
use Rattle.std.specs.Float.Ieee.Digits.{size-lt, size-le, size_reaches}
use Rattle.std.specs.Float.Ieee.Exact.{HasValue, round_exact}
use Rattle.std.specs.Float.Ieee.Fits.{down_pos, of_int-fits, round-fits, and_l, and_r}
use Rattle.std.specs.Float.Ieee.Nearest.{closest, closest_same}
use Rattle.std.specs.Float.Ieee.Order.{drop, kept}
use Rattle.std.specs.Float.Ieee.Scale.{grid, overflow, round_val, round_same}
use Rattle.kilograms.specs.OldSum.{limit, step_at, times_nearest, rounded, single}
use Rattle.kilograms.specs.RoundingLaws.{times-closest, times-near, rounded-within}

-- the float x is the whole number n, and not minus zero
abbrev pub Whole : Float → ℕ → Type 0
Whole x n = HasValue x false n 1

-- ---- a whole number of more than 24 digits, in units of the smallest value

size-gt : (n j : ℕ) → 2 ^ j ≤ n → j < size n
size-gt n j h = lt_of_not-le (λ (g : size n ≤ j). not-le_of_lt (lt_of_lt_of_le (size-lt n) (pow_mono g)) h)

pred_lt : (z : ℕ) → 0 < z → z - 1 < z
pred_lt z h = omega arith

join : (z t x : ℕ) → 0 < z → x ≤ z + t → z - 1 + t < x → x ≡ z + t
join z t x Z a b = omega arith

size_scale : (n c t : ℕ) → 0 < c → 0 < size (n / c) → size (n * 2 ^ t / c) ≡ size (n / c) + t
size_scale n c t C Z =
    let z = size (n / c) in
    let lo : 2 ^ (z - 1) * c ≤ n = (le-div_iff_mul-le C).0 (size_reaches (n / c) (z - 1) (pred_lt z Z)) in
    let hi : n < 2 ^ z * c = (div-lt_iff_lt-mul C).0 (size-lt (n / c)) in
    let lo' : 2 ^ (z - 1 + t) * c ≤ n * 2 ^ t = le_trans (le_of_eq (ap (λ (x : ℕ). x * c) (pow-add 2 (z - 1) t) ∙ mul_right_comm (2 ^ (z - 1)) (2 ^ t) c)) (mul-le-mul_right (2 ^ t) lo) in
    let hi' : n * 2 ^ t < 2 ^ (z + t) * c = lt_of_lt_of_le (mul-lt-mul_of_pos_right hi (pow_pos t)) (le_of_eq (mul_right_comm (2 ^ z) c (2 ^ t) ∙ ap (λ (x : ℕ). x * c) (sym (pow-add 2 z t)))) in
    join z t (size (n * 2 ^ t / c)) Z (size-le (n * 2 ^ t / c) (z + t) ((div-lt_iff_lt-mul C).1 hi')) (size-gt (n * 2 ^ t / c) (z - 1 + t) ((le-div_iff_mul-le C).1 lo'))

more : (z p t x : ℕ) → p ≤ z → x ≡ z + t → x - p ≡ z - p + t
more z p t x h e = omega arith

drop_scale : (p n c t : ℕ) → 0 < p → 0 < c → p ≤ size (n / c) → drop p (n * 2 ^ t) c ≡ drop p n c + t
drop_scale p n c t P C N = more (size (n / c)) p t (size (n * 2 ^ t / c)) N (size_scale n c t C (lt_of_lt_of_le P N))

kept_scale : (p n c t : ℕ) → 0 < p → 0 < c → p ≤ size (n / c) → kept p (n * 2 ^ t) c ≡ kept p n c
kept_scale p n c t P C N =
    let k = drop p n c in
    ap (λ (z : ℕ). closest (n * 2 ^ t) (c * 2 ^ z)) (drop_scale p n c t P C N)
    ∙ closest_same (n * 2 ^ t) (c * 2 ^ (k + t)) n (c * 2 ^ k) (mul-pos C (pow_pos (k + t))) (mul-pos C (pow_pos k)) (simp (mul_assoc, mul_comm, mul_left_comm, pow-add))

-- a value in units is a whole number
whole-value : (x : Float) (w l : ℕ) → 0 < l → HasValue x false (w * l) l → HasValue x false w 1
whole-value nan w l p h = h
whole-value (inf s) w l p h = h
whole-value (fin s m e) w l p h = (h.0, mul-one (m * up e) ∙ eq_of_mul-eq-mul_right l p (m * up e) (w * down e) (h.1 ∙ mul_right_comm w l (down e)))

-- ---- the step is that of the digits that are dropped

drop-is : (t j : ℕ) → 2 ^ (23 + j) ≤ t → t < 2 ^ (24 + j) → drop 24 t 1 ≡ j
drop-is t j a b =
    let d : t / 1 ≡ t = omega arith in
    let h : 23 + j < size (t / 1) = size-gt (t / 1) (23 + j) (subst (λ (x : ℕ). 2 ^ (23 + j) ≤ x) (sym d) a) in
    let l : size (t / 1) ≤ 24 + j = size-le (t / 1) (24 + j) (subst (λ (x : ℕ). x < 2 ^ (24 + j)) (sym d) b) in
    omega (arith, h, l)

module _ (t : ℕ) (least : 16777216 ≤ t) (most : t < 1073741824) where
  -- each step in its turn
  step_is : step_at t ≡ 2 ^ drop 24 t 1
  step_is = ap (λ (b : Bool). cond b 1 (cond (nat_lt t 33554432) 2 (cond (nat_lt t 67108864) 4 (cond (nat_lt t 134217728) 8 (cond (nat_lt t 268435456) 16 (cond (nat_lt t 536870912) 32 64)))))) (le-ltb t 16777216 least)
      ∙ two (nat_lt t 33554432) refl
    where
      power : (j : ℕ) → 2 ^ (23 + j) ≤ t → t < 2 ^ (24 + j) → 2 ^ j ≡ 2 ^ drop 24 t 1
      power j a b = ap (λ (k : ℕ). 2 ^ k) (sym (drop-is t j a b))

      sixty_four : 536870912 ≤ t → 64 ≡ 2 ^ drop 24 t 1
      sixty_four a = power 6 a most

      thirty_two : 268435456 ≤ t → (b : Bool) → nat_lt t 536870912 ≡ b → cond b 32 64 ≡ 2 ^ drop 24 t 1
      thirty_two a true e = power 5 a (ltb-true t 536870912 e)
      thirty_two a false e = sixty_four (ltb-false t 536870912 e)

      sixteen : 134217728 ≤ t → (b : Bool) → nat_lt t 268435456 ≡ b → cond b 16 (cond (nat_lt t 536870912) 32 64) ≡ 2 ^ drop 24 t 1
      sixteen a true e = power 4 a (ltb-true t 268435456 e)
      sixteen a false e = thirty_two (ltb-false t 268435456 e) (nat_lt t 536870912) refl

      eight : 67108864 ≤ t → (b : Bool) → nat_lt t 134217728 ≡ b → cond b 8 (cond (nat_lt t 268435456) 16 (cond (nat_lt t 536870912) 32 64)) ≡ 2 ^ drop 24 t 1
      eight a true e = power 3 a (ltb-true t 134217728 e)
      eight a false e = sixteen (ltb-false t 134217728 e) (nat_lt t 268435456) refl

      four : 33554432 ≤ t → (b : Bool) → nat_lt t 67108864 ≡ b
          → cond b 4 (cond (nat_lt t 134217728) 8 (cond (nat_lt t 268435456) 16 (cond (nat_lt t 536870912) 32 64))) ≡ 2 ^ drop 24 t 1
      four a true e = power 2 a (ltb-true t 67108864 e)
      four a false e = eight (ltb-false t 67108864 e) (nat_lt t 134217728) refl

      two : (b : Bool) → nat_lt t 33554432 ≡ b
          → cond b 2 (cond (nat_lt t 67108864) 4 (cond (nat_lt t 134217728) 8 (cond (nat_lt t 268435456) 16 (cond (nat_lt t 536870912) 32 64)))) ≡ 2 ^ drop 24 t 1
      two true e = power 1 least (ltb-true t 33554432 e)
      two false e = four (ltb-false t 33554432 e) (nat_lt t 67108864) refl

  -- rounded as the kit rounds
  as-rounded : kept 24 t 1 * 2 ^ drop 24 t 1 ≡ rounded t
  as-rounded =
      ap (λ (u : ℕ). closest t (1 * u) * u) (sym step_is) ∙ ap (λ (u : ℕ). closest t u * step_at t) (one-mul (step_at t))
      ∙ ap (λ (n : ℕ). n * step_at t) (sym (times-closest (step_at t) t))

  digits : 24 ≤ size (t / 1)
  digits =
      let d : t / 1 ≡ t = omega arith in
      let h : 24 < size (t / 1) = size-gt (t / 1) 24 (subst (λ (x : ℕ). 16777216 ≤ x) (sym d) least) in
      omega (arith, h)

  in-units : grid binary32 t 1 ≡ rounded t * 2 ^ 149
  in-units =
      ap (λ (x : ℕ). x * 2 ^ drop 24 (t * 2 ^ 149) 1) (kept_scale 24 t 1 149 (omega arith) (omega arith) digits)
      ∙ ap (λ (x : ℕ). kept 24 t 1 * 2 ^ x) (drop_scale 24 t 1 149 (omega arith) (omega arith) digits)
      ∙ ap (λ (x : ℕ). kept 24 t 1 * x) (pow-add 2 (drop 24 t 1) 149)
      ∙ sym (mul_assoc (kept 24 t 1) (2 ^ drop 24 t 1) (2 ^ 149)) ∙ ap (λ (x : ℕ). x * 2 ^ 149) as-rounded

  fitting : grid binary32 t 1 < overflow binary32
  fitting =
      let h : rounded t ≤ limit = rounded-within t (omega (arith, most)) in
      subst (λ (x : ℕ). x < overflow binary32) (sym in-units) (lt_of_lt_of_le (shl_lt 31 149 (omega (arith, h))) (pow_mono {i = 180} {j = 277} (omega arith)))

  large : Whole (round binary32 false t 1) (rounded t)
  large =
      whole-value (round binary32 false t 1) (rounded t) (2 ^ 149) (pow_pos 149)
      (subst (λ (x : ℕ). HasValue (round binary32 false t 1) false x (2 ^ 149)) in-units (round_val binary32 t 1 fitting))

-- ---- up to 24 digits nothing is lost

small_same : (t : ℕ) → t < 16777216 → rounded t ≡ t
small_same t h =
    let e : step_at t ≡ 1 = ap (λ (b : Bool). cond b 1 (cond (nat_lt t 33554432) 2 (cond (nat_lt t 67108864) 4 (cond (nat_lt t 134217728) 8 (cond (nat_lt t 268435456) 16 (cond (nat_lt t 536870912) 32 64)))))) (lt-ltb t 16777216 h) in
    let n = times-near 1 t (omega arith) in
    let a = n.0 in
    let b = n.1 in
    let q : times_nearest 1 t * 1 ≡ t = omega (arith, a, b) in
    ap (λ (u : ℕ). times_nearest u t * u) e ∙ q

top : Whole (round binary32 false 1073741824 1) 1073741824
unfolding round
top = (refl, refl)

rounds : (t : ℕ) → t ≤ limit → Whole (round binary32 false t 1) (rounded t)
rounds t h = go (nat_lt t 16777216) refl (nat_lt t 1073741824) refl
  where
    go : (b : Bool) → nat_lt t 16777216 ≡ b → (c : Bool) → nat_lt t 1073741824 ≡ c → Whole (round binary32 false t 1) (rounded t)
    go true e c i =
        let l = ltb-true t 16777216 e in
        subst (λ (v : ℕ). Whole (round binary32 false t 1) v) (sym (small_same t l)) (round_whole binary32 false t (omega (arith, l)))
    go false e true i = large t (ltb-false t 16777216 e) (ltb-true t 1073741824 i)
    go false e false i =
        let m = ltb-false t 1073741824 i in
        let s : 1073741824 ≡ t = omega (arith, m, h) in
        subst (λ (x : ℕ). Whole (round binary32 false x 1) (rounded x)) s top

-- single precision has for t what it is rounded to
pub single-rounds : (t : ℕ) → t ≤ limit → Whole (single t) (rounded t)
unfolding of_int
single-rounds t h = rounds t h

-- ---- cut toward zero, a whole number is itself; so a float is one whole number only

pub cut : (x : Float) (v : ℕ) → Whole x v → v < 18446744073709551616 → to_unsigned 64 x ≡ v
unfolding to_unsigned
cut nan v h l = absurd h
cut (inf s) v h l = absurd h
cut (fin true m e) v h l = absurd (let z : ◌≡◌ {A = ℕ} 0 1 = cc h.0 in omega arith)
cut (fin false m e) v h l =
    let u : m * up e ≡ v * down e = sym (mul-one (m * up e)) ∙ h.1 in
    ap (λ (x : ℕ). min (x / down e) (2 ^ 64 - 1)) u ∙ ap (λ (x : ℕ). min x (2 ^ 64 - 1)) (mul-div_cancel v (down_pos e)) ∙ min-eq_left (omega arith)

pub whole-one : (x : Float) (v w : ℕ) → Whole x v → Whole x w → v ≤ limit → w ≤ limit → v ≡ w
whole-one x v w a b h l = sym (cut x v a (omega (arith, h))) ∙ cut x w b (omega (arith, l))

-- ---- which single it is

digits_of : (m : ℕ) (e : ℤ) → T (fits binary32 (fin false m e)) → m < 16777216
unfolding fits
digits_of zero e t = omega arith
digits_of (suc m) e t =
    let a = nat_eq (suc m % 2) 1 in
    let b = ltb (suc m) (2 ^ 24) in
    let c = nat_le (down e) (2 ^ low binary32) in
    let d = ltb (suc m * up e) (2 ^ suc (emax binary32) * down e) in
    ltb→lt (suc m) 16777216 (and_r a b (and_l (a && b) c (and_l (a && b && c) d t)))

exactly : (m : ℕ) (e : ℤ) (n : ℕ) → m < 16777216 → n ≤ limit → m * up e * 1 ≡ n * down e → Whole (round binary32 false n 1) n
exactly m (pos k) n l h v =
    let u : m * 2 ^ k ≡ n = sym (mul-one (m * 2 ^ k)) ∙ v ∙ mul-one n in
    let w : n * 2 ^ 149 ≡ m * 2 ^ (k + 149) = ap (λ (x : ℕ). x * 2 ^ 149) (sym u) ∙ mul_assoc m (2 ^ k) (2 ^ 149) ∙ ap (λ (x : ℕ). m * x) (sym (pow-add 2 k 149)) in
    round_exact binary32 false n 1 m (k + 149) (omega arith) l
    (subst (λ (x : ℕ). x < 2 ^ 277) w (lt_of_lt_of_le (shl_lt 31 149 (omega arith)) (pow_mono {i = 180} {j = 277} (omega arith))))
    (w ∙ sym (mul-one (m * 2 ^ (k + 149))))
exactly m (negsuc k) n l h v =
    let p : 1 ≤ 2 ^ suc k = pow_pos (suc k) in
    let q : n * 1 ≤ n * 2 ^ suc k = mul-le-mul_left n p in
    let u : m * 1 * 1 ≡ n * 2 ^ suc k = v in
    round_whole binary32 false n (omega arith)

-- a float that is the whole number n is the single of n
pub whole_back : (x : Float) (n : ℕ) → T (fits binary32 x) → Whole x n → n ≤ limit → single n ≡ x
unfolding of_int
whole_back nan n t h l = absurd h
whole_back (inf s) n t h l = absurd h
whole_back (fin true m e) n t h l = absurd (let z : ◌≡◌ {A = ℕ} 0 1 = cc h.0 in omega arith)
whole_back (fin false m e) n t h l =
    whole_unique binary32 (round binary32 false n 1) (fin false m e) false n (round-fits binary32 false n 1) t (exactly m e n (digits_of m e t) l h.1) h

-- single precision has the same for t and for what t is rounded to
pub single-same : (t : ℕ) → t ≤ limit → single (rounded t) ≡ single t
single-same t h = whole_back (single t) (rounded t) (of_int-fits binary32 (pos t)) (single-rounds t h) (rounded-within t h)

-- ---- one addition

-- the sum of two whole numbers is their exact sum, rounded once
add-whole : (f : Format) (x y : Float) (a b : ℕ) → Whole x a → Whole y b → add f x y ≡ round f false (a + b) 1
unfolding add sum
add-whole f nan y a b p q = absurd p
add-whole f (inf s) y a b p q = absurd p
add-whole f (fin s m e) nan a b p q = absurd q
add-whole f (fin s m e) (inf t) a b p q = absurd q
add-whole f (fin true m e) (fin t n d) a b p q = absurd (let z : ◌≡◌ {A = ℕ} 0 1 = cc p.0 in omega arith)
add-whole f (fin false m e) (fin true n d) a b p q = absurd (let z : ◌≡◌ {A = ℕ} 0 1 = cc q.0 in omega arith)
add-whole f (fin false m e) (fin false n d) a b p q =
    let u : m * up e ≡ a * down e = sym (mul-one (m * up e)) ∙ p.1 in
    let v : n * up d ≡ b * down d = sym (mul-one (n * up d)) ∙ q.1 in
    let c : m * up e * down d + n * up d * down e ≡ (a + b) * (down e * down d) =
    ap (λ (x : ℕ). x * down d + n * up d * down e) u ∙ ap (λ (x : ℕ). a * down e * down d + x * down e) v
    ∙ ap (λ (x : ℕ). x + b * down d * down e) (mul_assoc a (down e) (down d))
    ∙ ap (λ (x : ℕ). a * (down e * down d) + x) (mul_right_comm b (down d) (down e) ∙ mul_assoc b (down e) (down d))
    ∙ sym (add-mul a b (down e * down d)) in
    round_same f false (m * up e * down d + n * up d * down e) (down e * down d) (a + b) 1 (mul-pos (down_pos e) (down_pos d)) (omega arith)
    (mul-one (m * up e * down d + n * up d * down e) ∙ c)

load-whole : (n : ℕ) → n ≤ 16777216 → Whole (single n) n
unfolding of_int
load-whole n h = round_whole binary32 false n h

single-is : (t : ℕ) → round binary32 false t 1 ≡ single t
unfolding of_int
single-is t = refl

pub plus-rounds : (x r : Float) (n : ℕ) → n ≤ 100000 → r ≡ add binary32 x (single n) → (v : ℕ) → Whole x v → v + n ≤ limit → r ≡ single (rounded (v + n))
plus-rounds x r n h e v w l =
    e ∙ add-whole binary32 x (single n) v n w (load-whole n (omega (arith, h))) ∙ single-is (v + n) ∙ sym (single-same (v + n) l)
