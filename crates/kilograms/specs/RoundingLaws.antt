-- One rounding, over whole numbers: at most 32 away, and within the limit again.
use Rattle.std.specs.Prelude.{◌≡◌, ℕ, zero, suc, ◌+◌, ◌*◌, ◌/◌, ◌%◌, ◌<◌, ◌≤◌, Bool, true, false, cond, not, T, ◌==◌, nat_lt, refl}
use Rattle.std.proofs.Common.{sym, ap, ◌∙◌, subst, one-mul, mul-le-mul_right, add-mul, div-add-mod', mod-lt, zero-lt-suc, arith, leb→le, eqb→eq, lt-ltb, le-ltb, ltb-true, ltb-false}
use Prim.Native.Nat.{compare, Ordering}
use Rattle.std.proofs.Math.Dec.{is_le, compare_is_eq, nleb→lt, eqb_refl}
use Rattle.std.proofs.Math.Arith.{lt_of_le-ne}
use Rattle.std.specs.Float.Ieee.{nearest}
use Rattle.std.specs.Float.Ieee.Nearest.{closest}
use Rattle.kilograms.specs.OldSum.{limit, step_at, times_nearest, rounded}

-- r is at most 32 from t
pub record Near (t r : ℕ) : Type 0 where
  pub above : r ≤ t + 32
  pub below : t ≤ r + 32

-- ---- the nearest multiple is at most half a step away

abbrev Compared : Ordering → ℕ → ℕ → Type 0
Compared Ordering.lt a b = a < b
Compared Ordering.eq a b = a ≡ b
Compared Ordering.gt a b = b < a

compares : (a b : ℕ) → Compared (compare a b) a b
compares a b = go (compare a b) (leb→le a b) (nleb→lt a b) (eqb→eq a b) (λ (e : a ≡ b). subst (λ (x : ℕ). T (a == x)) e (eqb_refl a))
  where
    go : (o : Ordering) → (T (is_le o) → a ≤ b) → (T (not (is_le o)) → b < a) → (T (compare_is_eq o) → a ≡ b) → (a ≡ b → T (compare_is_eq o)) → Compared o a b
    go Ordering.lt h k e n = lt_of_le-ne (h tt) n
    go Ordering.eq h k e n = e tt
    go Ordering.gt h k e n = k tt

-- q or q + 1 times u
half : (q r u : ℕ) (o : Ordering) → Compared o (r * 2) u → r < u → (nearest q o * u * 2 ≤ (q * u + r) * 2 + u) × ((q * u + r) * 2 ≤ nearest q o * u * 2 + u)
half q r u Ordering.lt c h = let p : r * 2 < u = c in (omega arith, omega arith)
half q r u Ordering.gt c h =
    let p : u < r * 2 = c in
    let e : suc q * u ≡ q * u + u = omega arith in
    (omega arith, omega arith)
half q r u Ordering.eq c h = go (q % 2) (mod-lt q (zero-lt-suc 1))
  where
    go : (k : ℕ) → k < 2 → ((q + k) * u * 2 ≤ (q * u + r) * 2 + u) × ((q * u + r) * 2 ≤ (q + k) * u * 2 + u)
    go zero l = let p : r * 2 ≡ u = c in (omega arith, omega arith)
    go (suc zero) l =
        let p : r * 2 ≡ u = c in
        let e : (q + 1) * u ≡ q * u + u = add-mul q 1 u ∙ ap (λ (x : ℕ). q * u + x) (one-mul u) in
        (omega arith, omega arith)
    go (suc (suc k)) l = absurd (omega arith)

closest-near : (t u : ℕ) → 0 < u → (closest t u * u * 2 ≤ t * 2 + u) × (t * 2 ≤ closest t u * u * 2 + u)
closest-near t u h =
    let g = half (t / u) (t % u) u (compare (t % u * 2) u) (compares (t % u * 2) u) (mod-lt t h) in
    subst (λ (x : ℕ). (closest t u * u * 2 ≤ x * 2 + u) × (x * 2 ≤ closest t u * u * 2 + u)) (div-add-mod' t u) g

-- as the kit chooses it
pub times-closest : (u t : ℕ) → times_nearest u t ≡ closest t u
times-closest u t = go (compare (t % u * 2) u) (compares (t % u * 2) u)
  where
    go : (o : Ordering) → Compared o (t % u * 2) u
        → cond (nat_lt (t % u * 2) u) (t / u) (cond (nat_lt u (t % u * 2)) (suc (t / u)) (t / u + t / u % 2)) ≡ nearest (t / u) o
    go Ordering.lt c = rw (lt-ltb (t % u * 2) u c)
    go Ordering.eq c = let a : u ≤ t % u * 2 = omega (arith, c) in let b : t % u * 2 ≤ u = omega (arith, c) in rw (le-ltb (t % u * 2) u a, le-ltb u (t % u * 2) b)
    go Ordering.gt c = let a : u ≤ t % u * 2 = omega (arith, c) in rw (le-ltb (t % u * 2) u a, lt-ltb u (t % u * 2) c)

pub times-near : (u t : ℕ) → 0 < u → (times_nearest u t * u * 2 ≤ t * 2 + u) × (t * 2 ≤ times_nearest u t * u * 2 + u)
times-near u t h = subst (λ (n : ℕ). (n * u * 2 ≤ t * 2 + u) × (t * 2 ≤ n * u * 2 + u)) (sym (times-closest u t)) (closest-near t u h)

-- ---- the steps

-- what holds for each step
pub every-step : (P : ℕ → Type 0) → P 1 → P 2 → P 4 → P 8 → P 16 → P 32 → P 64 → (t : ℕ) → P (step_at t)
every-step P a b c d e f g t =
    pick (nat_lt t 16777216) a (pick (nat_lt t 33554432) b (pick (nat_lt t 67108864) c (pick (nat_lt t 134217728) d (pick (nat_lt t 268435456) e (pick (nat_lt t 536870912) f g)))))
  where
    pick : (b : Bool) {x y : ℕ} → P x → P y → P (cond b x y)
    pick true p q = p
    pick false p q = q

pub step-pos : (t : ℕ) → 0 < step_at t
step-pos = every-step (λ (u : ℕ). 0 < u) (omega arith) (omega arith) (omega arith) (omega arith) (omega arith) (omega arith) (omega arith)

step-most : (t : ℕ) → step_at t ≤ 64
step-most = every-step (λ (u : ℕ). u ≤ 64) (omega arith) (omega arith) (omega arith) (omega arith) (omega arith) (omega arith) (omega arith)

-- the limit is a value of single precision, whichever the step
limit-held : (t : ℕ) → (k : ℕ) × (k * step_at t ≡ limit)
limit-held =
    every-step (λ (u : ℕ). (k : ℕ) × (k * u ≡ limit)) (1073741824, refl) (536870912, refl) (268435456, refl) (134217728, refl) (67108864, refl) (33554432, refl) (16777216, refl)

-- ---- so much for one rounding

pub rounded-near : (t : ℕ) → Near t (rounded t)
rounded-near t =
    let n = times-near (step_at t) t (step-pos t) in
    let a = n.0 in
    let b = n.1 in
    let m = step-most t in
    record { above = omega (arith, a, b, m); below = omega (arith, a, b, m) }

pub rounded-within : (t : ℕ) → t ≤ limit → rounded t ≤ limit
rounded-within t h =
    let k = (limit-held t).0 in
    let e = (limit-held t).1 in
    let w = times_nearest (step_at t) t in
    let n = (times-near (step_at t) t (step-pos t)).0 in
    let p = step-pos t in
    by k w e n p (nat_lt k w) refl
  where
    by : (k w : ℕ) → k * step_at t ≡ limit → w * step_at t * 2 ≤ t * 2 + step_at t → 0 < step_at t → (b : Bool) → nat_lt k w ≡ b → w * step_at t ≤ limit
    by k w e n p true q =
        let m : suc k * step_at t ≤ w * step_at t = mul-le-mul_right (step_at t) (ltb-true k w q) in
        let s : suc k * step_at t ≡ k * step_at t + step_at t = omega arith in
        absurd (omega (arith, m, s, e, n, p, h))
    by k w e n p false q = let m : w * step_at t ≤ k * step_at t = mul-le-mul_right (step_at t) (ltb-false k w q) in omega (arith, m, e)
