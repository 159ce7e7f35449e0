-- Why the year was 390 tonnes off: from 268,435,456 kg on a load of 30,000 kg is booked 16 kg heavy.
use Rattle.std.specs.Prelude.{◌≡◌, ℕ, zero, suc, ◌+◌, ◌*◌, ◌/◌, ◌%◌, ◌<◌, ◌≤◌, Bool, true, false, cond, List, ◌∷◌, ◌++◌, nat_lt, refl}
use native.Mathlib.Omega.{arith}
use Rattle.std.proofs.Common.{mul-div_cancel, sym, ◌∙◌, subst, lt-ltb, le-ltb, ltb-true, ltb-false}
use Rattle.std.proofs.Math.Nat.{mul-mod_left}
use Rattle.std.proofs.Math.Path.{ap}
use Rattle.std.proofs.Math.Option.{Option, some}
use Rattle.kilograms.specs.OldSum.{Old, tally, refused, limit, step_at, times_nearest, rounded, added, added_all}
use Rattle.kilograms.specs.BoundLaws.{added-parts}
use Rattle.kilograms.specs.Bounds.{batch_of}

-- ---- the nearest multiple, by the rest

times-up : (u t : ℕ) → u < t % u * 2 → times_nearest u t ≡ suc (t / u)
times-up u t h = let l : u ≤ t % u * 2 = omega (arith, h) in rw (le-ltb (t % u * 2) u l, lt-ltb u (t % u * 2) h)

times_down : (u t : ℕ) → t % u * 2 < u → times_nearest u t ≡ t / u
times_down u t h = rw (lt-ltb (t % u * 2) u h)

times-tie : (u t : ℕ) → t % u * 2 ≡ u → times_nearest u t ≡ t / u + t / u % 2
times-tie u t h =
    let a : u ≤ t % u * 2 = omega (arith, h) in
    let b : t % u * 2 ≤ u = omega (arith, h) in
    rw (le-ltb (t % u * 2) u a, le-ltb u (t % u * 2) b)

-- ---- the steps of 32 and of 64

above_step : (t : ℕ) → 268435456 ≤ t → step_at t ≡ cond (nat_lt t 536870912) 32 64
above_step t h =
    let a : 16777216 ≤ t = omega (arith, h) in
    let b : 33554432 ≤ t = omega (arith, h) in
    let c : 67108864 ≤ t = omega (arith, h) in
    let d : 134217728 ≤ t = omega (arith, h) in
    rw (le-ltb t 16777216 a, le-ltb t 33554432 b, le-ltb t 67108864 c, le-ltb t 134217728 d, le-ltb t 268435456 h)

module _ (t : ℕ) (least : 268435456 ≤ t) where
  by-32 : t < 536870912 → rounded t ≡ times_nearest 32 t * 32
  by-32 h = ap (λ (u : ℕ). times_nearest u t * u) (above_step t least ∙ ap (λ (b : Bool). cond b 32 64) (lt-ltb t 536870912 h))

  by-64 : 536870912 ≤ t → rounded t ≡ times_nearest 64 t * 64
  by-64 h = ap (λ (u : ℕ). times_nearest u t * u) (above_step t least ∙ ap (λ (b : Bool). cond b 32 64) (le-ltb t 536870912 h))

  -- a load of 30,000 on a multiple of 64: up to 536,870,912 it is a tie, which goes up; beyond that the rest is 48 of 64
  heavy : (v : ℕ) → t ≡ v + 30000 → v % 64 ≡ 0 → rounded t ≡ v + 30016
  heavy v e z = by (nat_lt t 536870912) refl
    where
      by : (b : Bool) → nat_lt t 536870912 ≡ b → rounded t ≡ v + 30016
      by true q = by-32 (ltb-true t 536870912 q) ∙ ap (λ (n : ℕ). n * 32) (times-tie 32 t (omega (arith, e, z))) ∙ omega (arith, e, z)
      by false q = by-64 (ltb-false t 536870912 q) ∙ ap (λ (n : ℕ). n * 64) (times-up 64 t (omega (arith, e, z))) ∙ omega (arith, e, z)

  -- on another multiple of 32: up to 536,870,912 a tie, which goes down; beyond that the rest is 16 of 64
  light : (v : ℕ) → t ≡ v + 30000 → v % 64 ≡ 32 → rounded t ≡ v + 29984
  light v e z = by (nat_lt t 536870912) refl
    where
      by : (b : Bool) → nat_lt t 536870912 ≡ b → rounded t ≡ v + 29984
      by true q = by-32 (ltb-true t 536870912 q) ∙ ap (λ (n : ℕ). n * 32) (times-tie 32 t (omega (arith, e, z))) ∙ omega (arith, e, z)
      by false q = by-64 (ltb-false t 536870912 q) ∙ ap (λ (n : ℕ). n * 64) (times_down 64 t (omega (arith, e, z))) ∙ omega (arith, e, z)

  -- a sum from there on is a multiple of 32
  multiple : rounded t % 32 ≡ 0
  multiple = by (nat_lt t 536870912) refl
    where
      by : (b : Bool) → nat_lt t 536870912 ≡ b → rounded t % 32 ≡ 0
      by true q = ap (λ (n : ℕ). n % 32) (by-32 (ltb-true t 536870912 q)) ∙ mul-mod_left (times_nearest 32 t) 32
      by false q =
          let a : times_nearest 64 t * 64 % 32 ≡ 0 = omega arith in
          ap (λ (n : ℕ). n % 32) (by-64 (ltb-false t 536870912 q)) ∙ a

-- ---- one load

within : (v x n e : ℕ) → v + x ≤ limit → added (tally v n e) (some x) ≡ tally (rounded (v + x)) (suc n) (e + x)
within v x n e h = ap (λ (b : Bool). cond b (refused 24) (tally (rounded (v + x)) (suc n) (e + x))) (le-ltb limit (v + x) h)

module _ (v n e : ℕ) (least : 268435456 ≤ v) (most : v + 30000 ≤ limit) where
  -- on a multiple of 64 it is booked as 30,016, and the sum is a multiple of 64 again
  pub booked-heavy : v % 64 ≡ 0 → (added (tally v n e) (some 30000) ≡ tally (v + 30016) (suc n) (e + 30000)) × ((v + 30016) % 64 ≡ 0)
  booked-heavy z =
      (within v 30000 n e most ∙ ap (λ (w : ℕ). tally w (suc n) (e + 30000)) (heavy (v + 30000) (omega (arith, least)) v refl z), omega (arith, z))

  -- on another multiple of 32 it is booked as 29,984, once: then the sum is a multiple of 64
  pub booked-light : v % 64 ≡ 32 → (added (tally v n e) (some 30000) ≡ tally (v + 29984) (suc n) (e + 30000)) × ((v + 29984) % 64 ≡ 0)
  booked-light z =
      (within v 30000 n e most ∙ ap (λ (w : ℕ). tally w (suc n) (e + 30000)) (light (v + 30000) (omega (arith, least)) v refl z), omega (arith, z))

-- whatever the load, the sum from there on is a multiple of 32
pub then-multiple : (v n e x : ℕ) {w m f : ℕ} → 268435456 ≤ v → added (tally v n e) (some x) ≡ tally w m f → w % 32 ≡ 0
then-multiple v n e x {w} {m} {f} h q = by (nat_lt limit (v + x)) q
  where
    by : (b : Bool) → cond b (refused 24) (tally (rounded (v + x)) (suc n) (e + x)) ≡ tally w m f → w % 32 ≡ 0
    by true e = let z : ◌≡◌ {A = ℕ} 0 1 = cc in absurd (omega arith)
    by false e = let z : rounded (v + x) ≡ w = cc in ap (λ (k : ℕ). k % 32) (sym z) ∙ multiple (v + x) (omega (arith, h))

-- ---- below 268,435,456 nothing is lost: the steps go into 16, and 16 into 30,000

module _ (t : ℕ) (most : t < 268435456) (even : t % 16 ≡ 0) where
  goes : (u k : ℕ) → 0 < u → t ≡ k * u → times_nearest u t * u ≡ t
  goes u k p e =
      let r : t % u ≡ 0 = ap (λ (x : ℕ). x % u) e ∙ mul-mod_left k u in
      let q : t / u ≡ k = ap (λ (x : ℕ). x / u) e ∙ mul-div_cancel k p in
      ap (λ (n : ℕ). n * u) (times_down u t (subst (λ (x : ℕ). x * 2 < u) (sym r) p) ∙ q) ∙ sym e

  below_step : step_at t ≡ cond (nat_lt t 16777216) 1 (cond (nat_lt t 33554432) 2 (cond (nat_lt t 67108864) 4 (cond (nat_lt t 134217728) 8 16)))
  below_step = rw (lt-ltb t 268435456 most)

  lost-none : rounded t ≡ t
  lost-none =
      subst (λ (u : ℕ). times_nearest u t * u ≡ t) (sym below_step)
      (pick (nat_lt t 16777216) 1 (cond (nat_lt t 33554432) 2 (cond (nat_lt t 67108864) 4 (cond (nat_lt t 134217728) 8 16))) (goes 1 t (omega arith) (omega arith))
      (pick (nat_lt t 33554432) 2 (cond (nat_lt t 67108864) 4 (cond (nat_lt t 134217728) 8 16)) (goes 2 (t / 2) (omega arith) (omega (arith, even)))
      (pick (nat_lt t 67108864) 4 (cond (nat_lt t 134217728) 8 16) (goes 4 (t / 4) (omega arith) (omega (arith, even)))
      (pick (nat_lt t 134217728) 8 16 (goes 8 (t / 8) (omega arith) (omega (arith, even))) (goes 16 (t / 16) (omega arith) (omega (arith, even)))))))
    where
      pick : (b : Bool) (x y : ℕ) → times_nearest x t * x ≡ t → times_nearest y t * y ≡ t → times_nearest (cond b x y) t * cond b x y ≡ t
      pick true x y p q = p
      pick false x y p q = q

-- so a load of 30,000 kg is booked as it is
pub booked-exact : (v n e : ℕ) → v + 30000 < 268435456 → v % 16 ≡ 0 → (added (tally v n e) (some 30000) ≡ tally (v + 30000) (suc n) (e + 30000)) × ((v + 30000) % 16 ≡ 0)
booked-exact v n e h z =
    let s : rounded (v + 30000) ≡ v + 30000 = lost-none (v + 30000) h (omega (arith, z)) in
    (within v 30000 n e (omega (arith, h)) ∙ ap (λ (x : ℕ). tally x (suc n) (e + 30000)) s, omega (arith, z))

-- ---- many loads

-- where each of the next k loads is booked as y from v on, and that holds of what is left
module _ (y : ℕ) (Holds : ℕ → ℕ → Type 0) (booked : (k v n e : ℕ) → Holds (suc k) v → (added (tally v n e) (some 30000) ≡ tally (v + y) (suc n) (e + 30000)) × Holds k (v + y)) where
  batches : (k v n e : ℕ) → Holds k v → added_all (tally v n e) (batch_of k 30000) ≡ tally (v + k * y) (n + k) (e + k * 30000)
  unfolding batch_of
  batches zero v n e h =
      let a : v ≡ v + 0 * y = omega arith in
      let b : n ≡ n + 0 = omega arith in
      let c : e ≡ e + 0 * 30000 = omega arith in
      ap (λ (x : ℕ). tally x n e) a ∙ ap (λ (x : ℕ). tally (v + 0 * y) x e) b ∙ ap (λ (x : ℕ). tally (v + 0 * y) (n + 0) x) c
  batches (suc k) v n e h =
      let g = booked k v n e h in
      let a : v + y + k * y ≡ v + suc k * y = omega arith in
      let b : suc n + k ≡ n + suc k = omega arith in
      let c : e + 30000 + k * 30000 ≡ e + suc k * 30000 = omega arith in
      ap (λ (o : Old). added_all o (batch_of k 30000)) g.0
      ∙ batches k (v + y) (suc n) (e + 30000) g.1 ∙ ap (λ (x : ℕ). tally x (suc n + k) (e + 30000 + k * 30000)) a ∙ ap (λ (x : ℕ). tally (v + suc k * y) x (e + 30000 + k * 30000)) b
      ∙ ap (λ (x : ℕ). tally (v + suc k * y) (n + suc k) x) c

batches-exact : (k v n e : ℕ) → (v + k * 30000 < 268435456) × (v % 16 ≡ 0) → added_all (tally v n e) (batch_of k 30000) ≡ tally (v + k * 30000) (n + k) (e + k * 30000)
batches-exact =
    batches 30000 (λ (k v : ℕ). (v + k * 30000 < 268435456) × (v % 16 ≡ 0))
    (λ (k v n e : ℕ) (h : (v + suc k * 30000 < 268435456) × (v % 16 ≡ 0)). let a = h.0 in let g = booked-exact v n e (omega (arith, a)) h.1 in (g.0, (omega (arith, a), g.1)))

batches-heavy : (k v n e : ℕ) → (268435456 ≤ v) × ((v + k * 30016 ≤ limit) × (v % 64 ≡ 0)) → added_all (tally v n e) (batch_of k 30000) ≡ tally (v + k * 30016) (n + k) (e + k * 30000)
batches-heavy =
    batches 30016 (λ (k v : ℕ). (268435456 ≤ v) × ((v + k * 30016 ≤ limit) × (v % 64 ≡ 0)))
    (λ (k v n e : ℕ) (h : (268435456 ≤ v) × ((v + suc k * 30016 ≤ limit) × (v % 64 ≡ 0))).
    let l = h.0 in
    let a = h.1.0 in
    let g = booked-heavy v n e l (omega (arith, a)) h.1.1 in
    (g.0, (omega (arith, l), (omega (arith, a), g.1))))

-- ---- the year: 33,300 loads of 30,000 kg

loads-more : (k m x : ℕ) → batch_of (k + m) x ≡ batch_of k x ++ batch_of m x
unfolding batch_of
loads-more zero m x = let a : zero + m ≡ m = omega arith in ap (λ (i : ℕ). batch_of i x) a
loads-more (suc k) m x = let a : suc k + m ≡ suc (k + m) = omega arith in ap (λ (i : ℕ). batch_of i x) a ∙ ap (λ (l : List (Option ℕ)). some x ∷ l) (loads-more k m x)

crossing : added_all (tally 268410000 8947 268410000) (batch_of 1 30000) ≡ tally 268440000 8948 268440000
unfolding batch_of
crossing = refl

-- the 8,947th leaves 268,410,000 exactly, the next 268,440,000 exactly, which is a multiple of 64; each of the other 24,352 is booked 16 kg heavy
pub the-year : added_all (tally 0 0 0) (batch_of (8947 + (1 + 24352)) 30000) ≡ tally 999389632 33300 999000000
the-year =
    ap (added_all (tally 0 0 0)) (loads-more 8947 (1 + 24352) 30000 ∙ ap (λ (l : List (Option ℕ)). batch_of 8947 30000 ++ l) (loads-more 1 24352 30000))
    ∙ added-parts (tally 0 0 0) (batch_of 8947 30000) (batch_of 1 30000 ++ batch_of 24352 30000)
    ∙ ap (λ (o : Old). added_all o (batch_of 1 30000 ++ batch_of 24352 30000)) (batches-exact 8947 0 0 0 (omega arith, refl))
    ∙ added-parts (tally 268410000 8947 268410000) (batch_of 1 30000) (batch_of 24352 30000)
    ∙ ap (λ (o : Old). added_all o (batch_of 24352 30000)) crossing
    ∙ batches-heavy 24352 268440000 8948 268440000 (omega arith, (omega arith, refl))
