-- Laws of the old sum as the code keeps it: a sum handed in, a load more.
use Rattle.std.specs.Prelude.{◌≡◌, ℕ, zero, suc, ◌+◌, ◌*◌, ◌/◌, ◌%◌, ◌<◌, ◌≤◌, Bool, true, false, cond, not, ◌&&◌, T, pos, ◌==◌, ◌≢◌, nat_le, nat_lt, to_bits, refl, Float, Result, Option, Ok, Err, Some, None}
use Rattle.std.proofs.Common.{mul-one, mul-div_cancel, mul-lt-mul_of_pos_right, div-add-mod', arith, sym, ap, ◌∙◌, subst, lt→ltb, lt-ltb, le-ltb, ltb-false, eqb-true, leb-true, leb-false, le-leb, eq-eqb, ne_eqb}
use Rattle.std.proofs.Math.Nat.{mul-mod_left}
use Rattle.std.proofs.Math.Option.{Option as Maybe, none, some}
use Rattle.std.specs.Float.{nan, inf, fin, binary32}
use Rattle.std.specs.Float.Ieee.{up, down, lt, to_unsigned, fits, is_nan, of_bits, of_fields, odd, nan_bits}
use Rattle.std.specs.Float.Ieee.Bits.{of_bits-to_bits, nan_bits_is, nan_bits_above}
use Rattle.std.specs.Float.Ieee.Fits.{down_pos, of_int-fits}
use Rattle.std.proofs.lemmas.Bool.{lt-leb}
use Rattle.kilograms.specs.OldSum.{Old, tally, refused, limit, rounded, kilograms_in, added, single, handed_in, handed_bits}
use Rattle.kilograms.specs.RoundingLaws.{rounded-within}
use Rattle.kilograms.specs.SingleLaws.{Whole, single-rounds, single-same, cut, whole-one, whole_back}
use Rattle.kilograms.specs.Running.{running_as, load_as, Held, loads_of, Runs, Weighs, Kilos}
use Rattle.kilograms.specs.declared.Tally.{Tally}

-- ---- a load of so many grams

pub load-heavy : (g : ℕ) → 100000000 < g → None ≡ load_as (kilograms_in g)
load-heavy g h = by (g % 1000 == 0) (nat_le g 100000000) (lt-leb g 100000000 h)
  where
    by : (a b : Bool) → b ≡ false → None ≡ load_as (cond (a && b) (some (g / 1000)) none)
    by true b e = ap (λ (c : Bool). load_as (cond c (some (g / 1000)) none)) (sym e)
    by false b e = refl

pub load-broken : (g : ℕ) → (g % 1000 ≢ 0) → None ≡ load_as (kilograms_in g)
load-broken g h = rw (ne_eqb (g % 1000) 0 h)

pub load-whole : (g : ℕ) → g % 1000 ≡ 0 → g ≤ 100000000 → Some (g / 1000) ≡ load_as (kilograms_in g)
load-whole g h l = rw (eq-eqb (g % 1000) 0 h, le-leb g 100000000 l)

-- ---- a sum handed in

-- a whole number lies between -1 and 2 ^ 64
range : (x : Float) (v : ℕ) → Whole x v → v ≤ limit → T (lt (fin true 1 (pos 0)) x) × T (lt x (fin false 1 (pos 64)))
unfolding lt
range nan v h l = absurd h
range (inf s) v h l = absurd h
range (fin true m e) v h l = absurd (let z : ◌≡◌ {A = ℕ} 0 1 = cc h.0 in omega arith)
range (fin false m e) v h l =
    let p : 0 < down e = down_pos e in
    let u : m * up e * 1 ≡ v * down e = h.1 in
    let w : v * down e < 18446744073709551616 * down e = mul-lt-mul_of_pos_right (omega arith) p in
    (lt→ltb 0 (1 * 1 * down e + m * up e * 1) (omega arith), lt→ltb (m * up e * 1) (1 * 18446744073709551616 * down e) (omega arith))

pub between : (x : Float) → Kilos x → T (lt (fin true 1 (pos 0)) x) × T (lt x (fin false 1 (pos 64)))
between x k = range x k.value k.whole k.within

pub cut-whole : (x : Float) (r : ℕ) → r ≡ to_unsigned 64 x → (v : ℕ) → Whole x v → v ≤ limit → r ≡ v
cut-whole x r e v w h = e ∙ cut x v w (omega (arith, h))

-- a float that is a number
pub whole-real : (x : Float) (v : ℕ) → Whole x v → T (not (is_nan x))
unfolding is_nan
whole-real nan v h = absurd h
whole-real (inf s) v h = tt
whole-real (fin s m e) v h = tt

pub above-real : (x : Float) → T (lt (fin true 1 (pos 0)) x) → T (not (is_nan x))
unfolding is_nan lt
above-real nan h = absurd h
above-real (inf s) h = tt
above-real (fin s m e) h = tt

pub nearest-real : (x : Float) (w : ℕ) → x ≡ single w → w ≤ limit → T (not (is_nan x))
nearest-real x w e h = whole-real x (rounded w) (subst (λ (y : Float). Whole y (rounded w)) (sym e) (single-rounds w h))

-- the whole number that it is cut to gives its bits again: so it is that number
pub same_bits : (s x : Float) (w : ℕ) → T (fits binary32 s) → x ≡ single w → w ≡ to_unsigned 64 s → w ≤ limit → to_bits binary32 x ≡ to_bits binary32 s → Whole s w
same_bits s x w f e t h b =
    let g = single-rounds w h in
    let fx : T (fits binary32 x) = subst (λ (y : Float). T (fits binary32 y)) (sym e) (of_int-fits binary32 (pos w)) in
    let q : single w ≡ s = sym e ∙ sym (of_bits-to_bits binary32 x fx) ∙ ap (of_bits binary32) b ∙ of_bits-to_bits binary32 s f in
    let v : Whole s (rounded w) = subst (λ (y : Float). Whole y (rounded w)) q g in
    let n = rounded-within w h in
    let z : w ≡ rounded w = t ∙ cut s (rounded w) v (omega (arith, n)) in
    subst (λ (y : ℕ). Whole s y) (sym z) v

abbrev NoSum : Float → Type 0
NoSum x = (n : ℕ) → Whole x n → n ≤ limit → ⊥

not_low : (x : Float) → lt (fin true 1 (pos 0)) x ≡ false → NoSum x
not_low x e n h l = subst T e (between x (record { value = n; whole = h; within = l })).0

not-high : (x : Float) → lt x (fin false 1 (pos 64)) ≡ false → NoSum x
not-high x e n h l = subst T e (between x (record { value = n; whole = h; within = l })).1

not-large : (x : Float) (w : ℕ) → w ≡ to_unsigned 64 x → limit < w → NoSum x
not-large x w e g n h l = let q : w ≡ n = e ∙ cut x n h (omega (arith, l)) in omega (arith, q, g, l)

not_same : (s x : Float) (w : ℕ) → T (fits binary32 s) → x ≡ single w → w ≡ to_unsigned 64 s → (to_bits binary32 x ≢ to_bits binary32 s) → NoSum s
not_same s x w f ex e d n h l =
    let q : w ≡ n = e ∙ cut s n h (omega (arith, l)) in
    d (ap (to_bits binary32) (ex ∙ ap single q ∙ whole_back s n f h l))

-- what the paper makes of it
pub handed-whole : (x : Float) (n : ℕ) → Whole x n → n ≤ limit → handed_in x ≡ tally n 0 0
handed-whole nan n h l = absurd h
handed-whole (inf s) n h l = absurd h
handed-whole (fin true m e) n h l = absurd (let z : ◌≡◌ {A = ℕ} 0 1 = cc h.0 in omega arith)
handed-whole (fin false m e) n h l =
    let u : m * up e ≡ n * down e = sym (mul-one (m * up e)) ∙ h.1 in
    let q : n * down e / down e ≡ n = mul-div_cancel n (down_pos e) in
    let r : n * down e % down e ≡ 0 = mul-mod_left n (down e) in
    ap (λ (x : ℕ). cond (x % down e == 0 && nat_le (x / down e) limit) (tally (x / down e) 0 0) (refused 24)) u
    ∙ ap (λ (x : ℕ). cond (x == 0 && nat_le (n * down e / down e) limit) (tally (n * down e / down e) 0 0) (refused 24)) r
    ∙ ap (λ (x : ℕ). cond (nat_le x limit) (tally x 0 0) (refused 24)) q
    ∙ ap (λ (b : Bool). cond b (tally n 0 0) (refused 24)) (le-leb n limit l)

handed-not : (x : Float) → NoSum x → handed_in x ≡ refused 24
handed-not nan k = refl
handed-not (inf s) k = refl
handed-not (fin true m e) k = refl
handed-not (fin false m e) k = by (m * up e % down e == 0) refl (nat_le (m * up e / down e) limit) refl
  where
    by : (a : Bool) → (m * up e % down e == 0) ≡ a → (b : Bool) → nat_le (m * up e / down e) limit ≡ b → cond (a && b) (tally (m * up e / down e) 0 0) (refused 24) ≡ refused 24
    by true p true q =
        let z = eqb-true (m * up e % down e) 0 p in
        let d : m * up e / down e * down e + m * up e % down e ≡ m * up e = div-add-mod' (m * up e) (down e) in
        let h : m * up e * 1 ≡ m * up e / down e * down e = omega (arith, z, d) in
        absurd (k (m * up e / down e) (refl, h) (leb-true (m * up e / down e) limit q))
    by true p false q = refl
    by false p b q = refl

-- it is a whole number within the limit, or refused
pub held-handed : (x : Float) → T (fits binary32 x) → Held (handed_in x)
held-handed nan f = tt
held-handed (inf s) f = tt
held-handed (fin true m e) f = tt
held-handed (fin false m e) f = by (m * up e % down e == 0) refl (nat_le (m * up e / down e) limit) refl
  where
    by : (a : Bool) → (m * up e % down e == 0) ≡ a → (b : Bool) → nat_le (m * up e / down e) limit ≡ b → Held (cond (a && b) (tally (m * up e / down e) 0 0) (refused 24))
    by true p true q =
        let z = eqb-true (m * up e % down e) 0 p in
        let d : m * up e / down e * down e + m * up e % down e ≡ m * up e = div-add-mod' (m * up e) (down e) in
        let h : m * up e * 1 ≡ m * up e / down e * down e = omega (arith, z, d) in
        let w : Whole (fin false m e) (m * up e / down e) = (refl, h) in
        let l = leb-true (m * up e / down e) limit q in
        (l, (subst (λ (x : Float). Whole x (m * up e / down e)) (sym (whole_back (fin false m e) (m * up e / down e) f w l)) w, omega arith))
    by true p false q = tt
    by false p b q = tt

-- and so the code answers
pub handed-so : (s x : Float) (w : ℕ) → T (fits binary32 s) → x ≡ single w → w ≡ to_unsigned 64 s → w ≤ limit → to_bits binary32 x ≡ to_bits binary32 s
    → Ok (record { sum = s; loads = 0; kilograms = 0 }) ≡ running_as (handed_in s)
handed-so s x w f e t h b =
    let v = same_bits s x w f e t h b in
    ap (λ (y : Float). Ok (record { sum = y; loads = 0; kilograms = 0 })) (sym (whole_back s w f v h)) ∙ ap running_as (sym (handed-whole s w v h))

module _ (s : Float) where
  none-handed : NoSum s → Err 24 ≡ running_as (handed_in s)
  none-handed k = ap running_as (sym (handed-not s k))

  pub low-handed : lt (fin true 1 (pos 0)) s ≡ false → Err 24 ≡ running_as (handed_in s)
  low-handed e = none-handed (not_low s e)

  pub high-handed : lt s (fin false 1 (pos 64)) ≡ false → Err 24 ≡ running_as (handed_in s)
  high-handed e = none-handed (not-high s e)

  pub large-handed : (w : ℕ) → w ≡ to_unsigned 64 s → limit < w → Err 24 ≡ running_as (handed_in s)
  large-handed w e g = none-handed (not-large s w e g)

  pub broken-handed : (x : Float) (w : ℕ) → T (fits binary32 s) → x ≡ single w → w ≡ to_unsigned 64 s → (to_bits binary32 x ≢ to_bits binary32 s) → Err 24 ≡ running_as (handed_in s)
  broken-handed x w f ex e d = none-handed (not_same s x w f ex e d)

-- ---- by bits: up to those of infinity they are a number's without a sign

pub bits-real : (b : ℕ) → b ≤ 2139095040 → T (not (nan_bits binary32 b))
bits-real b h =
    let m : b % 2147483648 ≡ b = omega arith in
    subst (λ (c : Bool). T (not c)) (sym (nan_bits_above binary32 b ∙ le-ltb 2139095040 (b % 2147483648) (omega (arith, m, h)))) tt

-- with a sign, or no number
odd_refused : (d q k l : ℕ) → handed_in (odd d true q k l) ≡ refused 24
unfolding odd
odd_refused d zero k l = refl
odd_refused d (suc q) k l = refl

signed-refused : (x t : ℕ) → handed_in (of_fields binary32 true x t) ≡ refused 24
unfolding of_fields
signed-refused zero t = odd_refused 24 t 0 149
signed-refused (suc x) t = by (suc x == 255) (t == 0)
  where
    by : (a b : Bool) → handed_in (cond a (cond b (inf true) nan) (odd 24 true (8388608 + t) x 149)) ≡ refused 24
    by true true = refl
    by true false = refl
    by false b = odd_refused 24 (8388608 + t) x 149

by-fields : (b : ℕ) → nat_le 2147483648 b ≡ true → handed_in (of_bits binary32 b) ≡ refused 24
unfolding of_bits
by-fields b e =
    ap (λ (c : Bool). handed_in (of_fields binary32 c (b % 2147483648 / 8388608) (b % 8388608))) e ∙ signed-refused (b % 2147483648 / 8388608) (b % 8388608)

nan-refused : (x : Float) → is_nan x ≡ true → handed_in x ≡ refused 24
unfolding is_nan
nan-refused nan e = refl
nan-refused (inf s) e = refl
nan-refused (fin s m d) e = let z : ◌≡◌ {A = Bool} false true = e in cc

pub bits-refused : (b : ℕ) → 2139095040 < b → Err 24 ≡ running_as (handed_bits b)
bits-refused b h = ap running_as (sym (by (nat_le 2147483648 b) refl))
  where
    by : (c : Bool) → nat_le 2147483648 b ≡ c → handed_in (of_bits binary32 b) ≡ refused 24
    by true e = by-fields b e
    by false e =
        let u = leb-false 2147483648 b e in
        let m : b % 2147483648 ≡ b = omega (arith, u) in
        nan-refused (of_bits binary32 b) (sym (nan_bits_is binary32 b) ∙ nan_bits_above binary32 b ∙ lt-ltb 2139095040 (b % 2147483648) (omega (arith, m, h)))

-- ---- a load more

pub held-added : (o : Old) (x : Maybe ℕ) → Weighs (load_as x) → Held o → Held (added o x)
held-added (refused n) x w h = tt
held-added (tally v n e) none w h = tt
held-added (tally v n e) (some x) w h = by (nat_lt limit (v + x)) refl
  where
    by : (b : Bool) → nat_lt limit (v + x) ≡ b → Held (cond b (refused 24) (tally (rounded (v + x)) (suc n) (e + x)))
    by true q = tt
    by false q =
        let l = ltb-false limit (v + x) q in
        let a = h.1.1 in
        (rounded-within (v + x) l, (subst (λ (y : Float). Whole y (rounded (v + x))) (sym (single-same (v + x) l)) (single-rounds (v + x) l), omega (arith, a, w)))

-- the whole number that the code keeps
pub runs-whole : (t : Tally) → Runs (Ok t) → Kilos t.sum
runs-whole t r = by r.old r.held r.is
  where
    by : (o : Old) → Held o → Ok t ≡ running_as o → Kilos t.sum
    by (tally v n e) h q =
        let z : t.sum ≡ single v = cc in
        record { value = v; whole = subst (λ (x : Float). Whole x v) (sym z) h.1.0; within = h.0 }
    by (refused n) h q = let z : ◌≡◌ {A = ℕ} 0 1 = cc in absurd (omega arith)

pub whole-small : {x : Float} {r : ℕ} → Kilos x → ((v : ℕ) → Whole x v → v ≤ limit → r ≡ v) → r ≤ limit
whole-small k f = let e = f k.value k.whole k.within in let h = k.within in omega (arith, e, h)

pub runs-room : (t : Tally) → Runs (Ok t) → (t.loads ≤ 65535) × (t.kilograms ≤ 6553500000)
runs-room t r = by r.old r.held r.is r.few
  where
    by : (o : Old) → Held o → Ok t ≡ running_as o → loads_of o ≤ 65535 → (t.loads ≤ 65535) × (t.kilograms ≤ 6553500000)
    by (tally v n e) h q f =
        let a : t.loads ≡ n = cc in
        let b : t.kilograms ≡ e = cc in
        let c = h.1.1 in
        (omega (arith, a, f), omega (arith, b, c, f))
    by (refused n) h q f = let z : ◌≡◌ {A = ℕ} 0 1 = cc in absurd (omega arith)

module _ (t : Tally) (x : ℕ) {w : ℕ} (k : (v : ℕ) → Whole t.sum v → v ≤ limit → w ≡ v) (v : ℕ) (h : Held (tally v t.loads t.kilograms)) (q : t.sum ≡ single v) where
  whole_here : Whole t.sum v
  whole_here = subst (λ (y : Float). Whole y v) (sym q) h.1.0

  pub add-passed : limit < w + x → Err 24 ≡ running_as (added (tally v t.loads t.kilograms) (some x))
  add-passed p =
      let a : w ≡ v = k v whole_here h.0 in
      sym (ap (λ (b : Bool). running_as (cond b (refused 24) (tally (rounded (v + x)) (suc t.loads) (t.kilograms + x)))) (lt-ltb limit (v + x) (subst (λ (y : ℕ). limit < y + x) a p)))

  pub add-on : {s : Float} {n e : ℕ} → w + x ≤ limit → ((u : ℕ) → Whole t.sum u → u + x ≤ limit → s ≡ single (rounded (u + x))) → n ≡ t.loads + 1 → e ≡ t.kilograms + x
      → Ok (record { sum = s; loads = n; kilograms = e }) ≡ running_as (added (tally v t.loads t.kilograms) (some x))
  add-on {s} {n} {e} p f c d =
      let a : w ≡ v = k v whole_here h.0 in
      let l : v + x ≤ limit = subst (λ (y : ℕ). y + x ≤ limit) a p in
      let g : s ≡ single (rounded (v + x)) = f v whole_here l in
      let m : n ≡ suc t.loads = omega (arith, c) in
      ap (λ (y : Float). Ok (record { sum = y; loads = n; kilograms = e })) g
      ∙ ap (λ (y : ℕ). Ok (record { sum = single (rounded (v + x)); loads = y; kilograms = e })) m
      ∙ ap (λ (y : ℕ). Ok (record { sum = single (rounded (v + x)); loads = suc t.loads; kilograms = y })) d
      ∙ sym (ap (λ (b : Bool). running_as (cond b (refused 24) (tally (rounded (v + x)) (suc t.loads) (t.kilograms + x)))) (le-ltb limit (v + x) l))

-- by the cases of what it is added to, and of the load
module _ {k r : Result Tally ℕ} {x : Option ℕ} where
  pub add-refused : {n : ℕ} → k ≡ Err n → r ≡ Err n → (o : Old) (l : Maybe ℕ) → Held o → k ≡ running_as o → x ≡ load_as l → r ≡ running_as (added o l)
  add-refused e d (refused m) l h q z = let a : Err m ≡ r = cc in sym a
  add-refused e d (tally v m f) l h q z = let y : ◌≡◌ {A = ℕ} 0 1 = cc in absurd (omega arith)

  pub add-other : {t : Tally} → k ≡ Ok t → x ≡ None → r ≡ Err 23 → (o : Old) (l : Maybe ℕ) → Held o → k ≡ running_as o → x ≡ load_as l → r ≡ running_as (added o l)
  add-other e d g (refused m) l h q z = let y : ◌≡◌ {A = ℕ} 0 1 = cc in absurd (omega arith)
  add-other e d g (tally v m f) none h q z = g
  add-other e d g (tally v m f) (some w) h q z = let y : ◌≡◌ {A = ℕ} 0 1 = cc in absurd (omega arith)

  pub add-load : {t : Tally} {w : ℕ} → k ≡ Ok t → x ≡ Some w
      → ((v : ℕ) → Held (tally v t.loads t.kilograms) → t.sum ≡ single v → r ≡ running_as (added (tally v t.loads t.kilograms) (some w)))
      → (o : Old) (l : Maybe ℕ) → Held o → k ≡ running_as o → x ≡ load_as l → r ≡ running_as (added o l)
  add-load e d g (refused m) l h q z = let y : ◌≡◌ {A = ℕ} 0 1 = cc in absurd (omega arith)
  add-load e d g (tally v m f) none h q z = let y : ◌≡◌ {A = ℕ} 0 1 = cc in absurd (omega arith)
  add-load {t} {w} e d g (tally v m f) (some u) h q z =
      let a : m ≡ t.loads = cc in
      let b : f ≡ t.kilograms = cc in
      let c : t.sum ≡ single v = cc in
      let i : u ≡ w = cc in
      rw (i, a, b) (g v (subst (λ (y : ℕ). Held (tally v y t.kilograms)) a (subst (λ (y : ℕ). Held (tally v m y)) b h)) c)

-- ---- what the code keeps is one old sum only

sum_in : Result Tally ℕ → Float
sum_in (Ok t) = t.sum
sum_in (Err n) = nan

loads_in : Result Tally ℕ → ℕ
loads_in (Ok t) = t.loads
loads_in (Err n) = n

kilograms_at : Result Tally ℕ → ℕ
kilograms_at (Ok t) = t.kilograms
kilograms_at (Err n) = 0

is_refused : Result Tally ℕ → ℕ
is_refused (Ok t) = 0
is_refused (Err n) = 1

pub running-one : (o p : Old) → Held o → Held p → running_as o ≡ running_as p → o ≡ p
unfolding sum_in loads_in kilograms_at is_refused
running-one (refused n) (refused m) h k e = ap refused (ap loads_in e)
running-one (refused n) (tally w m f) h k e = let z : ◌≡◌ {A = ℕ} 1 0 = ap is_refused e in absurd (omega (arith, z))
running-one (tally v n d) (refused m) h k e = let z : ◌≡◌ {A = ℕ} 0 1 = ap is_refused e in absurd (omega (arith, z))
running-one (tally v n d) (tally w m f) h k e =
    let a : single v ≡ single w = ap sum_in e in
    let q : v ≡ w = whole-one (single w) v w (subst (λ (x : Float). Whole x v) a h.1.0) k.1.0 h.0 k.0 in
    ap (λ (x : ℕ). tally x n d) q ∙ ap (λ (x : ℕ). tally w x d) (ap loads_in e) ∙ ap (tally w m) (ap kilograms_at e)

-- the sum that was handed in, before any load
pub handed-none : (x : Float) → loads_of (handed_in x) ≡ 0
handed-none nan = refl
handed-none (inf s) = refl
handed-none (fin true m e) = refl
handed-none (fin false m e) = by (m * up e % down e == 0 && nat_le (m * up e / down e) limit)
  where
    by : (b : Bool) → loads_of (cond b (tally (m * up e / down e) 0 0) (refused 24)) ≡ 0
    by true = refl
    by false = refl

-- a single that is held is a number
pub held-real : (v : ℕ) → Whole (single v) v → T (not (is_nan (single v)))
held-real v w = whole-real (single v) v w

-- the sum that a file leaves is taken by the next
pub handed-on : (v : ℕ) → v ≤ limit → Whole (single v) v → handed_in (single v) ≡ tally v 0 0
handed-on v h w = handed-whole (single v) v w h
