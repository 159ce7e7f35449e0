-- What a file adds is at most 32 kg off for each load, the sum that it leaves is taken by the next, and over a year of files the bounds add up.
use Rattle.std.specs.Prelude.{ℕ, suc, ◌+◌, ◌*◌, ◌/◌, ◌%◌, ◌≤◌, ◌≡◌, refl, Bool, true, false, cond, ◌&&◌, List, [], ◌∷◌, ◌++◌, eqb, leb, ltb, pos, negsuc, length, Float}
use Rattle.std.proofs.Common.{arith, ap, sym, ◌∙◌, subst, eqb-true}
use Rattle.std.proofs.Math.Option.{Option, none, some}
use Rattle.std.specs.Float.{binary32}
use Rattle.std.specs.Float.Ieee.{of_bits, to_bits}
use Rattle.std.specs.Float.Ieee.Bits.{of_bits-to_bits}
use Rattle.std.specs.Float.Ieee.Fits.{of_int-fits}
use Rattle.grammar.specs.Lists.{Snoc, nil, ◌▷◌, each, list}
use Rattle.grammar.specs.Grams.{Grams, sum}
use Rattle.syntax.specs.declared.Refusal.{Refusal}
use Rattle.groups.specs.Calls.{Answered, given, refused_as}
use Rattle.kilograms.specs.OldSum.{Old, tally, refused, limit, rounded, added, added_all, single, bits_of, handed_in, handed_bits}
use Rattle.kilograms.specs.SingleLaws.{Whole}
use Rattle.kilograms.specs.Running.{Held}
use Rattle.kilograms.specs.RunningLaws.{held-added, handed-on}
use Rattle.kilograms.specs.Bounds.{Bounded, exactly}
use Rattle.kilograms.specs.BoundLaws.{bounded, chained, added-parts}
use Rattle.returns.specs.Returns.{file_loads_of, message_loads_of, kilograms_of, weighed, Summed, left, refused_sum, summed_as, summed_by, old_sum_bits_of, message_old_sum_bits_of}
use Rattle.returns.specs.ReadingLaws.{kilograms-weigh}
use Rattle.returns.proofs.ReturnsLaws.{held-bits}
use Rattle.returns.specs.Years.{Leaves, Year, no-file, one_more}

-- ---- the sum is held, load by load

held-snoc : (o : Old) (l : Snoc Grams) → Held o → Held (added_all o (weighed l))
held-snoc o nil h = h
held-snoc o (l ▷ g) h =
    subst Held (sym (added-parts o (weighed l) (kilograms_of g ∷ []))) (held-added (added_all o (weighed l)) (kilograms_of g) (kilograms-weigh g) (held-snoc o l h))

-- ---- the exact kilograms are the exact sum in grams

abbrev ExactIn : Snoc Grams → Old → Type 0
ExactIn l (tally w n e) = sum l ≡ pos (e * 1000)
ExactIn l (refused k) = Unit {0}

exact-more : (o : Old) (l : Snoc Grams) (g : Grams) → ExactIn l o → ExactIn (l ▷ g) (added o (kilograms_of g))
exact-more (refused k) l g h = tt
exact-more (tally v n e) l (negsuc a) h = tt
exact-more (tally v n e) l (pos a) h = by (eqb (a % 1000) 0) (leb a 100000000) refl
  where
    within : eqb (a % 1000) 0 ≡ true → (d : Bool) → ExactIn (l ▷ pos a) (cond d (refused 24) (tally (rounded (v + a / 1000)) (suc n) (e + a / 1000)))
    within z true = tt
    within z false = let i = eqb-true (a % 1000) 0 z in rw h (ap pos (omega (arith, i)))

    by : (b c : Bool) → eqb (a % 1000) 0 ≡ b → ExactIn (l ▷ pos a) (added (tally v n e) (cond (b && c) (some (a / 1000)) none))
    by true true z = within z (ltb limit (v + a / 1000))
    by true false z = tt
    by false c z = tt

exact-snoc : (v : ℕ) (l : Snoc Grams) → ExactIn l (added_all (tally v 0 0) (weighed l))
exact-snoc v nil = refl
exact-snoc v (l ▷ g) =
    subst (ExactIn (l ▷ g)) (sym (added-parts (tally v 0 0) (weighed l) (kilograms_of g ∷ []))) (exact-more (added_all (tally v 0 0) (weighed l)) l g (exact-snoc v l))

-- ---- what a call leaves, by what it was told

left_one : {v n e w m f : ℕ} → left v n e ≡ left w m f → tally v n e ≡ tally w m f
left_one q = ap back q
  where
    back : Summed → Old
    back (left v n e) = tally v n e
    back (refused_sum f) = refused 0

summed-left : (o : Old) {w n e : ℕ} → summed_as o ≡ left w n e → o ≡ tally w n e
summed-left (tally v m f) q = left_one q
summed-left (refused k) q = let z : ◌≡◌ {A = ℕ} 0 1 = cc in absurd (omega arith)

-- the bits of a sum that is held are taken as that sum
pub bits-on : (w n e : ℕ) → Held (tally w n e) → handed_bits (bits_of w) ≡ tally w 0 0
bits-on w n e h = ap handed_in (of_bits-to_bits binary32 (single w) (of_int-fits binary32 (pos w))) ∙ handed-on w h.0 h.1.0

-- and so is the sum that one load more leaves
pub whole_again : (v n e x w m f : ℕ) → handed_bits (bits_of v) ≡ tally v 0 0 → x ≤ 100000 → added (tally v n e) (some x) ≡ tally w m f → handed_bits (bits_of w) ≡ tally w 0 0
whole_again v n e x w m f h l q = by (ltb limit (v + x)) q (held-added (tally v 0 0) (some x) l (subst Held h (held-bits (bits_of v))))
  where
    by : (b : Bool) → cond b (refused 24) (tally (rounded (v + x)) (suc n) (e + x)) ≡ tally w m f → Held (cond b (refused 24) (tally (rounded (v + x)) 1 (0 + x)))
        → handed_bits (bits_of w) ≡ tally w 0 0
    by true e k = let z : ◌≡◌ {A = ℕ} 0 1 = cc in absurd (omega arith)
    by false e k = let z : rounded (v + x) ≡ w = cc in subst (λ (u : ℕ). handed_bits (bits_of u) ≡ tally u 0 0) z (bits-on (rounded (v + x)) 1 (0 + x) k)

leaves : (b v : ℕ) (a : Answered (Snoc Grams)) (l : Snoc Grams) {w n e : ℕ} → handed_bits b ≡ tally v 0 0 → a ≡ given l → summed_by (handed_bits b) a ≡ left w n e → Leaves v l w n e
leaves b v a l {w} {n} {e} h g q =
    let k : Held (tally v 0 0) = subst Held h (held-bits b) in
    let i : summed_as (added_all (tally v 0 0) (weighed l)) ≡ left w n e = sym (ap (summed_by (tally v 0 0)) g) ∙ sym (ap (λ (o : Old). summed_by o a) h) ∙ q in
    let j : added_all (tally v 0 0) (weighed l) ≡ tally w n e = summed-left (added_all (tally v 0 0) (weighed l)) i in
    let m = bounded (weighed l) k.0 j in
    record {
      loads = m.0;
      exact = m.1.0;
      total = subst (ExactIn l) j (exact-snoc v l);
      near = m.1.1;
      taken = bits-on w n e (subst Held j (held-snoc (tally v 0 0) l k));
    }

-- of a file, and of a message
pub file-leaves : (s : List ℕ) (b v w n e : ℕ) (l : Snoc Grams) → handed_bits b ≡ tally v 0 0 → file_loads_of s ≡ given l → old_sum_bits_of s b ≡ left w n e → Leaves v l w n e
file-leaves s b v w n e l h g q = leaves b v (file_loads_of s) l h g q

pub message-leaves : (s m : List ℕ) (b v w n e : ℕ) (l : Snoc Grams) → handed_bits b ≡ tally v 0 0 → message_loads_of s m ≡ given l → message_old_sum_bits_of s m b ≡ left w n e → Leaves v l w n e
message-leaves s m b v w n e l h g q = leaves b v (message_loads_of s m) l h g q

-- ---- a year

-- a call that leaves a sum had loads
had-loads : (o : Old) (a : Answered (Snoc Grams)) {w n e : ℕ} → summed_by o a ≡ left w n e → (l : Snoc Grams) × (a ≡ given l)
had-loads o (given l) q = (l, refl)
had-loads o (refused_as f) q = let z : ◌≡◌ {A = ℕ} 0 1 = cc in absurd (omega arith)

year-goes : {v w n e : ℕ} → v ≤ limit → handed_bits (bits_of v) ≡ tally v 0 0 → Year v w n e → Bounded v w n e × (handed_bits (bits_of w) ≡ tally w 0 0)
year-goes b h no-file = (record { above = omega arith; below = omega arith; within = b }, h)
year-goes b h (one_more w n e s x m f y q) =
    let k = year-goes b h y in
    let l = had-loads (handed_bits (bits_of w)) (file_loads_of s) q in
    let r = file-leaves s (bits_of w) w x m f l.0 k.1 l.1 q in
    (chained k.0 r.near, r.taken)

pub year-near : (v w n e : ℕ) → handed_bits (bits_of v) ≡ tally v 0 0 → Year v w n e → Bounded v w n e
year-near v w n e h y = let k : Held (tally v 0 0) = subst Held h (held-bits (bits_of v)) in (year-goes k.0 h y).0
