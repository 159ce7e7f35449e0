-- The two counters give the sum of signed grams: it is their difference.
use Rattle.std.specs.Prelude.{ℕ, zero, suc, ◌+◌, ◌-◌, ◌≤◌, ◌<◌, ◌≡◌, refl, Bool, true, false, cond, T, eqb, ltb, ℤ, pos, negsuc, neg_ℤ, ◌+ℤ◌}
use Rattle.std.proofs.Common.{arith, ap, sym, ◌∙◌, lt-ltb, le-ltb, ltb-true, ltb-false, eq-eqb, ne_eqb, eqb-true, eqb→eq}
use Rattle.std.proofs.lemmas.Bool.{eqb-false}
use Rattle.std.proofs.Math.IntN.{sub_ℕ}
use Rattle.grammar.specs.Lists.{Snoc, nil, ◌▷◌}
use Rattle.grammar.specs.Grams.{Grams, same_grams, signed, below, magnitude, sum}
use Rattle.grammar.specs.Weighed.{forward, back, apart}

-- a − b and n more, or n + 1 less
sub-pos : (a b n : ℕ) → sub_ℕ a b +ℤ pos n ≡ sub_ℕ (a + n) b
sub-pos a b n = by (ltb a b) refl
  where
    low : (t : Bool) → ltb (a + n) b ≡ t → a < b → sub_ℕ n (suc (b - suc a)) ≡ cond t (negsuc (b - suc (a + n))) (pos (a + n - b))
    low true e h = let k : a + n < b = ltb-true _ _ e in let z : n < suc (b - suc a) = omega arith in rw (lt-ltb _ _ z) (ap negsuc (omega arith))
    low false e h = let k : b ≤ a + n = ltb-false _ _ e in let z : suc (b - suc a) ≤ n = omega arith in rw (le-ltb _ _ z) (ap pos (omega arith))

    by : (t : Bool) → ltb a b ≡ t → cond t (negsuc (b - suc a)) (pos (a - b)) +ℤ pos n ≡ sub_ℕ (a + n) b
    by true e = low (ltb (a + n) b) refl (ltb-true _ _ e)
    by false e = let k : b ≤ a = ltb-false _ _ e in let z : b ≤ a + n = omega arith in rw (le-ltb _ _ z) (ap pos (omega arith))

sub-neg : (a b n : ℕ) → sub_ℕ a b +ℤ negsuc n ≡ sub_ℕ a (b + suc n)
sub-neg a b n = by (ltb a b) refl
  where
    high : (t : Bool) → ltb a (b + suc n) ≡ t → b ≤ a → sub_ℕ (a - b) (suc n) ≡ cond t (negsuc (b + suc n - suc a)) (pos (a - (b + suc n)))
    high true e h = let k : a < b + suc n = ltb-true _ _ e in let z : a - b < suc n = omega arith in rw (lt-ltb _ _ z) (ap negsuc (omega arith))
    high false e h = let k : b + suc n ≤ a = ltb-false _ _ e in let z : suc n ≤ a - b = omega arith in rw (le-ltb _ _ z) (ap pos (omega arith))

    by : (t : Bool) → ltb a b ≡ t → cond t (negsuc (b - suc a)) (pos (a - b)) +ℤ negsuc n ≡ sub_ℕ a (b + suc n)
    by true e = let k : a < b = ltb-true _ _ e in let z : a < b + suc n = omega arith in rw (lt-ltb _ _ z) (ap negsuc (omega arith))
    by false e = high (ltb a (b + suc n)) refl (ltb-false _ _ e)

pub sum_is : (s : Snoc Grams) → sum s ≡ sub_ℕ (forward s) (back s)
sum_is nil = refl
sum_is (s ▷ pos n) = rw (sum_is s) (sub-pos (forward s) (back s) n ∙ ap (sub_ℕ (forward s + n)) (omega arith))
sum_is (s ▷ negsuc n) = rw (sum_is s) (sub-neg (forward s) (back s) n ∙ ap (λ (k : ℕ). sub_ℕ k (back s + suc n)) (omega arith))

-- the sum's sign and magnitude
module _ (a b : ℕ) where
  pub below_sub : below (sub_ℕ a b) ≡ ltb a b
  below_sub = by (ltb a b)
    where
      by : (t : Bool) → below (cond t (negsuc (b - suc a)) (pos (a - b))) ≡ t
      by true = refl
      by false = refl

  pub magnitude-sub : magnitude (sub_ℕ a b) ≡ apart a b
  magnitude-sub = by (ltb a b) refl
    where
      by : (t : Bool) → ltb a b ≡ t → magnitude (cond t (negsuc (b - suc a)) (pos (a - b))) ≡ cond t (b - a) (a - b)
      by true e = let k : a < b = ltb-true _ _ e in omega arith
      by false e = refl

  pub apart-most : (m : ℕ) → a < m → b < m → apart a b < m
  apart-most m h k = by (ltb a b)
    where
      by : (t : Bool) → cond t (b - a) (a - b) < m
      by true = omega arith
      by false = omega arith

pub sum_below : (s : Snoc Grams) → below (sum s) ≡ ltb (forward s) (back s)
sum_below s = rw (sum_is s) (below_sub (forward s) (back s))

pub sum-magnitude : (s : Snoc Grams) → magnitude (sum s) ≡ apart (forward s) (back s)
sum-magnitude s = rw (sum_is s) (magnitude-sub (forward s) (back s))

-- sign and magnitude are the number again
pub signed_back : (z : Grams) → signed (below z) (magnitude z) ≡ z
signed_back (pos n) = refl
signed_back (negsuc n) = refl

pub same-grams : (a b : Grams) → T (same_grams a b) → a ≡ b
same-grams (pos a) (pos b) h = ap pos (eqb→eq a b h)
same-grams (pos a) (negsuc b) h = absurd h
same-grams (negsuc a) (pos b) h = absurd h
same-grams (negsuc a) (negsuc b) h = ap negsuc (eqb→eq a b h)
