-- The loop of `write`: what is left of n is x, whose groups go from i on.
use Rattle.std.specs.Prelude.{ℕ, zero, suc, ◌+◌, ◌/◌, ◌%◌, ◌≤◌, ◌<◌, Bool, true, false, cond, List, [], ◌∷◌, ◌≡◌, refl, ltb, length, set}
use Rattle.std.proofs.Common.{arith, ap, sym, ◌∙◌, subst, length-set}
use Rattle.writing.specs.Laid.{Laid}
use Rattle.writing.specs.LaidLaws.{Rest, rest-start, rest-same, rest_put, rest_end}
use Rattle.seven.specs.Groups.{groups, shortest}
use Rattle.seven.specs.TripLaws.{cap, Split, small, large, split, groups-last, groups-more}

groups-few : (k n : ℕ) → length (groups k n) ≤ k
unfolding groups
groups-few zero n = omega arith
groups-few (suc k) n = pick (ltb n 128) (groups-few k (n / 128))
  where
    pick : (b : Bool) → length (groups k (n / 128)) ≤ k → length (cond b (n ∷ []) ((n % 128 + 128) ∷ groups k (n / 128))) ≤ suc k
    pick true h = omega arith
    pick false h = omega arith

-- "the shortest form": at most ten groups
pub shortest-few : (n : ℕ) → length (shortest n) ≤ 10
shortest-few n = groups-few 10 n

groups-some : (k n : ℕ) → 1 ≤ length (groups (suc k) n)
groups-some k n = by (split n)
  where
    by : Split n → 1 ≤ length (groups (suc k) n)
    by (small l) = omega (arith, ap length (groups-last k n l))
    by (large l) = omega (arith, ap length (groups-more k n l))

pub shortest-some : (n : ℕ) → 1 ≤ length (shortest n)
shortest-some n = groups-some 9 n

-- one group is left, or more than one
one_left : (k x : ℕ) → length (groups (suc k) x) ≤ 1 → x < cap k → x < 128
one_left k x h c = by k c h (split x)
  where
    by : (k : ℕ) → x < cap k → length (groups (suc k) x) ≤ 1 → Split x → x < 128
    by k c h (small l) = l
    by zero c h (large l) = c
    by (suc k) c h (large l) = absurd (omega (arith, h, ap length (groups-more (suc k) x l), groups-some k (x / 128)))

more_left : (k x : ℕ) → 1 < length (groups (suc k) x) → 128 ≤ x
more_left k x h = by (split x)
  where
    by : Split x → 128 ≤ x
    by (small l) = absurd (omega (arith, h, ap length (groups-last k x l)))
    by (large l) = l

pub record Writing (out₀ : List ℕ) (at n end : ℕ) (out : List ℕ) (x i : ℕ) : Type 0 where
  pub fuel : ℕ
  pub below : x < cap fuel
  pub going : Rest out₀ at (shortest n) (groups (suc fuel) x) out i
  pub ends : end + 1 ≡ at + length (shortest n)
  pub same : length out ≡ length out₀

pub writing_start : {out : List ℕ} {at n end : ℕ} → n < 18446744073709551616 → end + 1 ≡ at + length (shortest n) → Writing out at n end out n at
writing_start h e = record { fuel = 9; below = omega arith; going = rest-start; ends = e; same = refl }

module _ {out₀ out : List ℕ} {at n end x i : ℕ} (g : Writing out₀ at n end out x i) where
  left : i + length (groups (suc g.fuel) x) ≡ end + 1
  left = omega (arith, g.going.place, g.ends)

  pub writing-on : {out' : List ℕ} → i < end → out' ≡ set out i (x % 128 + 128) → Writing out₀ at n end out' (x / 128) (i + 1)
  writing-on {out'} k q = go g.fuel g.below g.going (more_left g.fuel x (omega (arith, left, k)))
    where
      go : (f : ℕ) → x < cap f → Rest out₀ at (shortest n) (groups (suc f) x) out i → 128 ≤ x → Writing out₀ at n end out' (x / 128) (i + 1)
      go zero s e h = absurd (omega arith)
      go (suc f) s e h = record {
        fuel = f;
        below = omega arith;
        going = rest_put (rest-same e (groups-more (suc f) x h)) refl q;
        ends = g.ends;
        same = ap length q ∙ length-set out i (x % 128 + 128) ∙ g.same;
      }

  -- the last group stands at the end
  pub writing-last : end ≤ i → (i ≡ end) × (x < 128)
  writing-last k = (omega (arith, left, k, groups-some g.fuel x), one_left g.fuel x (omega (arith, left, k)) g.below)

  pub writing-end : {out' : List ℕ} → end ≤ i → out' ≡ set out end x → (length out' ≡ length out₀) × Laid out₀ at (shortest n) (end + 1) out' × (end + 1 ≤ at + 10)
  writing-end {out'} k p =
      let w = writing-last k in
      let q : out' ≡ set out i x = p ∙ ap (λ (j : ℕ). set out j x) (sym w.0) in
      let m : groups (suc g.fuel) x ≡ x ∷ [] = groups-last g.fuel x w.1 in
      let l : Laid out₀ at (shortest n) (i + 1) out' = rest_end (rest_put (rest-same g.going m) refl q) in
      (ap length q ∙ length-set out i x ∙ g.same, subst (λ (j : ℕ). Laid out₀ at (shortest n) (j + 1) out') w.0 l, omega (arith, g.ends, shortest-few n))
