-- A number of groups of seven bits, joined step by step.
use Prim.Native.Nat.{suc, zero, ℕ, ◌*◌, ◌+◌, ◌-◌, ◌/◌, ◌<◌, ◌≤◌}
use native.Mathlib.Omega.{arith}
use Rattle.std.specs.Prelude.{List, None, Option, Some, [], length, refl, set, ◌∷◌, ◌≡◌}
use Rattle.std.proofs.Math.Path.{ap}
use Rattle.std.proofs.Common.{length-set, subst, ◌∙◌}
use borrow.Author.Tests.{le-leb, lt-leb, ne_eqb}
use Rattle.seven.specs.Groups.{groups, joined, shortest}
use Rattle.writing.specs.Laid.{Laid}
use Rattle.writing.specs.LaidLaws.{rest-same, rest_end, rest_put}
use Rattle.seven.specs.TripLaws.{Split, cap, groups-last, groups-more, large, small, split}
use Rattle.seven.specs.WriteLaws.{Writing, shortest-few}

module _ {most g v q : ℕ} {x : Option (ℕ × ℕ)} (given : x ≡ Some (v, q)) (z : v ≡ 0 → ⊥) where
  pub join-large : most < g → None ≡ joined most g x
  join-large h = rw (given, ne_eqb v 0 z, lt-leb (v * 128 + g) most (omega arith))

  pub join-fits : g ≤ most → v ≤ (most - g) / 128 → Some (v * 128 + g, q) ≡ joined most g x
  join-fits h l = rw (given, ne_eqb v 0 z, le-leb (v * 128 + g) most (omega arith))

  pub join-over : g ≤ most → (most - g) / 128 < v → None ≡ joined most g x
  join-over h l = rw (given, ne_eqb v 0 z, lt-leb (v * 128 + g) most (omega arith))

groups-some : (k n : ℕ) → 1 ≤ length (groups (suc k) n)
groups-some k n = by (split n)
  where
    by : Split n → 1 ≤ length (groups (suc k) n)
    by (small l) = omega (arith, ap length (groups-last k n l))
    by (large l) = omega (arith, ap length (groups-more k n l))

-- one group is left, or more than one
one_left : (k x : ℕ) → length (groups (suc k) x) ≤ 1 → x < cap k → x < 128
one_left k x h c = by k c h (split x)
  where
    by : (k : ℕ) → x < cap k → length (groups (suc k) x) ≤ 1 → Split x → x < 128
    by k c h (small l) = l
    by zero c h (large l) = c
    by (suc k) c h (large l) = absurd (omega (arith, h, ap length (groups-more (suc k) x l), groups-some k (x / 128)))

module _ {out₀ out : List ℕ} {at n end x i : ℕ} (g : Writing out₀ at n end out x i) where
  left : i + length (groups (suc g.fuel) x) ≡ end + 1
  left = omega (arith, g.going.place, g.ends)

  -- the last group stands at the end
  pub writing-last : end ≤ i → (i ≡ end) × (x < 128)
  writing-last k = (omega (arith, left, k, groups-some g.fuel x), one_left g.fuel x (omega (arith, left, k)) g.below)

  pub writing-end : {out' : List ℕ} → end ≤ i → out' ≡ set out i x → (length out' ≡ length out₀) × Laid out₀ at (shortest n) (end + 1) out' × (end + 1 ≤ at + 10)
  writing-end {out'} k q =
      let w = writing-last k in
      let m : groups (suc g.fuel) x ≡ x ∷ [] = groups-last g.fuel x w.1 in
      let l : Laid out₀ at (shortest n) (i + 1) out' = rest_end (rest_put (rest-same g.going m) refl q) in
      (ap length q ∙ length-set out i x ∙ g.same, subst (λ (j : ℕ). Laid out₀ at (shortest n) (j + 1) out') w.0 l, omega (arith, g.ends, shortest-few n))
