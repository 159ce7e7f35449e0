-- "in the shortest form only": the groups of n stand for n, and none that do are fewer.
use Rattle.std.specs.Prelude.{ℕ, zero, suc, ◌/◌, ◌≤◌, ◌<◌, List, [], ◌∷◌, ◌≡◌, refl, length}
use Rattle.std.proofs.Common.{arith, ap, ◌∙◌}
use Rattle.seven.specs.Groups.{groups, shortest, value_of}
use Rattle.seven.specs.TripLaws.{cap, Split, small, large, split, groups-last, groups-more}

groups-value : (k n : ℕ) → n < cap k → value_of (groups (suc k) n) ≡ n
groups-value zero n h = ap value_of (groups-last zero n h) ∙ omega arith
groups-value (suc k) n h = by (split n) (groups-value k (n / 128) (omega arith))
  where
    by : Split n → value_of (groups (suc k) (n / 128)) ≡ n / 128 → value_of (groups (suc (suc k)) n) ≡ n
    by (small l) ih = ap value_of (groups-last (suc k) n l) ∙ omega arith
    by (large l) ih = ap value_of (groups-more (suc k) n l) ∙ omega (arith, ih)

pub shortest-value : (n : ℕ) → n < 18446744073709551616 → value_of (shortest n) ≡ n
shortest-value n h = groups-value 9 n (omega arith)

groups-least : (k n b : ℕ) (s : List ℕ) → value_of (b ∷ s) ≡ n → length (groups k n) ≤ suc (length s)
unfolding groups
groups-least zero n b s e = omega arith
groups-least (suc k) n b [] e = by (split n)
  where
    by : Split n → length (groups (suc k) n) ≤ 1
    by (small l) = omega (arith, ap length (groups-last k n l))
    by (large l) = absurd (omega (arith, e, l))
groups-least (suc k) n b (c ∷ s) e = by (split n) (groups-least k (n / 128) c s (omega (arith, e)))
  where
    by : Split n → length (groups k (n / 128)) ≤ suc (length s) → length (groups (suc k) n) ≤ suc (suc (length s))
    by (small l) ih = omega (arith, ap length (groups-last k n l))
    by (large l) ih = omega (arith, ap length (groups-more k n l), ih)

-- of all groups that stand for one number, at least one group, these are the fewest
pub shortest-least : (s : List ℕ) → 0 < length s → length (shortest (value_of s)) ≤ length s
shortest-least [] h = absurd (omega (arith, h))
shortest-least (b ∷ s) h = groups-least 10 (value_of (b ∷ s)) b s refl
