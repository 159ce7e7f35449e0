-- "Each number goes in groups of seven bits, lowest group first, the high bit set on all but the last, in the shortest form only"
use Rattle.std.specs.Prelude.{ℕ, zero, suc, ◌+◌, ◌-◌, ◌*◌, ◌/◌, ◌%◌, cond, List, [], ◌∷◌, leb, ltb, eqb, Option, Some, None}

-- ---- written

-- of n, at most k groups
unfoldable pub groups : ℕ → ℕ → List ℕ
groups zero n = []
groups (suc k) n = cond (ltb n 128) (n ∷ []) ((n % 128 + 128) ∷ groups k (n / 128))

-- ten groups hold every number below 2^64; that no other groups of n are shorter: `ShortestLaws.shortest-least`
abbrev pub shortest : ℕ → List ℕ
shortest n = groups 10 n

-- what groups stand for, overlong ones too
abbrev pub value_of : List ℕ → ℕ
value_of [] = 0
value_of (b ∷ s) = b % 128 + 128 * value_of s

-- ---- read, from place i on: the number and the place after it; Bad where it is cut, overlong or above the most

abbrev pub last : ℕ → ℕ → ℕ → Option (ℕ × ℕ)
last most b i = cond (leb b most) (Some (b, suc i)) None

-- the group g before a number: where that is zero, its group would be one too many
abbrev pub joined : ℕ → ℕ → Option (ℕ × ℕ) → Option (ℕ × ℕ)
joined most g None = None
joined most g (Some (v, q)) = cond (eqb v 0) None (cond (leb (v * 128 + g) most) (Some (v * 128 + g, q)) None)

-- at most k groups
unfoldable pub read_from : ℕ → ℕ → List ℕ → ℕ → Option (ℕ × ℕ)
read_from zero most s i = None
read_from (suc k) most [] i = None
read_from (suc k) most (b ∷ s) i = cond (ltb b 128) (last most b i) (joined most (b - 128) (read_from k most s (suc i)))
