-- The code's side of a block: one round by what the loops hold, and what each loop keeps.
use Rattle.std.specs.Prelude.{◌≡◌, ℕ, ◌+◌, ◌-◌, ◌<◌, ◌≤◌, List, length, take}
use Rattle.sha.specs.declared.Chain.{Chain}
use Rattle.sha.specs.Sha.{mixed, constant, plus, rotl, words, schedule}

-- a round whose function gives f, with the constant k and the word w
unfoldable pub round_by : ℕ → ℕ → ℕ → Chain → Chain
round_by f k w s = record {
  a = plus (plus (plus (plus (rotl 5 s.a) f) s.e) k) w;
  b = s.a;
  c = rotl 30 s.b;
  d = s.c;
  e = s.d;
}

-- the first i words of the block s stand in w
pub record Loading (s w : List ℕ) (i : ℕ) : Type 0 where
  pub filled : take i w ≡ words i s
  pub size : length w ≡ 80
  pub most : i ≤ 16

-- the schedule of the words m stands in w up to t
pub record Spreading (m w : List ℕ) (t : ℕ) : Type 0 where
  pub filled : take t w ≡ schedule (t - 16) m
  pub size : length w ≡ 80
  pub least : 16 ≤ t
  pub most : t ≤ 80

-- for n rounds from t on the page's function is what `gives` says, and its constant is k
pub record IsStretch (gives : ℕ → ℕ → ℕ → ℕ → Type 0) (k t n : ℕ) : Type 0 where
  pub mixes : (i x y z r : ℕ) → t ≤ i → i < t + n → gives x y z r → r ≡ mixed i x y z
  pub constants : (i : ℕ) → t ≤ i → i < t + n → k ≡ constant i
