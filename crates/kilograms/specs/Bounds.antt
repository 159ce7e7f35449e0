-- How far the old sum is off: at most 32 kg for each load, and 16 kg for each load of 30,000 kg from 268,435,456 kg on.
use Rattle.std.specs.Prelude.{ℕ, zero, suc, ◌+◌, ◌*◌, ◌≤◌, List, [], ◌∷◌}
use Rattle.std.proofs.Math.Option.{Option, none, some}
use Rattle.kilograms.specs.OldSum.{limit}

-- the exact kilograms of loads
abbrev pub weight : Option ℕ → ℕ
weight none = 0
weight (some x) = x

abbrev pub exactly : List (Option ℕ) → ℕ
exactly [] = 0
exactly (x ∷ l) = weight x + exactly l

-- "what a file adds to the old sum differs from its exact kilograms by at most 32 for each load": from the sum v, n loads of e kilograms gave w
pub record Bounded (v w n e : ℕ) : Type 0 where
  pub above : w ≤ v + e + 32 * n
  pub below : v + e ≤ w + 32 * n
  -- "each running sum .. is a whole number from 0 to 1,073,741,824"
  pub within : w ≤ limit

-- a batch: n loads of x kilograms each
unfoldable pub batch_of : ℕ → ℕ → List (Option ℕ)
batch_of zero x = []
batch_of (suc n) x = some x ∷ batch_of n x
