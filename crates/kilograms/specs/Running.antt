-- The old sum as the code keeps it: a float, which is a whole number.
use Rattle.std.specs.Prelude.{◌≡◌, ℕ, ◌*◌, ◌≤◌, Float, Result, Option, Ok, Err, Some, None}
use Rattle.std.proofs.Math.Option.{Option as Maybe, none, some}
use Rattle.kilograms.specs.OldSum.{Old, tally, refused, limit, single}
use Rattle.kilograms.specs.SingleLaws.{Whole}
use Rattle.kilograms.specs.declared.Tally.{Tally}

-- the sum as single precision has it
abbrev pub running_as : Old → Result Tally ℕ
running_as (tally v n e) = Ok (record { sum = single v; loads = n; kilograms = e })
running_as (refused n) = Err n

abbrev pub load_as : Maybe ℕ → Option ℕ
load_as none = None
load_as (some x) = Some x

-- "each running sum is whole again": the float is the whole number, which is within the limit; and no load was above 100,000
abbrev pub Held : Old → Type 0
Held (tally v n e) = (v ≤ limit) × (Whole (single v) v × (e ≤ 100000 * n))
Held (refused n) = Unit {0}

abbrev pub loads_of : Old → ℕ
loads_of (tally v n e) = n
loads_of (refused n) = 0

-- what an addition asks of what it adds to, and of the load
pub record Runs (k : Result Tally ℕ) : Type 0 where
  pub old : Old
  pub held : Held old
  pub is : k ≡ running_as old
  pub few : loads_of old ≤ 65535

abbrev pub Weighs : Option ℕ → Type 0
Weighs (Some x) = x ≤ 100000
Weighs None = Unit {0}

-- a float that is a whole number within the limit
pub record Kilos (x : Float) : Type 0 where
  pub value : ℕ
  pub whole : Whole x value
  pub within : value ≤ limit
