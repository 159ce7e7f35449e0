-- The loads as the code reads them off the segments that stand in octets.
use Rattle.kilograms.specs.declared.Tally.{Tally}
use Rattle.std.specs.Prelude.{ℕ, Bool, true, false, cond, ◌&&◌, List, [], ◌∷◌, ◌≡◌, Option, Result, Some, None}
use Rattle.std.proofs.Math.Option.{Option as Maybe, none, some}
use Rattle.syntax.specs.Octets.{octets, same}
use Rattle.syntax.specs.Tree.{Segment}
use Rattle.grammar.specs.Segments.{Asked, asked}
use Rattle.grammar.specs.Loads.{Shape, amount_right, grams, amount, three_part, load_shape}
use Rattle.kilograms.specs.OldSum.{Old, kilograms_in, added}
use Rattle.kilograms.specs.Running.{running_as, load_as, Held, loads_of}
use Rattle.returns.specs.Returns.{kilograms_of}

-- QTY of one element with three components
abbrev pub three_parted : Asked → Bool
three_parted a = same a.tag (octets "QTY") && three_part a

-- an amount as a load: one that is not written right is no whole kilograms. In an accepted interchange there is none
abbrev pub weighed_by : Option (ℕ × Bool) → Option ℕ
weighed_by (Some (n, false)) = load_as (kilograms_in n)
weighed_by (Some (n, true)) = None
weighed_by None = None

-- the kilograms of a segment that is a load
abbrev pub read_by : Maybe Shape → List ℕ → Maybe (Maybe ℕ)
read_by none s = none
read_by (some u) s = some (cond (amount_right u s) (kilograms_of (grams u s)) none)

abbrev pub read_in : Asked → Maybe (Maybe ℕ)
read_in a = read_by (load_shape a) (amount a)

abbrev pub read_as : Maybe (Maybe ℕ) → Option (Option ℕ)
read_as none = None
read_as (some x) = Some (load_as x)

-- one segment more, and many
abbrev pub added_by : Old → Maybe (Maybe ℕ) → Old
added_by k none = k
added_by k (some x) = added k x

abbrev pub added_from : Old → List Segment → Old
added_from k [] = k
added_from k (g ∷ gs) = added_from (added_by k (read_in (asked g))) gs

-- what a walk starts with: a sum handed in, and no load yet
pub record Starts (k : Result Tally ℕ) : Type 0 where
  pub old : Old
  pub held : Held old
  pub is : k ≡ running_as old
  pub none_yet : loads_of old ≡ 0
