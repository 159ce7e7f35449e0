-- Calls name a message by its 0062: the message of an interchange, and where it stands.
use Rattle.std.specs.Prelude.{ℕ, ◌+◌, cond, List}
use Rattle.std.proofs.Math.Option.{Option, none, some}
use Rattle.syntax.specs.Octets.{same}
use Rattle.syntax.specs.Refusals.{at_zero}
use Rattle.syntax.specs.declared.Service.{Service}
use Rattle.grammar.specs.Lists.{Snoc, nil, ◌▷◌, size}
use Rattle.grammar.specs.Grams.{sum}
use Rattle.grammar.specs.Interchange.{Leaf, Message, Reading, start, idle, busy, done, shown}
use Rattle.grammar.specs.Rules.{ref_m}
use Rattle.grammar.specs.Places.{wide}
use Rattle.grammar.specs.Verdict.{loads_m, Totals, totalled, refused_totals}

-- a message, and the place of its UNH
pub data Placed : Type 0 where
  placed : Message → ℕ → Placed

-- "Calls name a message by its 0062 .., as content." UNB u stands at p, and the messages behind it
abbrev pub placed_in : Service → ℕ → Leaf → Snoc Message → List ℕ → Option Placed
placed_in σ p u nil r = none
placed_in σ p u (ms ▷ m) r = cond (same (ref_m m) r) (some (placed m (p + wide σ (shown (idle u ms))))) (placed_in σ p u ms r)

-- in what was read so far
abbrev pub placed_at : Service → ℕ → Reading → List ℕ → Option Placed
placed_at σ p start r = none
placed_at σ p (idle u ms) r = placed_in σ p u ms r
placed_at σ p (busy u ms o) r = placed_in σ p u ms r
placed_at σ p (done u ms z) r = placed_in σ p u ms r

-- its loads and their grams; 13: "no such message", at 0
abbrev pub totals_at : Option Placed → Totals
totals_at none = refused_totals (at_zero 13)
totals_at (some (placed m q)) = totalled (size (loads_m m)) (sum (loads_m m))
