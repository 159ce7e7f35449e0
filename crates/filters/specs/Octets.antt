-- Values: octets, and the value of a text by its parts.
use Rattle.std.specs.Prelude.{ℕ, ◌<◌, List, [], ◌∷◌, ◌++◌}
use Rattle.std.proofs.Math.Option.{Option, none, some}

abbrev pub Octets : List ℕ → Type 0
Octets [] = Unit {0}
Octets (x ∷ v) = (x < 256) × Octets v

-- octets before the value of the rest of a text; `none`: the text has no value
abbrev pub before : List ℕ → Option (List ℕ) → Option (List ℕ)
before p none = none
before p (some v) = some (p ++ v)
