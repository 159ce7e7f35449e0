-- A text that may be bad is read into a buffer; octets beyond its room are dropped.
use Rattle.std.specs.Prelude.{ℕ, ◌+◌, List, ◌≡◌, length, Option, Some, None}
use Rattle.std.proofs.Math.Option.{Option as Maybe, none, some}
use Rattle.std.proofs.lemmas.List.Edits.{sets}

-- the answer r and the octets out' are right for a value that is to be laid into out from n on
abbrev pub DecodesBy : Maybe (List ℕ) → List ℕ → ℕ → Option ℕ → List ℕ → Type 0
DecodesBy none out n r out' = r ≡ None
DecodesBy (some v) out n r out' = (r ≡ Some (n + length v)) × (out' ≡ sets out n v)

pub record Decodes (x : Maybe (List ℕ)) (out : List ℕ) (n : ℕ) (r : Option ℕ) (out' : List ℕ) : Type 0 where
  pub is : DecodesBy x out n r out'
