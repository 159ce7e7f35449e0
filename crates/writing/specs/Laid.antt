-- A text laid into a lent buffer, and a text that is made of pieces.
use Rattle.std.specs.Prelude.{ℕ, ◌+◌, List, [], ◌∷◌, ◌++◌, ◌≡◌, length}
use Rattle.std.proofs.lemmas.List.Edits.{sets}

-- the promise of every writer: `r` is the place after the text, which stands in the buffer from `at` on as far as there is room
pub record Laid (out : List ℕ) (at : ℕ) (text : List ℕ) (r : ℕ) (out' : List ℕ) : Type 0 where
  pub place : r ≡ at + length text
  pub octets : out' ≡ sets out at text

-- pieces one after the other
abbrev pub together : List (List ℕ) → List ℕ
together [] = []
together (p ∷ ps) = p ++ together ps
