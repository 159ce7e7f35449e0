-- The octets of content from i of x on, some at a time.
use Rattle.std.specs.Prelude.{ℕ, ◌+◌, ◌≤◌, ◌<◌, List, [], ◌++◌, ◌≡◌, length, drop}
use Rattle.syntax.specs.Content.{content}
use Rattle.filters.specs.declared.pieces.Piece.{Piece}
use Rattle.filters.specs.declared.pieces.Piece.TheVariants.{Of, Short, Over}

-- the content from i is these octets and the content from j
pub record Taken (ρ : ℕ) (x : List ℕ) (i : ℕ) (t : List ℕ) (j : ℕ) : Type 0 where
  pub gives : content ρ (drop i x) ≡ t ++ content ρ (drop j x)
  pub forward : i + length t ≤ j
  pub inside : j ≤ length x

-- fewer than n are left, and not none
pub record Few (ρ : ℕ) (x : List ℕ) (i n : ℕ) : Type 0 where
  pub some : 0 < length (content ρ (drop i x))
  pub few : length (content ρ (drop i x)) < n

abbrev pub PieceBy : (n : ℕ) → ℕ → List ℕ → ℕ → Piece n → Type 0
PieceBy n ρ x i (Of t j) = Taken ρ x i t j × (length t ≡ n)
PieceBy n ρ x i Short = Few ρ x i n
PieceBy n ρ x i Over = content ρ (drop i x) ≡ []

-- n at a time
pub record PieceAt (n : ℕ) (ρ : ℕ) (x : List ℕ) (i : ℕ) (r : Piece n) : Type 0 where
  pub is : PieceBy n ρ x i r
