-- Segments that stand in octets: printed there one after the other, and well-formed.
use Rattle.std.specs.Prelude.{ℕ, ◌+◌, ◌≡◌, List, ◌++◌, T, length, drop}
use Rattle.syntax.specs.Tree.{Segment, print, well}
use Rattle.syntax.specs.declared.Service.{Service}
use Rattle.grammar.specs.Lists.{Snoc, list}

-- the segments gs stand in the octets s from p up to e
pub record Row (σ : Service) (s : List ℕ) (p : ℕ) (gs : List Segment) (e : ℕ) : Type 0 where
  pub behind : List ℕ
  pub octets : drop p s ≡ print σ gs ++ behind
  pub written : T (well σ gs)
  pub end : e ≡ p + length (print σ gs)

-- the same for a list that grows at its end
pub record Stand (σ : Service) (s : List ℕ) (p : ℕ) (gs : Snoc Segment) : Type 0 where
  pub behind : List ℕ
  pub octets : drop p s ≡ print σ (list gs) ++ behind
  pub written : T (well σ (list gs))
