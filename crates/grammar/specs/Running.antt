-- A run over segments, with no places: each segment is placed, and the rules hold of the result.
use Rattle.std.specs.Prelude.{List, [], ◌∷◌, ◌≡◌}
use Rattle.std.proofs.Math.Option.{Option, some}
use Rattle.syntax.specs.Tree.{Segment}
use Rattle.syntax.specs.declared.Syntax.{Syntax}
use Rattle.grammar.specs.Lists.{holds}
use Rattle.grammar.specs.Interchange.{Reading}
use Rattle.grammar.specs.Rules.{inside_s, inside, order, formed_s, well_formed, subsets, refs, counts, scopes, amount_s, amounts}
use Rattle.grammar.specs.Placing.{place}

-- the segment g takes the reading x to z, and every test is passed
pub record Passed (y : Syntax) (x : Reading) (g : Segment) (z : Reading) : Type 0 where
  pub placed : place x g ≡ some z
  pub three : holds (inside_s y g)
  pub seven : holds (order z)
  pub eight : holds (formed_s y g)
  pub in_subset : holds (subsets z)
  pub nine : holds (refs z)
  pub ten : holds (counts y.version z)
  pub eleven : holds (scopes z)
  pub twelve : holds (amount_s g)

pub data Runs (y : Syntax) : Reading → List Segment → Reading → Type 0 where
  stay : {x : Reading} → Runs y x [] x
  go : {x z w : Reading} {g : Segment} {gs : List Segment} → Passed y x g z → Runs y z gs w → Runs y x (g ∷ gs) w

-- a reading of which every rule holds
pub record Good (y : Syntax) (x : Reading) : Type 0 where
  pub three : holds (inside y x)
  pub seven : holds (order x)
  pub eight : holds (well_formed y x)
  pub in_subset : holds (subsets x)
  pub nine : holds (refs x)
  pub ten : holds (counts y.version x)
  pub eleven : holds (scopes x)
  pub twelve : holds (amounts x)
