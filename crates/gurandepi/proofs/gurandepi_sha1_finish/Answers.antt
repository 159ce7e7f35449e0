use Prim.Native.Nat.{ℕ}
use mathlib.Core.Path.{ap, ◌∙◌}
use mathlib.Core.List.{List, ◌∷◌}
use Rattle.sha.specs.declared.Sha.{Sha}
use Rattle.sha.specs.Feeding.{finished_of}
use borrow.Author.Rules.{rules}
use Rattle.gurandepi.proofs.gurandepi_sha1_finish.Goals as goal

pub returns : goal.returns
returns c = ap (λ (u : List ℕ). 0 ∷ 0 ∷ 0 ∷ u) (c.finish-d.ensures ∙ ap finished_of c.into.ensures)
