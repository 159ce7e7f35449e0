-- A plain list put behind a list that grows at the end.
use Rattle.std.proofs.lemmas.Bool.{false≢true}
use Rattle.std.specs.Prelude.{List, [], ◌∷◌, ◌++◌, ◌≡◌}
use Rattle.std.proofs.Common.{append_assoc, append-nil, ap, ◌∙◌, sym}
use Rattle.grammar.specs.Lists.{Snoc, nil, ◌▷◌, any, list}

abbrev pub onto : {A : Type 0} → Snoc A → List A → Snoc A
onto s [] = s
onto s (a ∷ l) = onto (s ▷ a) l

-- as a plain list it stands behind
pub list-onto : {A : Type 0} (s : Snoc A) (l : List A) → list (onto s l) ≡ list s ++ l
list-onto s [] = sym (append-nil (list s))
list-onto s (a ∷ l) = list-onto (s ▷ a) l ∙ append_assoc (list s) (a ∷ []) l

-- a list with a last thing is not empty
pub not-nil : {A : Type 0} (s : Snoc A) (a : A) → (nil ≡ s ▷ a) → ⊥
not-nil s a e = false≢true (ap any e)
