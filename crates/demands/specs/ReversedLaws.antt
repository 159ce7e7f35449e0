-- A minus before an amount.
use Rattle.std.specs.Prelude.{ℕ, Bool, true, false, cond, List, [], ◌∷◌, ◌++◌, ◌≡◌, refl, eqb, neg_ℤ}
use Rattle.std.proofs.Common.{sym, ap, ◌∙◌}
use Rattle.syntax.specs.Octets.{octets}
use Rattle.grammar.specs.Grams.{Grams, no_grams, signed}
use Rattle.grammar.specs.Loads.{Shape, reversed, unsigned, weight, amount_right, grams}

bare : (s : List ℕ) → reversed s ≡ false → unsigned s ≡ s
bare [] h = refl
bare (b ∷ s) h = rw h

pub minus-reverses : (u : Shape) (s : List ℕ) → reversed s ≡ false → (amount_right u (octets "-" ++ s) ≡ amount_right u s) × ((grams u (octets "-" ++ s) ≡ neg_ℤ (grams u s)) × (grams u s ≡ no_grams → grams u (octets "-" ++ s) ≡ no_grams))
minus-reverses u s h = (rw (bare s h), (turned, λ z. turned ∙ ap neg_ℤ z))
  where
    turned : grams u (octets "-" ++ s) ≡ neg_ℤ (grams u s)
    turned = rw (h, bare s h)
