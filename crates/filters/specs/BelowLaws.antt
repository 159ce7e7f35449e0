-- A test of each number below n, by computation.
use Rattle.std.specs.Prelude.{ℕ, zero, suc, ◌<◌, ◌≡◌, refl, Bool, true, false, ◌&&◌, T, eqb}
use Rattle.std.proofs.Common.{arith, eqb-true}
use Rattle.std.proofs.lemmas.Bool.{eqb-false}
use Rattle.syntax.proofs.TreeLaws.{and_left, and_right}

abbrev pub below : (ℕ → Bool) → ℕ → Bool
below p zero = true
below p (suc n) = p n && below p n

-- what passes below n passes at each k below n
pub at_each : (p : ℕ → Bool) (n : ℕ) → T (below p n) → (k : ℕ) → k < n → T (p k)
at_each p zero t k h = absurd (omega arith)
at_each p (suc n) t k h = by (eqb k n) refl (at_each p n (and_right (p n) (below p n) t) k)
  where
    by : (b : Bool) → eqb k n ≡ b → (k < n → T (p k)) → T (p k)
    by true e f = rw (eqb-true k n e) (and_left (p n) (below p n) t)
    by false e f = f (let d = eqb-false k n e in omega arith)
