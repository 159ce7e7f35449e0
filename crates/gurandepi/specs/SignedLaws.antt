-- A magnitude below 2^63, behind a minus or not, as a signed number of 64 bits.
use Rattle.std.specs.Prelude.{ℕ, zero, suc, ◌<◌, ◌≡◌, Bool, true, false, ℤ, pos, negsuc, neg_ℤ, ◌-ℤ◌}
use Rattle.std.proofs.Common.{arith, ap, sym, ◌∙◌, subst, to_z, of_z, SFits}
use Rattle.std.proofs.Math.IntN.{+ℤ_idl}
use Rattle.std.specs.Int.{w64}
use Rattle.std.proofs.lemmas.Int.{to_z-of_z}
use Rattle.grammar.specs.Grams.{signed}

module _ (g : ℕ) (h : g < 9223372036854775808) where
  read_back : to_z w64 g ≡ pos g
  read_back = to_z-of_z w64 (pos g) (record { sfits = h })

  down : (k : ℕ) → k < 9223372036854775808 → SFits w64 (neg_ℤ (pos k))
  down zero l = record { sfits = omega arith }
  down (suc k) l = record { sfits = omega arith }

  minus_is : pos 0 -ℤ to_z w64 g ≡ neg_ℤ (pos g)
  minus_is = ap (λ (z : ℤ). pos 0 -ℤ z) read_back ∙ +ℤ_idl (neg_ℤ (pos g))

  pub minus-fits : SFits w64 (pos 0 -ℤ to_z w64 g)
  minus-fits = subst (SFits w64) (sym minus_is) (down g h)

  pub minus-reads : {b : Bool} → b ≡ true → to_z w64 (of_z w64 (pos 0 -ℤ to_z w64 g)) ≡ signed b g
  minus-reads e = to_z-of_z w64 (pos 0 -ℤ to_z w64 g) minus-fits ∙ minus_is ∙ rw e

  pub plus-reads : {b : Bool} → b ≡ false → to_z w64 g ≡ signed b g
  plus-reads e = read_back ∙ rw e

  signed-fits : (b : Bool) → SFits w64 (signed b g)
  signed-fits true = down g h
  signed-fits false = record { sfits = h }

  -- it is kept in a field of 64 bits
  pub signed-kept : (b : Bool) {z : ℤ} → z ≡ signed b g → to_z w64 (of_z w64 z) ≡ signed b g
  signed-kept b e = ap (λ (z : ℤ). to_z w64 (of_z w64 z)) e ∙ to_z-of_z w64 (signed b g) (signed-fits b)
