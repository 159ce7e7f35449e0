-- Six-bit digits taken as fours, and the last group by its number.
use Rattle.std.specs.Prelude.{Bool, List, None, Option, Some, T, [], cond, drop, eqb, false, length, ltb, refl, true, ℕ, ◌<◌, ◌∷◌, ◌≡◌, ◌≤◌}
use Rattle.std.proofs.Common.{arith, eqb→eq, ltb-false, ne_eqb, ◌∙◌}
use Rattle.filters.specs.BelowLaws.{at_each}
use Rattle.filters.specs.Six.{bits_of, first_of, group_of, last_group, second_of, six_value, size_of, third_of}
use Rattle.syntax.specs.Content.{content}
use Rattle.writing.specs.Laid.{Laid}
use Rattle.filters.specs.SixLaws.{Sized, sized}
use Rattle.filters.specs.Pieces.{Taken}
use Rattle.filters.specs.declared.pieces.Piece.{Piece}
use Rattle.filters.specs.declared.pieces.Piece.TheVariants.{Of}
use Rattle.earlier.specs.Pieces.{FourAt}
use Rattle.filters.specs.Decoding.{Decodes}
use Rattle.filters.specs.OddLaws.{decodes-bad}
use Rattle.filters.specs.DecodingLaws.{decodes-laid, decoding-laid, decoding-same}
use Rattle.filters.specs.SixLoopLaws.{Sixing}

pad-low : (c : ℕ) → c < 123 → T (cond (eqb (bits_of c) 65) (eqb c 61) true)
pad-low c h = at_each (λ k. cond (eqb (bits_of k) 65) (eqb k 61) true) 123 tt c h

pad-is : (c : ℕ) → bits_of c ≡ 65 → c ≡ 61
pad-is c h = by (ltb 122 c) refl
  where
    by : (b : Bool) → ltb 122 c ≡ b → c ≡ 61
    by true e = let z : bits_of c ≡ 64 = rw e in absurd (omega arith)
    by false e = let t = pad-low c (omega (arith, ltb-false 122 c e)) in eqb→eq _ _ (rw h at t)

pub record Low (p q r s k : ℕ) : Type 0 where
  pub first : 1 ≤ k → (p < 64) × (q < 64)
  pub third : 2 ≤ k → r < 64
  pub fourth : 3 ≤ k → s < 64

low_of : {p q r s k : ℕ} → Sized p q r s k → Low p q r s k
low_of Sized.bad = record { first = λ h. absurd (omega arith); third = λ h. absurd (omega arith); fourth = λ h. absurd (omega arith) }
low_of (Sized.three a b c d) = record { first = λ h. (a, b); third = λ h. c; fourth = λ h. d }
low_of (Sized.two a b c d e) = record { first = λ h. (a, b); third = λ h. c; fourth = λ h. absurd (omega arith) }
low_of (Sized.one a b c d e) = record { first = λ h. (a, b); third = λ h. absurd (omega arith); fourth = λ h. absurd (omega arith) }

pub low-size : (p q r s : ℕ) {k : ℕ} → k ≡ size_of p q r s → Low p q r s k
low-size p q r s e = rw e (low_of (sized p q r s))

module _ (p q r s : ℕ) {k : ℕ} {l : Bool} {n : ℕ} {out o : List ℕ} (e : k ≡ size_of p q r s) where
  pub last_inner : l ≡ false → Decodes (last_group (size_of p q r s) l p q r) out n None o
  last_inner z = rw z decodes-bad

  module _ (z : l ≡ true) where
    pub last-bad : (k ≡ 2 → ⊥) → (k ≡ 1 → ⊥) → Decodes (last_group (size_of p q r s) l p q r) out n None o
    last-bad u v = rw (← e, z, ne_eqb _ _ u, ne_eqb _ _ v) decodes-bad

    module _ {a m : ℕ} (u : a ≡ first_of p q) where
      pub last_one : k ≡ 1 → Laid out n (a ∷ []) m o → Decodes (last_group (size_of p q r s) l p q r) out n (Some m) o
      last_one v g = rw (← e, z, v, ← u) (decodes-laid g)

      pub last-two : {b : ℕ} → k ≡ 2 → b ≡ second_of q r → Laid out n (a ∷ b ∷ []) m o → Decodes (last_group (size_of p q r s) l p q r) out n (Some m) o
      last-two v w g = rw (← e, z, v, ← u, ← w) (decodes-laid g)

module _ {ρ : ℕ} {x out₀ : List ℕ} {i n : ℕ} {out : List ℕ} (g : Sixing ρ x out₀ i n out) {f : Piece 4} (h : FourAt ρ x i f) where
  module _ {a b c d j : ℕ} (e : f ≡ Of (a ∷ b ∷ c ∷ d ∷ []) j) where
    four : Taken ρ x i (a ∷ b ∷ c ∷ d ∷ []) j
    four = let u : Taken ρ x i (a ∷ b ∷ c ∷ d ∷ []) j × (length (a ∷ b ∷ c ∷ d ∷ []) ≡ 4) = rw e at h.is in u.0

    module _ {p q r s k : ℕ} (ep : p ≡ bits_of a) (eq : q ≡ bits_of b) (er : r ≡ bits_of c) (es : s ≡ bits_of d) (ek : k ≡ size_of p q r s) where
      seen : six_value (content ρ (drop i x)) ≡ group_of k (eqb (length (content ρ (drop j x))) 0) p q r s (six_value (content ρ (drop j x)))
      seen = rw (four.gives, ek, ep, eq, er, es)

      pub sixing-last : {l : Bool} {o : Option ℕ} {out' : List ℕ} → (k ≡ 3 → ⊥) → l ≡ eqb (length (content ρ (drop j x))) 0
          → Decodes (last_group (size_of p q r s) l p q r) out n o out' → Decodes (six_value (content ρ x)) out₀ 0 o out'
      sixing-last {l} z v w = (decoding-same {y = last_group (size_of p q r s) l p q r} g.going (seen ∙ rw (ne_eqb _ _ z, ← v, ek))).on _ _ w

      pub sixing-on : {u v w m : ℕ} {out' : List ℕ} → k ≡ 3 → u ≡ first_of p q → v ≡ second_of q r → w ≡ third_of r s → Laid out n (u ∷ v ∷ w ∷ []) m out' → Sixing ρ x out₀ j m out'
      sixing-on z eu ev ew l =
          let y = four in
          record { few = omega (arith, g.few, l.place); going = decoding-laid g.going (seen ∙ rw (z, eu, ev, ew)) l }
