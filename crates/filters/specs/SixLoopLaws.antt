-- The loop that reads base 64: n octets are laid, and the content from i on is left.
use Rattle.std.specs.Prelude.{ℕ, ◌+◌, ◌-◌, ◌%◌, ◌≤◌, ◌<◌, List, [], ◌∷◌, ◌≡◌, refl, Bool, true, false, cond, eqb, length, get_or, drop, Option, Some, None}
use Rattle.std.proofs.Common.{arith, ap, subst, sym, ◌∙◌, lt-ltb, le-ltb}
use Rattle.std.proofs.Math.Option.{Option as Maybe, none}
use Rattle.syntax.specs.Content.{content}
use Rattle.writing.specs.Laid.{Laid}
use Rattle.writing.specs.LaidLaws.{laid_same}
use Rattle.filters.specs.Octets.{before}
use Rattle.filters.specs.Six.{bits_of, bits_in, size_of, first_of, second_of, third_of, last_group, padded, group_of, six_value}
use Rattle.filters.specs.SixLaws.{Sized, sized, pad-is}
use Rattle.filters.specs.Pieces.{Taken, Few, PieceAt}
use Rattle.filters.specs.PiecesLaws.{taken-four}
use Rattle.filters.specs.Decoding.{Decodes}
use Rattle.filters.specs.DecodingLaws.{Decoding, decoding-start, decoding-same, decoding-laid, decoding-bad, decoding-end, decodes-laid, digit-none}
use Rattle.filters.specs.declared.pieces.Piece.{Piece}
use Rattle.filters.specs.declared.pieces.Piece.TheVariants.{Of, Short, Over}

-- ---- a group of four characters, by their bits

nothing : (l : Bool) → ◌≡◌ {A = Maybe (List ℕ)} (cond l none none) none
nothing true = refl
nothing false = refl

module _ (p q r s : ℕ) (l : Bool) (v : Maybe (List ℕ)) where
  -- one of them is neither a digit nor the pad at the end
  stray-group : (s ≡ 65 → ⊥) → (p < 64 → q < 64 → r < 64 → s < 64 → ⊥) → group_of (size_of p q r s) l p q r s v ≡ none
  stray-group z f = by (sized p q r s)
    where
      by : {k : ℕ} → Sized p q r s k → group_of k l p q r s v ≡ none
      by Sized.bad = nothing l
      by (Sized.three a b c d) = absurd (f a b c d)
      by (Sized.two a b c d e) = absurd (z d)
      by (Sized.one a b c d e) = absurd (z d)

  whole-group : p < 64 → q < 64 → r < 64 → s < 64 → group_of (size_of p q r s) l p q r s v ≡ before (first_of p q ∷ second_of q r ∷ third_of r s ∷ []) v
  whole-group a b c d =
      let k : size_of p q r s ≡ 3 = rw (le-ltb 63 p (omega arith), le-ltb 63 q (omega arith), lt-ltb r 64 c, lt-ltb s 64 d) in
      ap (λ (k : ℕ). group_of k l p q r s v) k

  pad-group : s ≡ 65 → group_of (size_of p q r s) l p q r s v ≡ last_group (size_of p q r 65) l p q r
  pad-group e = by (sized p q r s) ∙ ap (λ (s : ℕ). last_group (size_of p q r s) l p q r) e
    where
      by : {k : ℕ} → Sized p q r s k → group_of k l p q r s v ≡ last_group k l p q r
      by Sized.bad = refl
      by (Sized.three a b c d) = absurd (omega arith)
      by (Sized.two a b c d e) = refl
      by (Sized.one a b c d e) = refl

pub padded-two : (p q r : ℕ) {a b c x y m n : ℕ} {out o : List ℕ} → (a ≡ p) × (p < 64) → (b ≡ q) × (q < 64) → (c ≡ r) × (r < 64) → c % 4 ≡ 0 → x ≡ first_of a b → y ≡ second_of b c
    → Laid out n (x ∷ y ∷ []) m o → Decodes (padded p q r) out n (Some m) o
padded-two p q r {m = m} {n = n} {out = out} {o = o} e f h z u v g =
    let i : r % 4 ≡ 0 = omega (arith, z, h.0) in
    let k : size_of p q r 65 ≡ 2 = rw (le-ltb 63 p (omega (arith, e.1)), le-ltb 63 q (omega (arith, f.1)), lt-ltb r 64 h.1, i) in
    subst (λ (k : ℕ). Decodes (last_group k true p q r) out n (Some m) o) (sym k) (decodes-laid (laid_same (rw (u, v, e.0, f.0, h.0)) g))

-- ---- the loop

pub record Sixing (ρ : ℕ) (x out₀ : List ℕ) (i n : ℕ) (out : List ℕ) : Type 0 where
  pub few : n ≤ i
  pub going : Decoding (six_value (content ρ x)) out₀ 0 (six_value (content ρ (drop i x))) out n

pub sixing-start : {ρ : ℕ} {x out : List ℕ} → Sixing ρ x out 0 0 out
sixing-start = record { few = omega arith; going = decoding-start }

short_none : (t : List ℕ) → 0 < length t → length t < 4 → six_value t ≡ none
short_none [] h l = absurd (omega arith)
short_none (a ∷ []) h l = refl
short_none (a ∷ b ∷ []) h l = refl
short_none (a ∷ b ∷ c ∷ []) h l = refl
short_none (a ∷ b ∷ c ∷ d ∷ t) h l = absurd (omega arith)

module _ {ρ : ℕ} {x out₀ : List ℕ} {i n : ℕ} {out : List ℕ} (g : Sixing ρ x out₀ i n out) {f : Piece 4} (h : PieceAt 4 ρ x i f) where
  pub sixing-end : f ≡ Over → Decodes (six_value (content ρ x)) out₀ 0 (Some n) out
  sixing-end e = let u : content ρ (drop i x) ≡ [] = rw e at h.is in decoding-end (decoding-same g.going (rw u))

  pub sixing-short : {out' : List ℕ} → f ≡ Short → Decodes (six_value (content ρ x)) out₀ 0 None out'
  sixing-short e = let u : Few ρ x i 4 = rw e at h.is in decoding-bad (decoding-same g.going (short_none (content ρ (drop i x)) u.some u.few))

  module _ {t : List ℕ} {j : ℕ} (e : f ≡ Of t j) where
    four : Taken ρ x i (get_or t 0 0 ∷ get_or t 1 0 ∷ get_or t 2 0 ∷ get_or t 3 0 ∷ []) j
    four = taken-four h e

    pub sixing-less : length x - j < length x - i
    sixing-less = let u = four in omega arith

    pub sixing-fits : n + 4 ≤ length x
    sixing-fits = let u = four in omega (arith, g.few)

    seen : six_value (content ρ (drop i x))
        ≡ group_of (size_of (bits_of (get_or t 0 0)) (bits_of (get_or t 1 0)) (bits_of (get_or t 2 0)) (bits_of (get_or t 3 0))) (eqb (length (content ρ (drop j x))) 0)
        (bits_of (get_or t 0 0)) (bits_of (get_or t 1 0)) (bits_of (get_or t 2 0)) (bits_of (get_or t 3 0)) (six_value (content ρ (drop j x)))
    seen = rw four.gives

    module _ (z : get_or t 3 0 ≡ 61) {l : Bool} (v : l ≡ eqb (length (content ρ (drop j x))) 0) where
      ends : six_value (content ρ (drop i x))
          ≡ last_group (size_of (bits_of (get_or t 0 0)) (bits_of (get_or t 1 0)) (bits_of (get_or t 2 0)) 65) l (bits_of (get_or t 0 0)) (bits_of (get_or t 1 0)) (bits_of (get_or t 2 0))
      ends =
          rw v
          (seen
          ∙ pad-group (bits_of (get_or t 0 0)) (bits_of (get_or t 1 0)) (bits_of (get_or t 2 0)) (bits_of (get_or t 3 0)) (eqb (length (content ρ (drop j x))) 0) (six_value (content ρ (drop j x)))
          (ap bits_of z))

      pub sixing-last : {o : Option ℕ} {out' : List ℕ} → l ≡ true → Decodes (padded (bits_of (get_or t 0 0)) (bits_of (get_or t 1 0)) (bits_of (get_or t 2 0))) out n o out' → Decodes (six_value (content ρ x)) out₀ 0 o out'
      sixing-last y w =
          (decoding-same {y = padded (bits_of (get_or t 0 0)) (bits_of (get_or t 1 0)) (bits_of (get_or t 2 0))} g.going (ends ∙ rw y)).on _ _ w

      pub sixing-inner : {out' : List ℕ} → l ≡ false → Decodes (six_value (content ρ x)) out₀ 0 None out'
      sixing-inner y = decoding-bad (decoding-same g.going (ends ∙ rw y))

    module _ (z : get_or t 3 0 ≡ 61 → ⊥) where
      stray : {out' : List ℕ} → (bits_of (get_or t 0 0) < 64 → bits_of (get_or t 1 0) < 64 → bits_of (get_or t 2 0) < 64 → bits_of (get_or t 3 0) < 64 → ⊥)
          → Decodes (six_value (content ρ x)) out₀ 0 None out'
      stray f = decoding-bad (decoding-same g.going (seen ∙ stray-group _ _ _ _ _ _ (λ y. z (pad-is (get_or t 3 0) y)) f))

      module _ {out' : List ℕ} {o : Option ℕ} (y : o ≡ None) where
        pub sixing-first : o ≡ bits_in (get_or t 0 0) → Decodes (six_value (content ρ x)) out₀ 0 None out'
        sixing-first u = let k = digit-none 64 _ u y in stray (λ a b c d. omega (arith, a, k))

        pub sixing-second : o ≡ bits_in (get_or t 1 0) → Decodes (six_value (content ρ x)) out₀ 0 None out'
        sixing-second u = let k = digit-none 64 _ u y in stray (λ a b c d. omega (arith, b, k))

        pub sixing-third : o ≡ bits_in (get_or t 2 0) → Decodes (six_value (content ρ x)) out₀ 0 None out'
        sixing-third u = let k = digit-none 64 _ u y in stray (λ a b c d. omega (arith, c, k))

        pub sixing-fourth : o ≡ bits_in (get_or t 3 0) → Decodes (six_value (content ρ x)) out₀ 0 None out'
        sixing-fourth u = let k = digit-none 64 _ u y in stray (λ a b c d. omega (arith, d, k))

      pub sixing-on : {p q r s u v w m : ℕ} {out' : List ℕ} → (p ≡ bits_of (get_or t 0 0)) × (bits_of (get_or t 0 0) < 64) → (q ≡ bits_of (get_or t 1 0)) × (bits_of (get_or t 1 0) < 64)
          → (r ≡ bits_of (get_or t 2 0)) × (bits_of (get_or t 2 0) < 64) → (s ≡ bits_of (get_or t 3 0)) × (bits_of (get_or t 3 0) < 64) → u ≡ first_of p q → v ≡ second_of q r → w ≡ third_of r s
          → Laid out n (u ∷ v ∷ w ∷ []) m out' → Sixing ρ x out₀ j m out'
      sixing-on a b c d eu ev ew l =
          let y = four in
          record { few = omega (arith, g.few, l.place); going = decoding-laid g.going (seen ∙ whole-group _ _ _ _ _ _ a.1 b.1 c.1 d.1 ∙ rw (eu, ev, ew, a.0, b.0, c.0, d.0)) l }
