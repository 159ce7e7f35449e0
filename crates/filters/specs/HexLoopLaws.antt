-- The loop that reads hex: n octets are laid, and the content from i on is left.
use Rattle.std.specs.Prelude.{ℕ, ◌+◌, ◌-◌, ◌*◌, ◌≤◌, ◌<◌, List, [], ◌∷◌, ◌≡◌, refl, length, get_or, set, drop, Option, Some, None}
use Rattle.std.proofs.Common.{arith, ◌∙◌, lt-ltb, le-ltb}
use Rattle.std.proofs.Math.Option.{none}
use Rattle.syntax.specs.Content.{content}
use Rattle.syntax.specs.Scanning.{next_of}
use Rattle.syntax.proofs.ContentLaws.{next-steps}
use Rattle.filters.specs.Hex.{half_of, half_in, pair_of, hex_pairs}
use Rattle.filters.specs.Pieces.{Taken, Few, PieceAt}
use Rattle.filters.specs.Decoding.{Decodes}
use Rattle.filters.specs.DecodingLaws.{Decoding, decoding-start, decoding-same, decoding-laid, decoding-bad, decoding-end, digit-some, digit-none}
use Rattle.filters.specs.PiecesLaws.{taken-two}
use Rattle.filters.specs.declared.pieces.Piece.{Piece}
use Rattle.filters.specs.declared.pieces.Piece.TheVariants.{Of, Short, Over}

-- what is read starts at i₀ of x, and what it gives is laid from n₀ on
pub record Hexing (ρ : ℕ) (x out₀ : List ℕ) (i₀ n₀ i n : ℕ) (out : List ℕ) : Type 0 where
  pub few : n ≤ i
  pub going : Decoding (hex_pairs (content ρ (drop i₀ x))) out₀ n₀ (hex_pairs (content ρ (drop i x))) out n

pub hexing-start : {ρ : ℕ} {x out : List ℕ} {i n : ℕ} → n ≤ i → Hexing ρ x out i n i n out
hexing-start h = record { few = h; going = decoding-start }

odd-none : (t : List ℕ) → 0 < length t → length t < 2 → hex_pairs t ≡ none
odd-none [] h l = absurd (omega arith)
odd-none (a ∷ []) h l = refl
odd-none (a ∷ b ∷ t) h l = absurd (omega arith)

module _ {ρ : ℕ} {x out₀ : List ℕ} {i₀ n₀ i n : ℕ} {out : List ℕ} (g : Hexing ρ x out₀ i₀ n₀ i n out) {f : Piece 2} (h : PieceAt 2 ρ x i f) where
  pub hexing-end : f ≡ Over → Decodes (hex_pairs (content ρ (drop i₀ x))) out₀ n₀ (Some n) out
  hexing-end e = let u : content ρ (drop i x) ≡ [] = rw e at h.is in decoding-end (decoding-same g.going (rw u))

  pub hexing-odd : {out' : List ℕ} → f ≡ Short → Decodes (hex_pairs (content ρ (drop i₀ x))) out₀ n₀ None out'
  hexing-odd e = let u : Few ρ x i 2 = rw e at h.is in decoding-bad (decoding-same g.going (odd-none (content ρ (drop i x)) u.some u.few))

  module _ {t : List ℕ} {j : ℕ} (e : f ≡ Of t j) where
    two : Taken ρ x i (get_or t 0 0 ∷ get_or t 1 0 ∷ []) j
    two = taken-two h e

    pub hexing-less : length x - j < length x - i
    hexing-less = let u = two in omega arith

    pub hexing-fits : n < length x
    hexing-fits = let u = two in omega (arith, g.few)

    seen : hex_pairs (content ρ (drop i x)) ≡ pair_of (half_of (get_or t 0 0)) (half_of (get_or t 1 0)) (hex_pairs (content ρ (drop j x)))
    seen = rw two.gives

    module _ {u : Option ℕ} (p : u ≡ half_in (get_or t 0 0)) where
      pub hexing-high : {out' : List ℕ} → u ≡ None → Decodes (hex_pairs (content ρ (drop i₀ x))) out₀ n₀ None out'
      hexing-high d = decoding-bad (decoding-same g.going (seen ∙ rw (le-ltb _ 16 (digit-none 16 _ p d))))

      module _ {a : ℕ} (d : u ≡ Some a) {v : Option ℕ} (q : v ≡ half_in (get_or t 1 0)) where
        pub hexing-low : {out' : List ℕ} → v ≡ None → Decodes (hex_pairs (content ρ (drop i₀ x))) out₀ n₀ None out'
        hexing-low z = let k = digit-some 16 _ p d in decoding-bad (decoding-same g.going (seen ∙ rw (lt-ltb _ 16 k.1, le-ltb _ 16 (digit-none 16 _ q z))))

        pub hexing-on : {b : ℕ} {out' : List ℕ} → v ≡ Some b → out' ≡ set out n (a * 16 + b) → Hexing ρ x out₀ i₀ n₀ j (n + 1) out'
        hexing-on {b} z w =
            let u = two in
            let k = digit-some 16 _ p d in
            let l = digit-some 16 _ q z in
            record {
              few = omega (arith, g.few);
              going = decoding-laid {v = (a * 16 + b) ∷ []} g.going (seen ∙ rw (lt-ltb _ 16 k.1, lt-ltb _ 16 l.1, k.0, l.0)) (record { place = refl; octets = w });
            }

-- ---- an odd length: the first character stands alone, behind a zero

module _ (ρ : ℕ) (x out : List ℕ) {f : Option (ℕ × ℕ)} (h : f ≡ next_of ρ (drop 0 x) 0) where
  module _ {c j : ℕ} (e : f ≡ Some (c, j)) {u : Option ℕ} (p : u ≡ half_in c) where
    led : hex_pairs (48 ∷ content ρ x) ≡ pair_of 0 (half_of c) (hex_pairs (content ρ (drop j x)))
    led = let u : content ρ x ≡ c ∷ content ρ (drop j x) = (next-steps ρ x 0 h e).gives in rw u

    pub odd-on : {a : ℕ} {o out' : List ℕ} {r : Option ℕ} → u ≡ Some a → o ≡ set out 0 a → Decodes (hex_pairs (content ρ (drop j x))) o 1 r out'
        → Decodes (hex_pairs (48 ∷ content ρ x)) out 0 r out'
    odd-on {a} {o} {out'} {r} d w y =
        let k = digit-some 16 _ p d in
        let z : 0 * 16 + half_of c ≡ a = omega (arith, k.0) in
        (decoding-laid {v = a ∷ []} {x = hex_pairs (content ρ (drop j x))} (decoding-start {x = hex_pairs (48 ∷ content ρ x)} {out = out} {n = 0}) (led ∙ rw (lt-ltb _ 16 k.1, z))
        (record { place = refl; octets = w })).on r out' y
