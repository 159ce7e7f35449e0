-- Hex digits taken as pairs.
use Rattle.std.specs.Prelude.{List, None, Option, Some, [], drop, length, refl, set, ℕ, ◌*◌, ◌+◌, ◌<◌, ◌∷◌, ◌≡◌, ◌≤◌}
use Rattle.std.proofs.Common.{arith, le-ltb, lt-ltb, ◌∙◌}
use Rattle.std.proofs.Math.Option.{none}
use Rattle.syntax.specs.Content.{content}
use Rattle.syntax.specs.Scanning.{next_of}
use Rattle.syntax.proofs.ContentLaws.{next-steps}
use Rattle.filters.specs.Hex.{half_of, hex_pairs, pair_of}
use Rattle.filters.specs.Pieces.{Few, Taken}
use Rattle.filters.specs.declared.pieces.Piece.{Piece}
use Rattle.filters.specs.declared.pieces.Piece.TheVariants.{Of, Short, Over}
use Rattle.earlier.specs.Pieces.{PairAt}
use Rattle.filters.specs.Decoding.{Decodes}
use Rattle.filters.specs.DecodingLaws.{decoding-bad, decoding-end, decoding-laid, decoding-same, decoding-start}
use Rattle.filters.specs.HexLoopLaws.{Hexing}

odd-none : (t : List ℕ) → 0 < length t → length t < 2 → hex_pairs t ≡ none
odd-none [] h l = absurd (omega arith)
odd-none (a ∷ []) h l = refl
odd-none (a ∷ b ∷ t) h l = absurd (omega arith)

module _ {ρ : ℕ} {x out₀ : List ℕ} {i₀ n₀ i n : ℕ} {out : List ℕ} (g : Hexing ρ x out₀ i₀ n₀ i n out) {f : Piece 2} (h : PairAt ρ x i f) where
  pub hexing-end : f ≡ Over → Decodes (hex_pairs (content ρ (drop i₀ x))) out₀ n₀ (Some n) out
  hexing-end e = let u : content ρ (drop i x) ≡ [] = rw e at h.is in decoding-end (decoding-same g.going (rw u))

  pub hexing-odd : {out' : List ℕ} → f ≡ Short → Decodes (hex_pairs (content ρ (drop i₀ x))) out₀ n₀ None out'
  hexing-odd e = let u : Few ρ x i 2 = rw e at h.is in decoding-bad (decoding-same g.going (odd-none (content ρ (drop i x)) u.some u.few))

  module _ {c d j : ℕ} (e : f ≡ Of (c ∷ d ∷ []) j) where
    two : Taken ρ x i (c ∷ d ∷ []) j
    two = let u : Taken ρ x i (c ∷ d ∷ []) j × (length (c ∷ d ∷ []) ≡ 2) = rw e at h.is in u.0

    module _ {a b : ℕ} (p : a ≡ half_of c) (q : b ≡ half_of d) where
      seen : hex_pairs (content ρ (drop i x)) ≡ pair_of a b (hex_pairs (content ρ (drop j x)))
      seen = rw (two.gives, p, q)

      pub hexing-high : {out' : List ℕ} → 15 < a → Decodes (hex_pairs (content ρ (drop i₀ x))) out₀ n₀ None out'
      hexing-high m = decoding-bad (decoding-same g.going (seen ∙ rw (le-ltb a 16 m)))

      pub hexing-low : {out' : List ℕ} → a ≤ 15 → 15 < b → Decodes (hex_pairs (content ρ (drop i₀ x))) out₀ n₀ None out'
      hexing-low m k = decoding-bad (decoding-same g.going (seen ∙ rw (lt-ltb a 16 (omega arith), le-ltb b 16 k)))

      pub hexing-on : {out' : List ℕ} → a ≤ 15 → b ≤ 15 → out' ≡ set out n (a * 16 + b) → Hexing ρ x out₀ i₀ n₀ j (n + 1) out'
      hexing-on m k w =
          let u = two in
          record {
            few = omega (arith, g.few);
            going = decoding-laid {v = (a * 16 + b) ∷ []} g.going (seen ∙ rw (lt-ltb a 16 (omega arith), lt-ltb b 16 (omega arith))) (record { place = refl; octets = w });
          }

module _ (ρ : ℕ) (x out : List ℕ) {f : Option (ℕ × ℕ)} (h : f ≡ next_of ρ (drop 0 x) 0) where
  module _ {c j : ℕ} (e : f ≡ Some (c, j)) {a : ℕ} (p : a ≡ half_of c) where
    led : hex_pairs (48 ∷ content ρ x) ≡ pair_of 0 a (hex_pairs (content ρ (drop j x)))
    led = let u : content ρ x ≡ c ∷ content ρ (drop j x) = (next-steps ρ x 0 h e).gives in rw (u, p)

    pub odd-on : {o out' : List ℕ} {r : Option ℕ} → a ≤ 15 → o ≡ set out 0 a → Decodes (hex_pairs (content ρ (drop j x))) o 1 r out'
        → Decodes (hex_pairs (48 ∷ content ρ x)) out 0 r out'
    odd-on {o} {out'} {r} m w d =
        (decoding-laid {v = a ∷ []} {x = hex_pairs (content ρ (drop j x))} (decoding-start {x = hex_pairs (48 ∷ content ρ x)} {out = out} {n = 0}) (led ∙ (let z : 0 * 16 + a ≡ a = omega arith in rw (lt-ltb a 16 (omega arith), z)))
        (record { place = refl; octets = w })).on r out' d
