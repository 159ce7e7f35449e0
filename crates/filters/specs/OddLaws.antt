-- What a hex text of an even and of an odd number of digits gives, and what its first character is in one that is odd.
use Rattle.std.specs.Prelude.{ℕ, ◌+◌, ◌*◌, ◌%◌, ◌≤◌, ◌<◌, List, [], ◌∷◌, ◌≡◌, refl, length, drop, Option, Some, None}
use Rattle.std.proofs.Common.{arith, ◌∙◌, le-ltb}
use Rattle.std.proofs.Math.Option.{none}
use Rattle.syntax.specs.Content.{content}
use Rattle.syntax.specs.Scanning.{next_of}
use Rattle.syntax.proofs.ContentLaws.{next-steps, next-over}
use Rattle.filters.specs.Hex.{half_of, pair_of, hex_pairs, hex_value}
use Rattle.filters.specs.Decoding.{Decodes}
use Rattle.filters.specs.DecodingLaws.{decoding-start, decoding-same, decoding-bad}

pub decodes-bad : {n : ℕ} {out o : List ℕ} → Decodes none out n None o
decodes-bad = record { is = refl }

module _ (ρ : ℕ) (x out : List ℕ) {f : Option (ℕ × ℕ)} (h : f ≡ next_of ρ (drop 0 x) 0) where
  pub odd-over : {out' : List ℕ} → f ≡ None → Decodes (hex_pairs (48 ∷ content ρ x)) out 0 None out'
  odd-over e = let u : content ρ x ≡ [] = next-over ρ x 0 h e in rw u decodes-bad

  module _ {c j : ℕ} (e : f ≡ Some (c, j)) {a : ℕ} (p : a ≡ half_of c) where
    led : hex_pairs (48 ∷ content ρ x) ≡ pair_of 0 a (hex_pairs (content ρ (drop j x)))
    led = let u : content ρ x ≡ c ∷ content ρ (drop j x) = (next-steps ρ x 0 h e).gives in rw (u, p)

    pub odd-far : 1 ≤ j
    odd-far = let u = next-steps ρ x 0 h e in omega arith

    pub odd-bad : {out' : List ℕ} → 15 < a → Decodes (hex_pairs (48 ∷ content ρ x)) out 0 None out'
    odd-bad m = decoding-bad (decoding-same (decoding-start {x = hex_pairs (48 ∷ content ρ x)} {out = out} {n = 0}) (led ∙ rw (le-ltb a 16 m)))

module _ (t : List ℕ) {out out' : List ℕ} {n : ℕ} {r : Option ℕ} (e : n ≡ length t) where
  pub hex-even : n % 2 ≡ 0 → Decodes (hex_pairs t) out 0 r out' → Decodes (hex_value t) out 0 r out'
  hex-even h d = let z : length t % 2 ≡ 0 = omega arith in rw z d

  pub hex-odd : (n % 2 ≡ 0 → ⊥) → Decodes (hex_pairs (48 ∷ t)) out 0 r out' → Decodes (hex_value t) out 0 r out'
  hex-odd h d = let z : length t % 2 ≡ 1 = omega (arith, h) in rw z d
