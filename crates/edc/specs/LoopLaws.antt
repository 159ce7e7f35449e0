-- The loop that reads a text: n octets are laid, ms are the masks of the octets of the substring that are to come, c the bits of its
-- control octet that are left, and the content from i on is left.
use Rattle.std.specs.Prelude.{ℕ, ◌+◌, ◌-◌, ◌/◌, ◌%◌, ◌≤◌, ◌<◌, List, [], ◌∷◌, ◌≡◌, refl, length, get_or, set, take, drop, Option, Some, None}
use Rattle.std.proofs.Common.{arith, eq-eqb, ne_eqb, length-drop, take_all}
use Rattle.std.proofs.Math.Option.{none}
use Rattle.syntax.specs.Content.{content}
use Rattle.syntax.specs.Scanning.{next_of}
use Rattle.syntax.proofs.ContentLaws.{next-steps, next-over}
use Rattle.filters.specs.Octets.{before}
use Rattle.filters.specs.Decoding.{Decodes}
use Rattle.filters.specs.DecodingLaws.{Decoding, decoding-start, decoding-same, decoding-laid, decoding-bad, decoding-end}
use Rattle.edc.specs.Edc.{masks, lowered, left, edc_from, edc_value}

pub record Reading (ρ : ℕ) (x out₀ : List ℕ) (i n : ℕ) (ms : List ℕ) (c : ℕ) (out : List ℕ) : Type 0 where
  pub few : n ≤ i
  pub going : Decoding (edc_value (content ρ x)) out₀ 0 (edc_from (content ρ (drop i x)) ms c) out n

pub reading-start : {ρ : ℕ} {x out : List ℕ} → Reading ρ x out 0 0 [] 0 out
reading-start = record { few = omega arith; going = decoding-start }

none_left : (ms : List ℕ) → length ms < 1 → ms ≡ []
none_left [] h = refl
none_left (m ∷ ms) h = absurd (omega arith)

module _ {ρ : ℕ} {x out₀ : List ℕ} {i n : ℕ} {ms : List ℕ} {c : ℕ} {out : List ℕ} (g : Reading ρ x out₀ i n ms c out) {f : Option (ℕ × ℕ)} (h : f ≡ next_of ρ (drop i x) i) where
  module _ (e : f ≡ None) where
    over : Decoding (edc_value (content ρ x)) out₀ 0 (edc_from [] ms c) out n
    over = decoding-same g.going (rw (next-over ρ x i h e))

    pub reading-lone : {out' : List ℕ} → length ms ≡ 7 → Decodes (edc_value (content ρ x)) out₀ 0 None out'
    reading-lone z = decoding-bad (decoding-same over (rw (eq-eqb _ _ z)))

    module _ (z : length ms ≡ 7 → ⊥) where
      pub reading-left : {out' : List ℕ} → (c ≡ 0 → ⊥) → Decodes (edc_value (content ρ x)) out₀ 0 None out'
      reading-left y = decoding-bad (decoding-same over (rw (ne_eqb _ _ z, ne_eqb c 0 y)))

      pub reading-end : c ≡ 0 → Decodes (edc_value (content ρ x)) out₀ 0 (Some n) out
      reading-end y = decoding-end (decoding-same over (rw (ne_eqb _ _ z, y)))

  module _ {a j : ℕ} (e : f ≡ Some (a, j)) where
    octet : Decoding (edc_value (content ρ x)) out₀ 0 (edc_from (a ∷ content ρ (drop j x)) ms c) out n
    octet = decoding-same g.going (rw (next-steps ρ x i h e).gives)

    pub reading-less : length x - j < length x - i
    reading-less = let u = next-steps ρ x i h e in omega arith

    pub reading-fits : n < length x
    reading-fits = let u = next-steps ρ x i h e in omega (arith, g.few)

    pub reading-plain : {out' : List ℕ} → (a / 64 % 2 ≡ 1 → ⊥) → Decodes (edc_value (content ρ x)) out₀ 0 None out'
    reading-plain y = decoding-bad (decoding-same octet (plain ms))
      where
        plain : (ms : List ℕ) → edc_from (a ∷ content ρ (drop j x)) ms c ≡ none
        plain [] = rw (ne_eqb _ _ y)
        plain (m ∷ ms) = rw (ne_eqb _ _ y)

    module _ (y : a / 64 % 2 ≡ 1) where
      pub reading-control : length ms < 1 → Reading ρ x out₀ j n masks (a - 64) out
      reading-control z =
          let u = next-steps ρ x i h e in
          record { few = omega (arith, g.few); going = decoding-same octet (rw (none_left ms z, eq-eqb _ _ y)) }

      pub reading-on : {b c' : ℕ} {out' : List ℕ} → 1 ≤ length ms → b ≡ lowered (get_or ms 0 0) c a → c' ≡ left (get_or ms 0 0) c → out' ≡ set out n b
          → Reading ρ x out₀ j (n + 1) (take (length ms - 1) (drop 1 ms)) c' out'
      reading-on {b} z eb ec w =
          let u = next-steps ρ x i h e in
          let t : take (length ms - 1) (drop 1 ms) ≡ drop 1 ms = take_all (length ms - 1) (drop 1 ms) (omega (arith, length-drop 1 ms)) in
          rw t (record { few = omega (arith, g.few); going = decoding-laid {v = b ∷ []} octet (with_first ms z eb ec) (record { place = refl; octets = w }) })
        where
          with_first : {b c' : ℕ} → (ms : List ℕ) → 1 ≤ length ms → b ≡ lowered (get_or ms 0 0) c a → c' ≡ left (get_or ms 0 0) c
              → edc_from (a ∷ content ρ (drop j x)) ms c ≡ before (b ∷ []) (edc_from (content ρ (drop j x)) (drop 1 ms) c')
          with_first [] z eb ec = absurd (omega arith)
          with_first (m ∷ ms) z eb ec = rw (eb, ec, eq-eqb _ _ y)
