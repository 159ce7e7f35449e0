-- The masks of EDC by their index.
use Rattle.std.specs.Prelude.{List, None, Option, Some, [], drop, eqb, false, get_or, length, refl, set, ℕ, ◌%◌, ◌+◌, ◌-◌, ◌/◌, ◌∷◌, ◌≡◌, ◌≤◌}
use Rattle.std.proofs.Common.{add-one, arith, drop-cons, eq-eqb, length-drop, ne_eqb, ◌∙◌}
use Rattle.syntax.specs.Content.{content}
use Rattle.syntax.specs.Scanning.{next_of}
use Rattle.syntax.proofs.ContentLaws.{next-over, next-steps}
use Rattle.filters.specs.Decoding.{Decodes}
use Rattle.filters.specs.DecodingLaws.{Decoding, decoding-bad, decoding-laid, decoding-same, decoding-start}
use Rattle.edc.specs.Edc.{edc_from, edc_value, left, lowered, masks}

pub record Reading (ρ : ℕ) (x out₀ : List ℕ) (i n k c : ℕ) (out : List ℕ) : Type 0 where
  pub few : n ≤ i
  pub part : k ≤ 7
  pub going : Decoding (edc_value (content ρ x)) out₀ 0 (edc_from (content ρ (drop i x)) (drop k masks) c) out n

pub reading-start : {ρ : ℕ} {x out : List ℕ} → Reading ρ x out 0 0 7 0 out
reading-start = record { few = omega arith; part = omega arith; going = decoding-start }

module _ {ρ : ℕ} {x out₀ : List ℕ} {i n k c : ℕ} {out : List ℕ} (g : Reading ρ x out₀ i n k c out) {f : Option (ℕ × ℕ)} (h : f ≡ next_of ρ (drop i x) i) where
  module _ (e : f ≡ None) where
    over : Decoding (edc_value (content ρ x)) out₀ 0 (edc_from [] (drop k masks) c) out n
    over = decoding-same g.going (rw (next-over ρ x i h e))

    pub reading-lone : {out' : List ℕ} → k ≡ 0 → Decodes (edc_value (content ρ x)) out₀ 0 None out'
    reading-lone z = decoding-bad (decoding-same over (rw z))

    module _ (z : k ≡ 0 → ⊥) where
      some_read : eqb (length (drop k masks)) 7 ≡ false
      some_read = let l : length (drop k masks) ≡ 7 - k = length-drop k masks in ne_eqb (length (drop k masks)) 7 (λ y. z (omega arith))

  module _ {a j : ℕ} (e : f ≡ Some (a, j)) where
    octet : Decoding (edc_value (content ρ x)) out₀ 0 (edc_from (a ∷ content ρ (drop j x)) (drop k masks) c) out n
    octet = decoding-same g.going (rw (next-steps ρ x i h e).gives)

    whole : k ≡ 7 → drop k masks ≡ []
    whole z = rw z

    next : (k ≡ 7 → ⊥) → drop k masks ≡ get_or masks k 0 ∷ drop (k + 1) masks
    next z = drop-cons masks k 0 (omega (arith, g.part)) ∙ rw (add-one k)

    module _ (y : a / 64 % 2 ≡ 1) where
      pub reading-control : k ≡ 7 → Reading ρ x out₀ j n 0 (a - 64) out
      reading-control z =
          let u = next-steps ρ x i h e in
          record { few = omega (arith, g.few); part = omega arith; going = decoding-same octet (rw (whole z, eq-eqb _ _ y)) }

      pub reading-on : {m b c' : ℕ} {out' : List ℕ} → (k ≡ 7 → ⊥) → m ≡ get_or masks k 0 → b ≡ lowered m c a → c' ≡ left m c → out' ≡ set out n b
          → Reading ρ x out₀ j (n + 1) (k + 1) c' out'
      reading-on {b = b} z em eb ec w =
          let u = next-steps ρ x i h e in
          record {
            few = omega (arith, g.few);
            part = omega (arith, g.part);
            going = decoding-laid {v = b ∷ []} octet (rw (next z, eq-eqb _ _ y, eb, ec, em)) (record { place = refl; octets = w });
          }
