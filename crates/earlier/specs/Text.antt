-- A text of six-bit digits, three octets after three, by an index.
use Rattle.std.specs.Prelude.{List, [], drop, get_or, length, refl, ℕ, ◌++◌, ◌+◌, ◌-◌, ◌<◌, ◌∷◌, ◌≡◌, ◌≤◌}
use Rattle.std.proofs.Common.{add-one, arith, drop-cons, drop_of_length-le, ◌∙◌}
use Rattle.writing.specs.Laid.{Laid}
use Rattle.writing.specs.LaidLaws.{Rest, rest-laid, rest-same, rest-start, rest_end}
use Rattle.filters.specs.Six.{six_text}

module _ {a b a' b' : ℕ} (p : a ≡ a') (q : b ≡ b') {out : List ℕ} {at r : ℕ} {out' : List ℕ} where
  pub two-laid : Laid out at (a ∷ b ∷ []) r out' → Laid out at (a' ∷ b' ∷ []) r out'
  two-laid g = rw (← p, ← q) g

  pub four-laid : {c d c' d' : ℕ} → c ≡ c' → d ≡ d' → Laid out at (a ∷ b ∷ c ∷ d ∷ []) r out' → Laid out at (a' ∷ b' ∷ c' ∷ d' ∷ []) r out'
  four-laid u v g = rw (← p, ← q, ← u, ← v) g

pub record Sixed (out₀ : List ℕ) (at : ℕ) (v : List ℕ) (i : ℕ) (out : List ℕ) (p : ℕ) : Type 0 where
  pub part : i ≤ length v
  pub going : Rest out₀ at (six_text v) (six_text (drop i v)) out p

more : (t : List ℕ) (i j : ℕ) → i < length t → j ≡ i + 1 → drop i t ≡ get_or t i 0 ∷ drop j t
more t i j h e = drop-cons t i 0 h ∙ rw (← add-one i, ← e)

none_left : (n i : ℕ) → n - i ≤ 2 → (n - i ≡ 2 → ⊥) → (n - i ≡ 1 → ⊥) → n ≤ i
none_left n i h l m = omega arith

module _ {out₀ : List ℕ} {at : ℕ} {v : List ℕ} where
  pub sixed-start : Sixed out₀ at v 0 out₀ at
  sixed-start = record { part = omega arith; going = rest-start }

  module _ {i : ℕ} {out : List ℕ} {p : ℕ} (g : Sixed out₀ at v i out p) where
    pub sixed-end : length v - i ≤ 2 → (length v - i ≡ 2 → ⊥) → (length v - i ≡ 1 → ⊥) → Laid out₀ at (six_text v) p out
    sixed-end h l m = rest_end (rest-same g.going (rw (drop_of_length-le v (none_left (length v) i h l m))))

    module _ (h : length v - i ≡ 1) where
      one : Rest out₀ at (six_text v) (six_text (get_or v i 0 ∷ [])) out p
      one = rest-same g.going (rw (more v i (i + 1) (omega arith) refl, drop_of_length-le v {i = i + 1} (omega arith)))

      pub sixed-one : {p' : ℕ} {out' : List ℕ} → Laid out p (six_text (get_or v i 0 ∷ [])) p' out' → Laid out₀ at (six_text v) p' out'
      sixed-one l = rest_end (rest-laid {v = six_text (get_or v i 0 ∷ [])} {rest = []} one l)

    module _ (h : length v - i ≡ 2) where
      two : Rest out₀ at (six_text v) (six_text (get_or v i 0 ∷ get_or v (i + 1) 0 ∷ [])) out p
      two = rest-same g.going (rw (more v i (i + 1) (omega arith) refl, more v (i + 1) (i + 2) (omega arith) (omega arith), drop_of_length-le v {i = i + 2} (omega arith)))

      pub sixed-two : {p' : ℕ} {out' : List ℕ} → Laid out p (six_text (get_or v i 0 ∷ get_or v (i + 1) 0 ∷ [])) p' out' → Laid out₀ at (six_text v) p' out'
      sixed-two l = rest_end (rest-laid {v = six_text (get_or v i 0 ∷ get_or v (i + 1) 0 ∷ [])} {rest = []} two l)

    module _ (h : 2 < length v - i) where
      three : Rest out₀ at (six_text v) (six_text (get_or v i 0 ∷ get_or v (i + 1) 0 ∷ get_or v (i + 2) 0 ∷ []) ++ six_text (drop (i + 3) v)) out p
      three =
          rest-same g.going
          (rw (more v i (i + 1) (omega arith) refl, more v (i + 1) (i + 2) (omega arith) (omega arith), more v (i + 2) (i + 3) (omega arith) (omega arith)))

      pub sixed-on : {p' : ℕ} {out' : List ℕ} → Laid out p (six_text (get_or v i 0 ∷ get_or v (i + 1) 0 ∷ get_or v (i + 2) 0 ∷ [])) p' out' → Sixed out₀ at v (i + 3) out' p'
      sixed-on l = record { part = omega arith; going = rest-laid three l }
