-- The loops that write the text of octets: what is left to write is the text of the octets from i on.
use Rattle.std.specs.Prelude.{ℕ, ◌+◌, ◌-◌, ◌≤◌, ◌<◌, List, [], ◌∷◌, ◌++◌, ◌≡◌, refl, length, get_or, take, drop}
use Rattle.std.proofs.Common.{arith, add-one, drop_of_length-le, drop-cons, length-drop, take_all}
use Rattle.writing.specs.Laid.{Laid}
use Rattle.writing.specs.LaidLaws.{Rest, rest-start, rest-same, rest-laid, rest_end}
use Rattle.filters.specs.Hex.{hex_text}
use Rattle.filters.specs.Six.{six_text}

-- ---- hex

pub record Hexed (out₀ : List ℕ) (at : ℕ) (v : List ℕ) (i : ℕ) (out : List ℕ) (p : ℕ) : Type 0 where
  pub part : i ≤ length v
  pub going : Rest out₀ at (hex_text v) (hex_text (drop i v)) out p

module _ {out₀ : List ℕ} {at : ℕ} {v : List ℕ} where
  pub hexed-start : Hexed out₀ at v 0 out₀ at
  hexed-start = record { part = omega arith; going = rest-start }

  module _ {i : ℕ} {out : List ℕ} {p : ℕ} (g : Hexed out₀ at v i out p) where
    pub hexed-end : length v ≤ i → Laid out₀ at (hex_text v) p out
    hexed-end h = rest_end (rest-same g.going (rw (drop_of_length-le v h)))

    module _ (h : i < length v) where
      next : Rest out₀ at (hex_text v) (hex_text (get_or v i 0 ∷ []) ++ hex_text (drop (i + 1) v)) out p
      next = rest-same g.going (rw (drop-cons v i 0 h, add-one))

      pub hexed-room : p + 2 ≤ at + length (hex_text v)
      hexed-room = omega (arith, next.place)

      pub hexed-on : {p' : ℕ} {out' : List ℕ} → Laid out p (hex_text (get_or v i 0 ∷ [])) p' out' → Hexed out₀ at v (i + 1) out' p'
      hexed-on l = record { part = omega arith; going = rest-laid next l }

-- ---- base 64: the octets in `rest` are left

three_of : (t : List ℕ) → 3 ≤ length t → six_text t ≡ six_text (get_or t 0 0 ∷ get_or t 1 0 ∷ get_or t 2 0 ∷ []) ++ six_text (drop 3 t)
three_of [] h = absurd (omega arith)
three_of (x ∷ []) h = absurd (omega arith)
three_of (x ∷ y ∷ []) h = absurd (omega arith)
three_of (x ∷ y ∷ z ∷ t) h = refl

two_of : (t : List ℕ) → 2 ≤ length t → length t < 3 → six_text t ≡ six_text (get_or t 0 0 ∷ get_or t 1 0 ∷ [])
two_of [] h l = absurd (omega arith)
two_of (x ∷ []) h l = absurd (omega arith)
two_of (x ∷ y ∷ []) h l = refl
two_of (x ∷ y ∷ z ∷ t) h l = absurd (omega arith)

one_of : (t : List ℕ) → 1 ≤ length t → length t < 2 → six_text t ≡ six_text (get_or t 0 0 ∷ [])
one_of [] h l = absurd (omega arith)
one_of (x ∷ []) h l = refl
one_of (x ∷ y ∷ t) h l = absurd (omega arith)

none_of : (t : List ℕ) → length t < 1 → six_text t ≡ []
none_of [] h = refl
none_of (x ∷ t) h = absurd (omega arith)

pub record Sixed (out₀ : List ℕ) (at : ℕ) (v rest out : List ℕ) (p : ℕ) : Type 0 where
  pub going : Rest out₀ at (six_text v) (six_text rest) out p

module _ {out₀ : List ℕ} {at : ℕ} {v : List ℕ} where
  pub sixed-start : Sixed out₀ at v v out₀ at
  sixed-start = record { going = rest-start }

  module _ {rest out : List ℕ} {p : ℕ} (g : Sixed out₀ at v rest out p) where
    pub sixed-end : length rest < 1 → Laid out₀ at (six_text v) p out
    sixed-end h = rest_end (rest-same g.going (none_of rest h))

    module _ (h : 1 ≤ length rest) (l : length rest < 2) where
      one : Rest out₀ at (six_text v) (six_text (get_or rest 0 0 ∷ [])) out p
      one = rest-same g.going (one_of rest h l)

      pub sixed-room-one : p + 4 ≤ at + length (six_text v)
      sixed-room-one = omega (arith, one.place)

      pub sixed-one : {p' : ℕ} {out' : List ℕ} → Laid out p (six_text (get_or rest 0 0 ∷ [])) p' out' → Laid out₀ at (six_text v) p' out'
      sixed-one y = rest_end (rest-laid {v = six_text (get_or rest 0 0 ∷ [])} {rest = []} one y)

    module _ (h : 2 ≤ length rest) (l : length rest < 3) where
      two : Rest out₀ at (six_text v) (six_text (get_or rest 0 0 ∷ get_or rest 1 0 ∷ [])) out p
      two = rest-same g.going (two_of rest h l)

      pub sixed-room-two : p + 4 ≤ at + length (six_text v)
      sixed-room-two = omega (arith, two.place)

      pub sixed-two : {p' : ℕ} {out' : List ℕ} → Laid out p (six_text (get_or rest 0 0 ∷ get_or rest 1 0 ∷ [])) p' out' → Laid out₀ at (six_text v) p' out'
      sixed-two y = rest_end (rest-laid {v = six_text (get_or rest 0 0 ∷ get_or rest 1 0 ∷ [])} {rest = []} two y)

    module _ (h : 3 ≤ length rest) where
      three : Rest out₀ at (six_text v) (six_text (get_or rest 0 0 ∷ get_or rest 1 0 ∷ get_or rest 2 0 ∷ []) ++ six_text (drop 3 rest)) out p
      three = rest-same g.going (three_of rest h)

      pub sixed-room : p + 4 ≤ at + length (six_text v)
      sixed-room = omega (arith, three.place)

      pub sixed-on : {p' : ℕ} {out' : List ℕ} → Laid out p (six_text (get_or rest 0 0 ∷ get_or rest 1 0 ∷ get_or rest 2 0 ∷ [])) p' out' → Sixed out₀ at v (take (length rest - 3) (drop 3 rest)) out' p'
      sixed-on y = record { going = rw (take_all (length rest - 3) (drop 3 rest) (omega (arith, length-drop 3 rest))) (rest-laid three y) }

      pub sixed-less : length (take (length rest - 3) (drop 3 rest)) < length rest
      sixed-less = rw (take_all (length rest - 3) (drop 3 rest) (omega (arith, length-drop 3 rest))) (omega (arith, length-drop 3 rest))
