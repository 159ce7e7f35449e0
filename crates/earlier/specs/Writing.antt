-- A text copied octet by octet into a buffer.
use Rattle.std.specs.Prelude.{Bool, List, drop, false, get_or, length, ltb, refl, set, suc, take, true, zero, ℕ, ◌+◌, ◌-◌, ◌<◌, ◌≡◌, ◌≤◌}
use Rattle.std.proofs.lemmas.List.Edits.{sets}
use Rattle.std.proofs.Common.{add-one, ap, arith, drop-cons, drop_of_length-le, length-drop, ltb-false, ltb-true, sym, take_all, ◌∙◌}
use Rattle.writing.specs.Laid.{Laid}
use Rattle.writing.specs.LaidLaws.{Rest, laid_same, rest-same, rest-start, rest_put, sets-beyond}
use Rattle.writing.specs.Decimal.{Filled, decimal_of}
use Rattle.writing.specs.DecimalLaws.{Filling, decimal-few}

-- of n octets that are laid from `at` on into a buffer of so much room, r have their place
pub record Fits (room at n r : ℕ) : Type 0 where
  pub few : r ≤ n
  pub inside : (i : ℕ) → i < r → at + i < room
  pub full : r < n → room ≤ at + r

-- a copy under way: i octets of v are laid
pub record Copying (out₀ : List ℕ) (at : ℕ) (v : List ℕ) (i : ℕ) (out : List ℕ) : Type 0 where
  pub part : i ≤ length v
  pub going : Rest out₀ at v (drop i v) out (at + i)

module _ {out₀ : List ℕ} {at : ℕ} {v : List ℕ} where
  pub copying-start : Copying out₀ at v 0 out₀
  copying-start = let e : at + 0 ≡ at = omega arith in record { part = omega arith; going = rw e rest-start }

  module _ {i : ℕ} {out : List ℕ} (g : Copying out₀ at v i out) where
    pub copying-on : {out' : List ℕ} → i < length v → out' ≡ set out (at + i) (get_or v i 0) → Copying out₀ at v (i + 1) out'
    copying-on h q =
        let e : at + (i + 1) ≡ at + i + 1 = omega arith in
        record { part = omega arith; going = rest_put (rest-same g.going (rw add-one (drop-cons v i 0 h))) e q }

    -- all that has room is laid; the rest would be laid behind the buffer's end
    pub copying-end : {n : ℕ} → length out ≡ length out₀ → Fits (length out₀) at (length v) n → i ≤ n → n ≤ i → Laid out₀ at v (at + length v) out
    copying-end {n} m f l h = record { place = refl; octets = by (ltb n (length v)) refl }
      where
        by : (b : Bool) → ltb n (length v) ≡ b → out ≡ sets out₀ at v
        by true e = let k = f.full (ltb-true n (length v) e) in sym (sets-beyond (drop i v) out (at + i) (omega (arith, k, h, m))) ∙ g.going.octets
        by false e =
            let k = ltb-false n (length v) e in
            let z : length v ≤ i = omega (arith, k, l, h) in
            ap (sets out (at + i)) (sym (drop_of_length-le v z)) ∙ g.going.octets

    pub copying-next : {n : ℕ} {out' : List ℕ} → Fits (length out₀) at (length v) n → i < n → out' ≡ set out (at + i) (get_or v i 0) → Copying out₀ at v (i + 1) out'
    copying-next f l q = copying-on (omega (arith, f.few, l)) q

    pub copying-in : {n : ℕ} → length out ≡ length out₀ → Fits (length out₀) at (length v) n → i < n → at + i < length out
    copying-in m f l = let k = f.inside i l in omega (arith, k, m)

-- where more than one digit is left, there is room before k
room : {n m : ℕ} (k : ℕ) {digits : List ℕ} → Filling n m k digits → 9 < m → 0 < k
room {m = m} zero g h = let l : m < 10 = g.below in absurd (omega arith)
room (suc k) g h = omega arith

-- the part of the buffer that is put
pub filled-laid : {n k : ℕ} {digits : List ℕ} {out : List ℕ} {at r : ℕ} {out' : List ℕ} → Filled n k digits → Laid out at (take (20 - k) (drop k digits)) r out'
    → Laid out at (decimal_of n) r out' × (r ≤ at + 20)
filled-laid {n} {k} {digits} g h =
    let l : Laid _ _ (decimal_of n) _ _ = laid_same (take_all (20 - k) (drop k digits) (omega (arith, length-drop k digits)) ∙ g.holds) h in
    (l, omega (arith, l.place, decimal-few n))
