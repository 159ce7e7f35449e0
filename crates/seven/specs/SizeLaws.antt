-- How many groups a number takes, from its count of leading zeros
use Rattle.std.specs.Prelude.{ℕ, zero, suc, ◌+◌, ◌-◌, ◌*◌, ◌/◌, ◌^◌, ◌≤◌, ◌<◌, ◌≡◌, refl, length}
use Rattle.std.proofs.Common.{lt_of_lt_of_le, le_trans, pow-suc, arith, sym, ap, subst, ◌∙◌, pow_mono, pow-add}
use Rattle.std.specs.Int.Count.{count_leading_zeros}
use Rattle.std.proofs.lemmas.Nat.{leading_length}
use Rattle.seven.specs.Groups.{groups, shortest}
use Rattle.seven.specs.TripLaws.{cap, groups-last, groups-more, one-le}

-- the first number that needs k + 1 groups
abbrev floor : ℕ → ℕ
floor zero = 0
floor (suc k) = cap k

cap-pow : (k : ℕ) → cap k ≡ 2 ^ (7 * suc k)
cap-pow zero = refl
cap-pow (suc k) = ap (λ (x : ℕ). x * 128) (cap-pow k) ∙ sym (pow-add 2 (7 * suc k) 7) ∙ ap (λ (x : ℕ). 2 ^ x) (omega arith)

cap-least : (k : ℕ) → 128 ≤ cap k
cap-least zero = omega arith
cap-least (suc k) = let h : 128 ≤ cap k = cap-least k in omega arith

groups-length : (k f n : ℕ) → k ≤ f → n < cap k → floor k ≤ n → length (groups (suc f) n) ≡ suc k
groups-length zero f n l h b = ap length (groups-last f n h)
groups-length (suc k) zero n l h b = absurd (omega arith)
groups-length (suc k) (suc f) n l h b =
    let c : 128 ≤ cap k = cap-least k in
    ap length (groups-more (suc f) n (omega arith)) ∙ ap suc (groups-length k f (n / 128) (omega arith) (omega arith) (lower k b))
  where
    lower : (k : ℕ) → cap k ≤ n → floor k ≤ n / 128
    lower zero b = omega arith
    lower (suc k) b = omega arith

-- n has m binary digits
module _ (n m : ℕ) (below : n < 2 ^ m) (above : 2 ^ m ≤ 2 * n + 1) (few : m ≤ 64) where
  none : m ≡ 0 → length (shortest n) ≡ 1
  none e = groups-length 0 9 n (omega arith) (let h : n < 2 ^ 0 = subst (λ (x : ℕ). n < 2 ^ x) e below in omega arith) (omega arith)

  some : (k : ℕ) → 7 * k < m → m ≤ 7 * suc k → length (shortest n) ≡ suc k
  some k l h = groups-length k 9 n (omega arith) (subst (λ (x : ℕ). n < x) (sym (cap-pow k)) (lt_of_lt_of_le below (pow_mono h))) (least k l)
    where
      least : (k : ℕ) → 7 * k < m → floor k ≤ n
      least zero l = omega arith
      least (suc j) l =
          let a : 2 ^ suc (7 * suc j) ≤ 2 * n + 1 = le_trans (pow_mono l) above in
          let b : 2 ^ suc (7 * suc j) ≡ 2 ^ (7 * suc j) * 2 = pow-suc 2 (7 * suc j) in
          let c : cap j ≡ 2 ^ (7 * suc j) = cap-pow j in
          omega arith

module _ (n d : ℕ) (small : n < 2 ^ 64) (e : d ≡ 64 - count_leading_zeros 64 n) where
  pub size_none : d ≡ 0 → length (shortest n) ≡ 1
  size_none z = let t = leading_length 64 n small in none n t.0 t.2 t.3 (let s = t.1 in omega arith) (let s = t.1 in omega arith)

  pub size-some : (d ≡ 0 → ⊥) → length (shortest n) ≡ (d + 6) / 7
  size-some z =
      let p : 0 < d = one-le d z in
      let t = leading_length 64 n small in
      let s = t.1 in
      some n t.0 t.2 t.3 (omega arith) ((d - 1) / 7) (omega arith) (omega arith) ∙ omega arith
