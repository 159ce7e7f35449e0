-- On the padding and on blocks that follow one another.
use Rattle.std.specs.Prelude.{◌≡◌, ℕ, zero, suc, ◌+◌, ◌-◌, ◌*◌, ◌/◌, ◌%◌, ◌^◌, ◌≤◌, List, ◌∷◌, ◌++◌, length, take, drop, replicate, refl}
use Rattle.std.proofs.Common.{arith, sym, ◌∙◌, length-append, length-drop, drop-drop}
use Rattle.std.proofs.Math.Path.{ap}
use Rattle.std.proofs.lemmas.List.{length-replicate, take-append-le, drop-append-le}
use Rattle.std.specs.Int.{w64, to_be_bytes}
use Rattle.sha.specs.declared.Chain.{Chain}
use Rattle.sha.specs.Sha.{gap, zeros, eight, block, blocks}
use Rattle.sha.specs.Feeding.{poured, left}

-- ---- "k is the smallest, non-negative solution to the equation l + 1 + k ≡ 448 mod 512": l is 8 n, and k is 7 + 8 (gap n)

pub gap-solves : (n : ℕ) → (8 * n + 1 + (7 + 8 * gap n)) % 512 ≡ 448
gap-solves n = omega arith

pub gap-least : (n k : ℕ) → (8 * n + 1 + k) % 512 ≡ 448 → 7 + 8 * gap n ≤ k
gap-least n k e = omega arith

-- ---- zeros, and the length as 64 bits

pub length-zeros : (n : ℕ) → length (zeros n) ≡ n
unfolding zeros
length-zeros n = length-replicate {A = ℕ} n 0

take_none : (k n : ℕ) → k ≤ n → take k (replicate {A = ℕ} n 0) ≡ replicate k 0
take_none zero n h = refl
take_none (suc k) zero h = absurd (omega arith)
take_none (suc k) (suc n) h = ap (λ (u : List ℕ). 0 ∷ u) (take_none k n (omega arith))

pub take-zeros : (k n : ℕ) → k ≤ n → take k (zeros n) ≡ zeros k
unfolding zeros
take-zeros k n h = take_none k n h

pub length-eight : (l : ℕ) → length (eight l) ≡ 8
unfolding eight
length-eight l = refl

-- 64 bits are all that is appended
octet-56 : (n l : ℕ) → l ≡ (n * 2 ^ 3) % 2 ^ 64 → l / 2 ^ 56 % 256 ≡ 8 * n / 2 ^ 56 % 256
octet-56 n l e = omega arith

octet-48 : (n l : ℕ) → l ≡ (n * 2 ^ 3) % 2 ^ 64 → l / 2 ^ 48 % 256 ≡ 8 * n / 2 ^ 48 % 256
octet-48 n l e = omega arith

octet-40 : (n l : ℕ) → l ≡ (n * 2 ^ 3) % 2 ^ 64 → l / 2 ^ 40 % 256 ≡ 8 * n / 2 ^ 40 % 256
octet-40 n l e = omega arith

octet-32 : (n l : ℕ) → l ≡ (n * 2 ^ 3) % 2 ^ 64 → l / 2 ^ 32 % 256 ≡ 8 * n / 2 ^ 32 % 256
octet-32 n l e = omega arith

octet-24 : (n l : ℕ) → l ≡ (n * 2 ^ 3) % 2 ^ 64 → l / 2 ^ 24 % 256 ≡ 8 * n / 2 ^ 24 % 256
octet-24 n l e = omega arith

octet-16 : (n l : ℕ) → l ≡ (n * 2 ^ 3) % 2 ^ 64 → l / 2 ^ 16 % 256 ≡ 8 * n / 2 ^ 16 % 256
octet-16 n l e = omega arith

octet-8 : (n l : ℕ) → l ≡ (n * 2 ^ 3) % 2 ^ 64 → l / 2 ^ 8 % 256 ≡ 8 * n / 2 ^ 8 % 256
octet-8 n l e = omega arith

octet-0 : (n l : ℕ) → l ≡ (n * 2 ^ 3) % 2 ^ 64 → l % 256 ≡ 8 * n / 2 ^ 0 % 256
octet-0 n l e = omega arith

pub eight-of : (n l : ℕ) → l ≡ (n * 2 ^ 3) % 2 ^ 64 → to_be_bytes w64 l ≡ eight (8 * n)
unfolding eight
eight-of n l e = rw (octet-56 n l e, octet-48 n l e, octet-40 n l e, octet-32 n l e, octet-24 n l e, octet-16 n l e, octet-8 n l e, octet-0 n l e)

-- ---- blocks behind blocks

blocks-add : (j k : ℕ) (h : Chain) (s : List ℕ) → blocks (j + k) h s ≡ blocks k (blocks j h s) (drop (j * 64) s)
unfolding blocks
blocks-add zero k h s =
    let e : zero + k ≡ k = omega arith in
    let d : 0 ≡ zero * 64 = omega arith in
    ap (λ (n : ℕ). blocks n h s) e ∙ ap (λ (n : ℕ). blocks k h (drop n s)) d
blocks-add (suc j) k h s =
    let e : suc j + k ≡ suc (j + k) = omega arith in
    let d : 64 + j * 64 ≡ suc j * 64 = omega arith in
    ap (λ (n : ℕ). blocks n h s) e ∙ blocks-add j k (block h (take 64 s)) (drop 64 s)
    ∙ ap (blocks k (blocks j (block h (take 64 s)) (drop 64 s))) (drop-drop (j * 64) 64 s ∙ ap (λ (n : ℕ). drop n s) d)

blocks-front : (k : ℕ) (h : Chain) (s t : List ℕ) → k * 64 ≤ length s → blocks k h (s ++ t) ≡ blocks k h s
unfolding blocks
blocks-front zero h s t l = refl
blocks-front (suc k) h s t l =
    let b : 64 ≤ length s = omega arith in
    let n : length (drop 64 s) ≡ length s - 64 = length-drop 64 s in
    ap (λ (u : List ℕ). blocks k (block h u) (drop 64 (s ++ t))) (take-append-le 64 s t b)
    ∙ ap (λ (u : List ℕ). blocks k (block h (take 64 s)) u) (drop-append-le 64 s t b)
    ∙ blocks-front k (block h (take 64 s)) (drop 64 s) t (omega (arith, n))

-- octets w, and then more: the blocks of all are those of w, and those of what w left with the more
module _ (w more : List ℕ) where
  all : length (w ++ more) ≡ length w + length more
  all = length-append w more

  whole : length w / 64 * 64 ≤ length w
  whole = omega arith

  rest : length (left w ++ more) ≡ length w - length w / 64 * 64 + length more
  rest = length-append (left w) more ∙ ap (λ (n : ℕ). n + length more) (length-drop (length w / 64 * 64) w)

  pub poured-more : (h : Chain) → poured h (w ++ more) ≡ poured (poured h w) (left w ++ more)
  unfolding poured
  poured-more h =
      let n : length (w ++ more) / 64 ≡ length w / 64 + length (left w ++ more) / 64 = omega (arith, all, rest) in
      ap (λ (k : ℕ). blocks k h (w ++ more)) n ∙ blocks-add (length w / 64) (length (left w ++ more) / 64) h (w ++ more)
      ∙ ap (λ (c : Chain). blocks (length (left w ++ more) / 64) c (drop (length w / 64 * 64) (w ++ more))) (blocks-front (length w / 64) h w more whole)
      ∙ ap (blocks (length (left w ++ more) / 64) (blocks (length w / 64) h w)) (drop-append-le (length w / 64 * 64) w more whole)

  pub left-more : left (w ++ more) ≡ left (left w ++ more)
  left-more =
      let n : length (w ++ more) / 64 * 64 ≡ length w / 64 * 64 + length (left w ++ more) / 64 * 64 = omega (arith, all, rest) in
      ap (λ (k : ℕ). drop k (w ++ more)) n ∙ sym (drop-drop (length (left w ++ more) / 64 * 64) (length w / 64 * 64) (w ++ more))
      ∙ ap (drop (length (left w ++ more) / 64 * 64)) (drop-append-le (length w / 64 * 64) w more whole)

pub length-left : (w : List ℕ) → length (left w) ≡ length w % 64
length-left w = length-drop (length w / 64 * 64) w ∙ omega arith
