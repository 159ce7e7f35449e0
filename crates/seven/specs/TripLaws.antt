-- Read and write are each other's inverse
use Rattle.std.specs.Prelude.{ℕ, zero, suc, ◌+◌, ◌-◌, ◌*◌, ◌/◌, ◌%◌, ◌≤◌, ◌<◌, ◌≡◌, refl, Bool, true, false, cond, List, [], ◌∷◌, ◌++◌, length, get_or, leb, ltb, eqb, Option, Some, None}
use Rattle.std.proofs.Common.{add-one, arith, sym, ap, ◌∙◌, lt-ltb, le-ltb, le-leb, ne_eqb, leb-true, ltb-true, ltb-false}
use Rattle.std.proofs.lemmas.Bool.{eqb-false}
use Rattle.std.proofs.lemmas.Option.{some_pair_parts}
use Rattle.seven.specs.Groups.{groups, shortest, last, joined, read_from}

-- the first number that k + 1 groups do not hold
abbrev pub cap : ℕ → ℕ
cap zero = 128
cap (suc k) = cap k * 128

pub data Split (n : ℕ) : Type 0 where
  small : n < 128 → Split n
  large : 128 ≤ n → Split n

pub split : (n : ℕ) → Split n
split n = go (ltb n 128) refl
  where
    go : (b : Bool) → ltb n 128 ≡ b → Split n
    go true e = small (ltb-true n 128 e)
    go false e = large (ltb-false n 128 e)

pub groups-last : (k n : ℕ) → n < 128 → groups (suc k) n ≡ n ∷ []
unfolding groups
groups-last k n h = rw (lt-ltb n 128 h)

pub groups-more : (k n : ℕ) → 128 ≤ n → groups (suc k) n ≡ (n % 128 + 128) ∷ groups k (n / 128)
unfolding groups
groups-more k n h = rw (le-ltb n 128 h)

read-last : (k most b i : ℕ) (s : List ℕ) → b < 128 → read_from (suc k) most (b ∷ s) i ≡ last most b i
unfolding read_from
read-last k most b i s h = rw (lt-ltb b 128 h)

read_more : (k most b i : ℕ) (s : List ℕ) → 128 ≤ b → read_from (suc k) most (b ∷ s) i ≡ joined most (b - 128) (read_from k most s (suc i))
unfolding read_from
read_more k most b i s h = rw (le-ltb b 128 h)

-- what was written is read
pub read-written : (k most n i : ℕ) (t : List ℕ) → n ≤ most → n < cap k → read_from (suc k) most (groups (suc k) n ++ t) i ≡ Some (n, i + length (groups (suc k) n))
read-written zero most n i t h c = rw (groups-last zero n c, read-last zero most n i t c, le-leb n most h, add-one i)
read-written (suc j) most n i t h c = go (read-written j most (n / 128) (suc i) t (omega arith) (omega arith)) (split n)
  where
    go : read_from (suc j) most (groups (suc j) (n / 128) ++ t) (suc i) ≡ Some (n / 128, suc i + length (groups (suc j) (n / 128))) → Split n
        → read_from (suc (suc j)) most (groups (suc (suc j)) n ++ t) i ≡ Some (n, i + length (groups (suc (suc j)) n))
    go ih (small l) = rw (groups-last (suc j) n l, read-last (suc j) most n i t l, le-leb n most h, add-one i)
    go ih (large l) =
        let a : n % 128 + 128 - 128 ≡ n % 128 = omega arith in
        let d : n / 128 * 128 + n % 128 ≡ n = omega arith in
        let e : (n / 128 ≡ 0 → ⊥) = λ z. omega arith in
        rw (
          groups-more (suc j) n l,
          read_more (suc j) most (n % 128 + 128) i (groups (suc j) (n / 128) ++ t) (omega arith),
          ih,
          ne_eqb (n / 128) 0 e,
          a,
          d,
          le-leb n most h,
        )
        (ap (λ q. Some (n, q)) (omega arith))

pub one-le : (v : ℕ) → (v ≡ 0 → ⊥) → 1 ≤ v
one-le zero h = absurd (h refl)
one-le (suc v) h = omega arith

-- what was read is what would be written
pub record Sound (k most : ℕ) (s : List ℕ) (i n q : ℕ) : Type 0 where
  pub rest : List ℕ
  pub spelled : s ≡ groups k n ++ rest
  pub after : q ≡ i + length (groups k n)
  pub within : n ≤ most

read_none : (k most : ℕ) (i n q : ℕ) → read_from k most [] i ≡ Some (n, q) → ⊥
unfolding read_from
read_none zero most i n q e = let z : ◌≡◌ {A = ℕ} 0 1 = cc in omega arith
read_none (suc k) most i n q e = let z : ◌≡◌ {A = ℕ} 0 1 = cc in omega arith

read-zero : (most : ℕ) (s : List ℕ) (i n q : ℕ) → read_from zero most s i ≡ Some (n, q) → ⊥
unfolding read_from
read-zero most s i n q e = let z : ◌≡◌ {A = ℕ} 0 1 = cc in omega arith

pub read-sound : (k most : ℕ) (s : List ℕ) (i n q : ℕ) → ((j : ℕ) → get_or s j 0 < 256) → read_from k most s i ≡ Some (n, q) → Sound k most s i n q
read-sound zero most s i n q o e = absurd (read-zero most s i n q e)
read-sound (suc k) most [] i n q o e = absurd (read_none (suc k) most i n q e)
read-sound (suc k) most (b ∷ s) i n q o e = go (λ v p y. read-sound k most s (suc i) v p (λ j. o (suc j)) y) (split b)
  where
    lasted : b < 128 → (x : Bool) → leb b most ≡ x → cond {A = Option (ℕ × ℕ)} x (Some (b, suc i)) None ≡ Some (n, q) → Sound (suc k) most (b ∷ s) i n q
    lasted l false y w = let z : ◌≡◌ {A = ℕ} 0 1 = cc in absurd (omega arith)
    lasted l true y w =
        let uv = some_pair_parts _ _ _ _ w in
        let u : b ≡ n = uv.0 in
        let v : suc i ≡ q = uv.1 in
        let g : groups (suc k) n ≡ b ∷ [] = groups-last k n (omega arith) ∙ ap (λ (x : ℕ). x ∷ []) (sym u) in
        record { rest = s; spelled = rw g; after = rw g (omega arith); within = let m : b ≤ most = leb-true b most y in omega arith }

    whole : 128 ≤ b → (v p : ℕ) → Sound k most s (suc i) v p → (x y : Bool) → eqb v 0 ≡ x → leb (v * 128 + (b - 128)) most ≡ y
        → cond {A = Option (ℕ × ℕ)} x None (cond {A = Option (ℕ × ℕ)} y (Some (v * 128 + (b - 128), p)) None) ≡ Some (n, q) → Sound (suc k) most (b ∷ s) i n q
    whole l v p f true y ex ey w = let z : ◌≡◌ {A = ℕ} 0 1 = cc in absurd (omega arith)
    whole l v p f false false ex ey w = let z : ◌≡◌ {A = ℕ} 0 1 = cc in absurd (omega arith)
    whole l v p f false true ex ey w =
        let ac = some_pair_parts _ _ _ _ w in
        let a : v * 128 + (b - 128) ≡ n = ac.0 in
        let c : p ≡ q = ac.1 in
        let m : v * 128 + (b - 128) ≤ most = leb-true (v * 128 + (b - 128)) most ey in
        let nz : (v ≡ 0 → ⊥) = eqb-false v 0 ex in
        let w256 : b < 256 = o 0 in
        let pos : 1 ≤ v = one-le v nz in
        let hi : n % 128 + 128 ≡ b = omega arith in
        let lo : n / 128 ≡ v = omega arith in
        let g : groups (suc k) n ≡ b ∷ groups k v = groups-more k n (omega arith) ∙ ap (λ (x : ℕ). x ∷ groups k (n / 128)) hi ∙ ap (λ (x : ℕ). b ∷ groups k x) lo in
        let fa : p ≡ suc i + length (groups k v) = f.after in
        record { rest = f.rest; spelled = rw g (ap (λ (u : List ℕ). b ∷ u) f.spelled); after = rw g (omega arith); within = omega arith }

    more : ((v p : ℕ) → read_from k most s (suc i) ≡ Some (v, p) → Sound k most s (suc i) v p) → 128 ≤ b → (x : Option (ℕ × ℕ)) → read_from k most s (suc i) ≡ x → joined most (b - 128) x ≡ Some (n, q) → Sound (suc k) most (b ∷ s) i n q
    more ih l None y w = let z : ◌≡◌ {A = ℕ} 0 1 = cc in absurd (omega arith)
    more ih l (Some (v, p)) y w = whole l v p (ih v p y) (eqb v 0) (leb (v * 128 + (b - 128)) most) refl refl w

    go : ((v p : ℕ) → read_from k most s (suc i) ≡ Some (v, p) → Sound k most s (suc i) v p) → Split b → Sound (suc k) most (b ∷ s) i n q
    go ih (small l) = lasted l (leb b most) refl (sym (read-last k most b i s l) ∙ e)
    go ih (large l) = more ih l (read_from k most s (suc i)) refl (sym (read_more k most b i s l) ∙ e)

-- refusal: nothing written stands there
pub read-refused : (most : ℕ) (s : List ℕ) (i : ℕ) → read_from 10 most s i ≡ None → (n : ℕ) (t : List ℕ) → n ≤ most → n < 18446744073709551616 → s ≡ shortest n ++ t → ⊥
read-refused most s i e n t h l w =
    let r : read_from 10 most (shortest n ++ t) i ≡ Some (n, i + length (shortest n)) = read-written 9 most n i t h (omega arith) in
    let b : read_from 10 most (shortest n ++ t) i ≡ None = ap (λ (u : List ℕ). read_from 10 most u i) (sym w) ∙ e in
    let z : ◌≡◌ {A = ℕ} 0 1 = cc in omega arith
