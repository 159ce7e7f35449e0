-- What the loops over content learn at one step, and what they carry along.
use Rattle.std.specs.Prelude.{ℕ, zero, suc, ◌+◌, ◌*◌, ◌-◌, ◌≤◌, ◌<◌, List, [], ◌∷◌, ◌≡◌, refl, Bool, true, false, cond, ◌&&◌, eqb, length, get_or, take, drop, Option, Some, None}
use Rattle.std.proofs.Common.{zero-add, add-zero, suc-add, not-suc-le-zero, le_of_suc-le-suc, add-one, arith, ap, sym, ◌∙◌, eq-eqb, ne_eqb, le-leb, length-drop, drop_of_length-le, drop-cons, take_all, length-take-le}
use Rattle.std.proofs.Math.Bool.{and-false}
use Rattle.std.proofs.lemmas.Bool.{lt-leb}
use Rattle.std.proofs.lemmas.Option.{none-some, same_Some}
use Rattle.std.proofs.Math.Dec.{eqb-zero-suc, eqb-suc-suc}
use Rattle.std.proofs.Math.Seq.{slice, take-length, take-nil}
use Rattle.syntax.specs.Octets.{same, within}
use Rattle.syntax.specs.Content.{releases, content_from, content, all_digits, value_from}
use Rattle.syntax.specs.Scanning.{released, next_of, number_in}
use Rattle.syntax.proofs.CuttingLaws.{drop-tail, slice-take}

-- a part is the octets that the code takes from `a` on
pub part-inside : (a e : ℕ) (s : List ℕ) → a ≤ e → take (e - a) (drop a s) ≡ slice a e s
part-inside a e s h = sym (slice-take a e s)

-- a part that starts after its own end, or ends after the list
module _ (a e : ℕ) (s : List ℕ) where
  pub part-crossed : e ≤ length s → e < a → [] ≡ slice a e s
  part-crossed h l =
      let m : length (take e s) ≤ a = rw (length-take-le e s h) (omega arith) in
      sym (drop_of_length-le (take e s) m)

  pub part-beyond : length s < e → a ≤ length s → take (length s - a) (drop a s) ≡ slice a e s
  part-beyond h l =
      let k : length s ≤ e = omega arith in
      part-inside a (length s) s l ∙ rw (take-length, take_all e s k)

  pub part-outside : length s < e → length s < a → [] ≡ slice a e s
  part-outside h l =
      let k : length s ≤ e = omega arith in
      let m : length s ≤ a = omega arith in
      rw (take_all e s k, drop_of_length-le s m)

-- the next octet, by what the code sees at i of x
module _ (ρ : ℕ) (x : List ℕ) (i : ℕ) where
  pub next-none : length x ≤ i → None ≡ next_of ρ (drop i x) i
  next-none h = rw (drop_of_length-le x h)

  module _ (h : i < length x) where
    pub next-other : (get_or x i 0 ≡ ρ → ⊥) → Some (get_or x i 0, i + 1) ≡ next_of ρ (drop i x) i
    next-other d = by (eqb (get_or x i 0) 32) refl
      where
        by : (t : Bool) → eqb (get_or x i 0) 32 ≡ t → Some (get_or x i 0, i + 1) ≡ next_of ρ (drop i x) i
        by true e = rw (drop-cons x i 0 h, e)
        by false e = rw (drop-cons x i 0 h, e, ne_eqb _ _ d)

    pub next-space : get_or x i 0 ≡ 32 → Some (get_or x i 0, i + 1) ≡ next_of ρ (drop i x) i
    next-space e = rw (drop-cons x i 0 h, eq-eqb _ _ e)

    module _ (w : get_or x i 0 ≡ 32 → ⊥) where
      pub next-cut : get_or x i 0 ≡ ρ → length x ≤ i + 1 → None ≡ next_of ρ (drop i x) i
      next-cut e l =
          let m : length x ≤ suc i = omega arith in
          rw (drop-cons x i 0 h, ne_eqb _ _ w, eq-eqb _ _ e, drop_of_length-le x m)

      pub next-freed : get_or x i 0 ≡ ρ → i + 1 < length x → Some (get_or x (i + 1) 0, i + 1 + 1) ≡ next_of ρ (drop i x) i
      next-freed e l =
          let m : suc i < length x = omega arith in
          rw (drop-cons x i 0 h, ne_eqb _ _ w, eq-eqb _ _ e, add-one i, drop-cons x (suc i) 0 m)

-- nothing is released where the release is a space
pub plain-content : (x : List ℕ) → content 32 x ≡ x
plain-content [] = refl
plain-content (b ∷ x) = by (eqb b 32) ∙ ap (λ (z : List ℕ). b ∷ z) (plain-content x)
  where
    by : (c : Bool) → cond (cond c false c) (content_from 32 true x) (b ∷ content_from 32 false x) ≡ b ∷ content_from 32 false x
    by true = refl
    by false = refl

-- `b` is the first octet of the content from i of x, and the rest is the content from j
pub record Stepped (ρ : ℕ) (x : List ℕ) (i b j : ℕ) : Type 0 where
  pub gives : content ρ (drop i x) ≡ b ∷ content ρ (drop j x)
  pub forward : i < j
  pub inside : j ≤ length x

-- so less is left of x
stepped-less : {ρ : ℕ} {x : List ℕ} {i b j : ℕ} → Stepped ρ x i b j → length x - j < length x - i
stepped-less w = omega arith

next-tail : (i : ℕ) (s : List ℕ) {b : ℕ} {l : List ℕ} → drop i s ≡ b ∷ l → drop (i + 1) s ≡ l
next-tail i s e = rw add-one (drop-tail i s e)

pub drop-short : (i : ℕ) (s : List ℕ) {b : ℕ} {l : List ℕ} → drop i s ≡ b ∷ l → i < length s
drop-short i s e = omega (arith, length-drop i s, ap length e)

-- what a pair that was found says of each half
pub found-first : {A B : Type 0} {a c : A} {b d : B} → ◌≡◌ {A = Option (A × B)} (Some (a, b)) (Some (c, d)) → a ≡ c
found-first e = ap (λ z. z.0) (same_Some _ _ e)

pub found-second : {A B : Type 0} {a c : A} {b d : B} → ◌≡◌ {A = Option (A × B)} (Some (a, b)) (Some (c, d)) → b ≡ d
found-second e = ap (λ z. z.1) (same_Some _ _ e)

pub not-over : {b j : ℕ} → ◌≡◌ {A = Option (ℕ × ℕ)} None (Some (b, j)) → ⊥
not-over e = none-some _ e

not-octet : {b j : ℕ} → ◌≡◌ {A = Option (ℕ × ℕ)} (Some (b, j)) None → ⊥
not-octet e = none-some _ (sym e)

module _ (ρ : ℕ) (x : List ℕ) (b j : ℕ) where
  -- a head that is content
  kept : (i a : ℕ) (l : List ℕ) → drop i x ≡ a ∷ l → ◌≡◌ {A = Option (ℕ × ℕ)} (Some (a, i + 1)) (Some (b, j)) → (a ∷ content ρ l ≡ b ∷ content ρ (drop j x)) × (i < j) × (j ≤ length x)
  kept i a l d e =
      let p : a ≡ b = found-first e in
      let q : i + 1 ≡ j = found-second e in
      let h = drop-short i x d in
      (rw (p, ← q, next-tail i x d), omega arith, omega arith)

  freed : (i : ℕ) (l : List ℕ) → drop i x ≡ l → released l i ≡ Some (b, j) → (content_from ρ true l ≡ b ∷ content ρ (drop j x)) × (i < j) × (j ≤ length x)
  freed i [] d e = absurd (not-over e)
  freed i (a ∷ l) d e = kept i a l d e

  step : (i : ℕ) (l : List ℕ) → drop i x ≡ l → next_of ρ l i ≡ Some (b, j) → (content ρ l ≡ b ∷ content ρ (drop j x)) × (i < j) × (j ≤ length x)
  step i [] d e = absurd (not-over e)
  step i (a ∷ l) d e = pick (releases ρ a) e
    where
      pick : (t : Bool) → cond t (released l (i + 1)) (Some (a, i + 1)) ≡ Some (b, j) →
          (cond t (content_from ρ true l) (a ∷ content ρ l) ≡ b ∷ content ρ (drop j x)) × (i < j) × (j ≤ length x)
      pick true e =
          let w = freed (i + 1) l (next-tail i x d) e in
          (w.0, omega arith, w.2)
      pick false e = kept i a l d e

freed-over : (ρ i : ℕ) (l : List ℕ) → released l i ≡ None → content_from ρ true l ≡ []
freed-over ρ i [] e = refl
freed-over ρ i (a ∷ l) e = absurd (not-octet e)

over : (ρ i : ℕ) (l : List ℕ) → next_of ρ l i ≡ None → content ρ l ≡ []
over ρ i [] e = refl
over ρ i (a ∷ l) e = pick (releases ρ a) e
  where
    pick : (t : Bool) → cond t (released l (i + 1)) (Some (a, i + 1)) ≡ None → cond t (content_from ρ true l) (a ∷ content ρ l) ≡ []
    pick true e = freed-over ρ (i + 1) l e
    pick false e = absurd (not-octet e)

-- what a loop learns from `next_octet`
module _ (ρ : ℕ) (x : List ℕ) (i : ℕ) {r : Option (ℕ × ℕ)} (e : r ≡ next_of ρ (drop i x) i) where
  pub next-steps : {b j : ℕ} → r ≡ Some (b, j) → Stepped ρ x i b j
  next-steps {b} {j} d =
      let w = step ρ x b j i (drop i x) refl (sym e ∙ d) in
      record { gives = w.0; forward = w.1; inside = w.2 }

  pub next-over : r ≡ None → content ρ (drop i x) ≡ []
  next-over d = over ρ i (drop i x) (sym e ∙ d)

-- a count under way: the answer is n and the length of the content from i
pub record Lengthening (ρ answer : ℕ) (x : List ℕ) (i n : ℕ) : Type 0 where
  pub few : n ≤ i
  pub sums : answer ≡ n + length (content ρ (drop i x))

module _ {ρ answer : ℕ} {x : List ℕ} {i n : ℕ} (g : Lengthening ρ answer x i n) {r : Option (ℕ × ℕ)} (e : r ≡ next_of ρ (drop i x) i) where
  pub lengthening-end : r ≡ None → n ≡ answer
  lengthening-end d =
      let h : length (content ρ (drop i x)) ≡ 0 = ap length (next-over ρ x i e d) in
      let k = g.sums in omega arith

  module _ {b j : ℕ} (d : r ≡ Some (b, j)) where
    lengthening-steps : Stepped ρ x i b j
    lengthening-steps = next-steps ρ x i e d

    pub lengthening-less : length x - j < length x - i
    lengthening-less = stepped-less lengthening-steps

    pub lengthening-fits : n < length x
    lengthening-fits = let h = g.few in let w = lengthening-steps in omega arith

    pub lengthening-on : Lengthening ρ answer x j (n + 1)
    lengthening-on =
        let w = lengthening-steps in
        let h : length (content ρ (drop i x)) ≡ suc (length (content ρ (drop j x))) = ap length w.gives in
        let k = g.sums in record { few = omega arith; sums = omega arith }

-- a comparison under way: the answer is whether the content from i is what t has from k
pub record Spelling (ρ : ℕ) (answer : Bool) (x : List ℕ) (i : ℕ) (t : List ℕ) (k : ℕ) : Type 0 where
  pub in-text : k ≤ length t
  pub spells : answer ≡ same (content ρ (drop i x)) (drop k t)

nil_end : (k : ℕ) (t : List ℕ) → k ≤ length t → same [] (drop k t) ≡ eqb k (length t)
nil_end zero [] h = refl
nil_end zero (b ∷ t) h = sym (eqb-zero-suc (length t))
nil_end (suc k) [] h = absurd (not-suc-le-zero h)
nil_end (suc k) (b ∷ t) h = nil_end k t (le_of_suc-le-suc h) ∙ sym (eqb-suc-suc k (length t))

module _ {ρ : ℕ} {answer : Bool} {x : List ℕ} {i : ℕ} {t : List ℕ} {k : ℕ} (g : Spelling ρ answer x i t k) {r : Option (ℕ × ℕ)} (e : r ≡ next_of ρ (drop i x) i) where
  pub spelling-end : r ≡ None → eqb k (length t) ≡ answer
  spelling-end d = sym (g.spells ∙ rw (next-over ρ x i e d) (nil_end k t g.in-text))

  module _ {b j : ℕ} (d : r ≡ Some (b, j)) where
    spelling-steps : Stepped ρ x i b j
    spelling-steps = next-steps ρ x i e d

    pub spelling-less : length x - j < length x - i
    spelling-less = stepped-less spelling-steps

    pub spelling-short : length t ≤ k → false ≡ answer
    spelling-short m = sym (g.spells ∙ rw (spelling-steps.gives, drop_of_length-le t m))

    pub spelling-other : k < length t → (b ≡ get_or t k 0 → ⊥) → false ≡ answer
    spelling-other m u = sym (g.spells ∙ rw (spelling-steps.gives, drop-cons t k 0 m, ne_eqb _ _ u))

    pub spelling-on : k < length t → b ≡ get_or t k 0 → Spelling ρ answer x j t (k + 1)
    spelling-on m u =
        record { in-text = omega arith; spells = g.spells ∙ rw (add-one k, spelling-steps.gives, drop-cons t k 0 m, eq-eqb _ _ u) }

-- ---- octet for octet

-- where x and z are the same from i on, they are the same
pub record Alike (x z : List ℕ) (i : ℕ) : Type 0 where
  pub size : length x ≡ length z
  pub rest : drop i x ≡ drop i z → x ≡ z

pub alike-on : {x z : List ℕ} {i : ℕ} → Alike x z i → i < length x → get_or x i 0 ≡ get_or z i 0 → Alike x z (i + 1)
alike-on {x} {z} {i} g h e =
    let n = g.size in
    record { size = n; rest = λ d. g.rest (drop-cons x i 0 h ∙ cons e (rw (← add-one i) d) ∙ sym (drop-cons z i 0 (omega arith))) }
  where
    cons : {a b : ℕ} {l m : List ℕ} → a ≡ b → l ≡ m → a ∷ l ≡ b ∷ m
    cons p q = cc

pub alike_end : {x z : List ℕ} {i : ℕ} → Alike x z i → length x ≤ i → true ≡ true → x ≡ z
alike_end {x} {z} {i} g h t = let n = g.size in let m : length z ≤ i = omega arith in g.rest (drop_of_length-le x h ∙ sym (drop_of_length-le z m))

pub same_self : (x : List ℕ) → same x x ≡ true
same_self [] = refl
same_self (b ∷ x) = rw (eq-eqb b b refl) (same_self x)

-- the answer is whether the content from i is digits
pub record Digital (ρ : ℕ) (answer : Bool) (x : List ℕ) (i : ℕ) : Type 0 where
  pub are : answer ≡ all_digits (content ρ (drop i x))

module _ {ρ : ℕ} {answer : Bool} {x : List ℕ} {i : ℕ} (g : Digital ρ answer x i) {r : Option (ℕ × ℕ)} (e : r ≡ next_of ρ (drop i x) i) where
  pub digital-end : r ≡ None → true ≡ answer
  digital-end d = sym (g.are ∙ rw (next-over ρ x i e d))

  module _ {b j : ℕ} (d : r ≡ Some (b, j)) where
    digital-steps : Stepped ρ x i b j
    digital-steps = next-steps ρ x i e d

    pub digital-less : length x - j < length x - i
    digital-less = stepped-less digital-steps

    pub digital-below : b < 48 → false ≡ answer
    digital-below h = sym (g.are ∙ rw (digital-steps.gives, lt-leb 48 b h))

    pub digital-above : 48 ≤ b → 57 < b → false ≡ answer
    digital-above l h = sym (g.are ∙ rw (digital-steps.gives, le-leb 48 b l, lt-leb b 57 h))

    pub digital-on : 48 ≤ b → b ≤ 57 → Digital ρ answer x j
    digital-on l h = record { are = g.are ∙ rw (digital-steps.gives, le-leb 48 b l, le-leb b 57 h) }

-- 10 to the n: what n digits give is below it, so 15 of them fit
abbrev pub power : ℕ → ℕ
power zero = 1
power (suc n) = power n * 10

power-more : (n k : ℕ) → power n ≤ power (k + n)
power-more n zero = rw (zero-add n) (omega arith)
power-more n (suc k) = let h = power-more n k in rw (suc-add k n) (omega arith)

power-fits : (n : ℕ) → n ≤ 14 → power n ≤ 100000000000000
power-fits n h = let p : (14 - n) + n ≡ 14 = omega arith in rw p at (power-more n (14 - n))

-- what n digits that give v and the octets of s make
abbrev pub number_from : ℕ → ℕ → List ℕ → Option ℕ
number_from n v s = cond (all_digits s && within 1 15 (length s + n)) (Some (value_from v s)) None

-- a reading under way: n digits give v, and the answer is what they make with the content from i
pub record Numbering (ρ : ℕ) (answer : Option ℕ) (x : List ℕ) (i n v : ℕ) : Type 0 where
  pub few : n ≤ 15
  pub bound : v < power n
  pub makes : answer ≡ number_from n v (content ρ (drop i x))

power-suc : (n : ℕ) → power (n + 1) ≡ power n * 10
power-suc n = rw add-one

pub numbering-starts : (ρ : ℕ) (x : List ℕ) → Numbering ρ (number_in (content ρ x)) x 0 0 0
numbering-starts ρ x = record { few = omega arith; bound = omega arith; makes = rw add-zero }

module _ {ρ : ℕ} {answer : Option ℕ} {x : List ℕ} {i n v : ℕ} (g : Numbering ρ answer x i n v) where
  -- one more digit fits
  pub numbering-fits : n < 15 → v < 100000000000000
  numbering-fits h = omega (arith, g.bound, power-fits n (omega arith))

  module _ {r : Option (ℕ × ℕ)} (e : r ≡ next_of ρ (drop i x) i) where
    pub numbering-none : r ≡ None → n ≡ 0 → None ≡ answer
    numbering-none d z = sym (g.makes ∙ rw (next-over ρ x i e d, z))

    pub numbering-end : r ≡ None → (n ≡ 0 → ⊥) → Some v ≡ answer
    numbering-end d z = sym (g.makes ∙ rw (next-over ρ x i e d, zero-add n, le-leb 1 n (omega arith), le-leb n 15 g.few))

    module _ {b j : ℕ} (d : r ≡ Some (b, j)) where
      numbering-steps : Stepped ρ x i b j
      numbering-steps = next-steps ρ x i e d

      pub numbering-less : length x - j < length x - i
      numbering-less = stepped-less numbering-steps

      pub numbering-below : b < 48 → None ≡ answer
      numbering-below h = sym (g.makes ∙ rw (numbering-steps.gives, lt-leb 48 b h))

      module _ (l : 48 ≤ b) where
        pub numbering-above : 57 < b → None ≡ answer
        numbering-above h = sym (g.makes ∙ rw (numbering-steps.gives, le-leb 48 b l, lt-leb b 57 h))

        module _ (h : b ≤ 57) where
          pub numbering-long : 15 ≤ n → None ≡ answer
          numbering-long m =
              let k : 15 < suc (length (content ρ (drop j x))) + n = omega arith in
              sym (g.makes ∙ rw (numbering-steps.gives, le-leb 48 b l, le-leb b 57 h, lt-leb _ 15 k, and-false, and-false))

          pub numbering-on : {w : ℕ} → n < 15 → w ≡ b → Numbering ρ answer x j (n + 1) (v * 10 + (w - 48))
          numbering-on {w} m q =
              let u = g.bound in
              let p : suc (length (content ρ (drop j x))) + n ≡ length (content ρ (drop j x)) + (n + 1) = omega arith in
              record {
                few = omega arith;
                bound = rw power-suc (omega arith);
                makes = g.makes ∙ rw (q, numbering-steps.gives, le-leb 48 b l, le-leb b 57 h, p);
              }
