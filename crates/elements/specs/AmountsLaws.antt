-- What the loops over the digits of an amount learn at one step, and what they carry along.
use Rattle.std.specs.Prelude.{ℕ, zero, suc, ◌+◌, ◌*◌, ◌-◌, ◌≤◌, ◌<◌, List, [], ◌∷◌, ◌≡◌, refl, Bool, true, false, cond, T, eqb, leb, ltb, length, drop, Option, Some, None}
use Rattle.std.proofs.Common.{zero-add, add-zero, suc-add, add-mul, mul_assoc, mul-one, one-mul, mul-le-mul_left, mul-le-mul_right, mul-lt-mul_of_pos_right, add-one, arith, ap, sym, subst, ◌∙◌, le-leb, leb-true, lt-ltb, ne_eqb, eqb-true, leb→le}
use Rattle.std.proofs.Math.Bool.{and-false}
use Rattle.std.proofs.Math.Option.{Option as Maybe, none, some}
use Rattle.std.proofs.lemmas.Bool.{lt-leb}
use Rattle.std.proofs.lemmas.Option.{none-some, same_Some}
use Rattle.syntax.specs.Octets.{octets, same, within, digit}
use Rattle.syntax.specs.Content.{content, all_digits, value_from}
use Rattle.syntax.specs.Scanning.{next_of}
use Rattle.syntax.proofs.TreeLaws.{and_left, and_right}
use Rattle.syntax.proofs.ContentLaws.{Stepped, next-steps, next-over}
use Rattle.grammar.specs.Grams as number
use Rattle.grammar.specs.Grams.{signed, below, magnitude}
use Rattle.grammar.specs.WeighedLaws.{signed_back}
use Rattle.grammar.specs.Loads.{Shape, shape, reversed, unsigned, mark, before, behind, digits, tens, fraction_right, fraction, weight_right, weight, amount_right, grams, unit, right_by, control_by, load_by}
use Rattle.elements.specs.Amounts.{weight_is, amount_is, unit_is, weight_from, fraction_of, fraction_from, Unsigned}
use Rattle.elements.specs.declared.amounts.Form.{Form}

-- ---- tens

pub tens-pos : (n : ℕ) → 0 < tens n
tens-pos zero = omega arith
tens-pos (suc n) = let h = tens-pos n in omega arith

tens-more : (n k : ℕ) → tens n ≤ tens (k + n)
tens-more n zero = rw (zero-add n) (omega arith)
tens-more n (suc k) = let h = tens-more n k in rw (suc-add k n) (omega arith)

pub tens-below : (n m : ℕ) → n ≤ m → tens n ≤ tens m
tens-below n m h = let p : (m - n) + n ≡ m = omega arith in rw p at (tens-more n (m - n))

tens-add : (a b : ℕ) → tens (a + b) ≡ tens a * tens b
tens-add zero b = rw (zero-add b) (omega arith)
tens-add (suc a) b = rw (suc-add a b, tens-add a b, mul_assoc 10 (tens a) (tens b))

tens-suc : (n : ℕ) → tens (n + 1) ≡ 10 * tens n
tens-suc n = rw add-one

-- digits behind v
value-split : (v : ℕ) (s : List ℕ) → value_from v s ≡ v * tens (length s) + value_from 0 s
value-split v [] = rw (mul-one v) (omega arith)
value-split v (b ∷ s) =
    let e = value-split (v * 10 + (b - 48)) s in
    let f = value-split (0 * 10 + (b - 48)) s in
    let p = add-mul (v * 10) (b - 48) (tens (length s)) in
    let q = add-mul (0 * 10) (b - 48) (tens (length s)) in
    let o = mul_assoc v 10 (tens (length s)) in
    let z : 0 * 10 * tens (length s) ≡ 0 = omega arith in
    omega arith

-- ---- the digits behind the mark

-- n digits behind the mark, all give g, and the answer is what they make with the content from i
pub record Parting (ρ d : ℕ) (answer : Option ℕ) (x : List ℕ) (i n g : ℕ) : Type 0 where
  pub few : n ≤ d
  pub small : d ≤ 6
  pub bound : g < 1000000000000 * tens n
  pub makes : answer ≡ fraction_from d n g (content ρ (drop i x))

part-start : (v d : ℕ) (s : List ℕ) → fraction_of v d s ≡ fraction_from d 0 v s
part-start v d s = rw (add-zero (length s)) (by-test (leb (length s) d) refl)
  where
    by-test : (t : Bool) → leb (length s) d ≡ t →
        fraction_of v d s ≡ weight_is (digits d s) (value_from v s * tens (d - length s))
    by-test true h =
        let l = leb-true (length s) d h in
        let p : length s + (d - length s) ≡ d = omega arith in
        let q : tens d ≡ tens (length s) * tens (d - length s) = sym (ap tens p) ∙ tens-add (length s) (d - length s) in
        ap (weight_is (digits d s)) (rw (value-split v s, q, add-mul (v * tens (length s)) (value_from 0 s) (tens (d - length s)), mul_assoc v (tens (length s)) (tens (d - length s))))
    by-test false h = rw (h, and-false, and-false)

pub parting-starts : (ρ d v : ℕ) (x : List ℕ) (i : ℕ) → (v < 1000000000000) × (d ≤ 6) → Parting ρ d (fraction_of v d (content ρ (drop i x))) x i 0 v
parting-starts ρ d v x i h = record { few = omega arith; small = h.1; bound = omega (arith, h.0); makes = part-start v d (content ρ (drop i x)) }

module _ {ρ d : ℕ} {answer : Option ℕ} {x : List ℕ} {i n g : ℕ} (u : Parting ρ d answer x i n g) where
  -- one more digit fits
  pub parting-fits : n < d → g < 100000000000000000
  parting-fits h = omega (arith, u.bound, u.small, tens-below n 5 (omega (arith, h, u.small)))

  pub parting-scales : g * tens (d - n) < 1000000000000000000
  parting-scales =
      let p : n + (d - n) ≡ d = omega (arith, u.few) in
      let q : tens d ≡ tens n * tens (d - n) = sym (ap tens p) ∙ tens-add n (d - n) in
      let m = mul-lt-mul_of_pos_right u.bound (tens-pos (d - n)) in
      let o = mul_assoc 1000000000000 (tens n) (tens (d - n)) in
      let l = tens-below d 6 u.small in
      omega arith

  module _ {r : Option (ℕ × ℕ)} (e : r ≡ next_of ρ (drop i x) i) where
    pub parting-none : r ≡ None → n ≡ 0 → None ≡ answer
    parting-none f z = sym (u.makes ∙ rw (next-over ρ x i e f, z))

    pub parting-end : {k : ℕ} → r ≡ None → (n ≡ 0 → ⊥) → k ≡ g * tens (d - n) → Some k ≡ answer
    parting-end f z q = sym (u.makes ∙ rw (next-over ρ x i e f, zero-add n, le-leb 1 n (omega arith), le-leb n d u.few, q))

    module _ {b j : ℕ} (f : r ≡ Some (b, j)) where
      parting-steps : Stepped ρ x i b j
      parting-steps = next-steps ρ x i e f

      pub parting-less : length x - j < length x - i
      parting-less = let w = parting-steps in omega arith

      pub parting-below : b < 48 → None ≡ answer
      parting-below h = sym (u.makes ∙ rw (parting-steps.gives, lt-leb 48 b h))

      module _ (l : 48 ≤ b) where
        pub parting-above : 57 < b → None ≡ answer
        parting-above h = sym (u.makes ∙ rw (parting-steps.gives, le-leb 48 b l, lt-leb b 57 h))

        module _ (h : b ≤ 57) where
          pub parting-long : d ≤ n → None ≡ answer
          parting-long m =
              let k : d < suc (length (content ρ (drop j x))) + n = omega arith in
              sym (u.makes ∙ rw (parting-steps.gives, le-leb 48 b l, le-leb b 57 h, lt-leb _ d k, and-false, and-false))

          pub parting-on : {w : ℕ} → n < d → (w ≡ b) × (w < 256) → Parting ρ d answer x j (n + 1) (g * 10 + (w - 48))
          parting-on {w} m q =
              let v = u.bound in
              let p : suc (length (content ρ (drop j x))) + n ≡ length (content ρ (drop j x)) + (n + 1) = omega arith in
              let t = tens-suc n in
              let y = q.0 in
              record {
                few = omega arith;
                small = u.small;
                bound = omega arith;
                makes = u.makes ∙ rw (q.0, parting-steps.gives, le-leb 48 b l, le-leb b 57 h, p);
              }

-- ---- the digits before the mark

-- n digits give v, and the answer is what they make with the content from i
pub record Wholing (ρ w d : ℕ) (answer : Option ℕ) (x : List ℕ) (i n v : ℕ) : Type 0 where
  pub few : n ≤ w
  pub small : w ≤ 12
  pub parts : d ≤ 6
  pub bound : v < tens n
  pub makes : answer ≡ weight_from w d n v (content ρ (drop i x))

pub wholing-starts : (ρ w d : ℕ) (x : List ℕ) (i : ℕ) → (w ≤ 12) × (d ≤ 6) →
    Wholing ρ w d (weight_is (weight_right (shape w d) (content ρ (drop i x))) (weight (shape w d) (content ρ (drop i x)))) x i 0 0
wholing-starts ρ w d x i h = record { few = omega arith; small = h.0; parts = h.1; bound = omega arith; makes = rw add-zero }

module _ {ρ w d : ℕ} {answer : Option ℕ} {x : List ℕ} {i n v : ℕ} (u : Wholing ρ w d answer x i n v) where
  pub wholing-small : (v < 1000000000000) × (d ≤ 6)
  wholing-small =
      let k = u.bound in
      let l = tens-below n 12 (omega (arith, u.few, u.small)) in
      (omega arith, u.parts)

  pub wholing-scales : v * tens d < 1000000000000000000
  wholing-scales =
      let k = wholing-small.0 in
      let l = tens-below d 6 u.parts in
      let m = mul-le-mul_left v l in
      omega arith

  module _ {r : Option (ℕ × ℕ)} (e : r ≡ next_of ρ (drop i x) i) where
    pub wholing-none : r ≡ None → n ≡ 0 → None ≡ answer
    wholing-none f z = sym (u.makes ∙ rw (next-over ρ x i e f, z))

    pub wholing-end : {k : ℕ} → r ≡ None → (n ≡ 0 → ⊥) → k ≡ v * tens d → Some k ≡ answer
    wholing-end f z q = sym (u.makes ∙ rw (next-over ρ x i e f, zero-add n, le-leb 1 n (omega arith), le-leb n w u.few, q, add-zero))

    module _ {b j : ℕ} (f : r ≡ Some (b, j)) where
      wholing-steps : Stepped ρ x i b j
      wholing-steps = next-steps ρ x i e f

      pub wholing-less : length x - j < length x - i
      wholing-less = let w = wholing-steps in omega arith

      module _ {t : Bool} (a : t ≡ mark b) where
        pub wholing-bare : t ≡ true → n ≡ 0 → None ≡ answer
        wholing-bare o z = sym (u.makes ∙ rw (wholing-steps.gives, ← a, o, z))

        pub wholing-mark : {y : Option ℕ} → t ≡ true → (n ≡ 0 → ⊥) → y ≡ fraction_of v d (content ρ (drop j x)) → y ≡ answer
        wholing-mark o z q = q ∙ sym (u.makes ∙ rw (wholing-steps.gives, ← a, o, zero-add n, le-leb 1 n (omega arith), le-leb n w u.few))

        module _ (o : t ≡ false) where
          pub wholing-below : b < 48 → None ≡ answer
          wholing-below h = sym (u.makes ∙ rw (wholing-steps.gives, ← a, o, lt-leb 48 b h))

          module _ (l : 48 ≤ b) where
            pub wholing-above : 57 < b → None ≡ answer
            wholing-above h = sym (u.makes ∙ rw (wholing-steps.gives, ← a, o, le-leb 48 b l, lt-leb b 57 h))

            module _ (h : b ≤ 57) where
              pub wholing-long : w ≤ n → None ≡ answer
              wholing-long m =
                  let k : w < suc (length (before (content ρ (drop j x)))) + n = omega arith in
                  sym (u.makes ∙ rw (wholing-steps.gives, ← a, o, le-leb 48 b l, le-leb b 57 h, lt-leb _ w k, and-false, and-false))

              pub wholing-on : {y : ℕ} → n < w → (y ≡ b) × (y < 256) → Wholing ρ w d answer x j (n + 1) (v * 10 + (y - 48))
              wholing-on {y} m q =
                  let k = u.bound in
                  let p : suc (length (before (content ρ (drop j x)))) + n ≡ length (before (content ρ (drop j x))) + (n + 1) = omega arith in
                  let t = tens-suc n in
                  let y = q.0 in
                  record {
                    few = omega arith;
                    small = u.small;
                    parts = u.parts;
                    bound = omega arith;
                    makes = u.makes ∙ rw (q.0, wholing-steps.gives, ← a, o, le-leb 48 b l, le-leb b 57 h, p);
                  }

-- ---- the minus before them

module _ (ρ : ℕ) (x : List ℕ) {r : Option (ℕ × ℕ)} (e : r ≡ next_of ρ x 0) where
  pub minus-over : r ≡ None → Unsigned (content ρ x) 0 (content ρ x)
  minus-over f = let n = next-over ρ x 0 e f in record { rest = rw n; minus = rw n }

  module _ {b j : ℕ} (f : r ≡ Some (b, j)) where
    minus-steps : Stepped ρ x 0 b j
    minus-steps = next-steps ρ x 0 e f

    pub minus-leads : b ≡ 45 → Unsigned (content ρ x) j (content ρ (drop j x))
    minus-leads h = let w = minus-steps in record { rest = rw (minus-steps.gives, h); minus = rw (minus-steps.gives, h) (lt-ltb 0 j (omega arith)) }

    pub minus-none : (b ≡ 45 → ⊥) → Unsigned (content ρ x) 0 (content ρ x)
    minus-none h = record { rest = rw (minus-steps.gives, ne_eqb b 45 h); minus = rw (minus-steps.gives, ne_eqb b 45 h) }

weight-known : (b : Bool) (n k : ℕ) → Some n ≡ weight_is b k → (b ≡ true) × (n ≡ k)
weight-known true n k e = let p : n ≡ k = cc in (refl, p)
weight-known false n k e = let z : ◌≡◌ {A = ℕ} 0 1 = cc in let y : ⊥ = omega arith in absurd y

weight-lacks : (b : Bool) (k : ℕ) → None ≡ weight_is b k → b ≡ false
weight-lacks true k e = cc
weight-lacks false k e = refl

-- where digits lead, no minus does
module _ (w d : ℕ) where
  first-digit : (c : List ℕ) → weight_right (shape w d) c ≡ true → Unsigned c 0 c
  first-digit [] h = record { rest = refl; minus = refl }
  first-digit (b ∷ c) h = by (eqb b 45) refl
    where
      by : (t : Bool) → eqb b 45 ≡ t → Unsigned (b ∷ c) 0 (b ∷ c)
      by true e =
          let z : ◌≡◌ {A = Bool} false true = subst (λ (x : ℕ). weight_right (shape w d) (x ∷ c) ≡ true) (eqb-true b 45 e) h in
          let y : ◌≡◌ {A = ℕ} 0 1 = cc in
          let n : ⊥ = omega arith in
          absurd n
      by false e = record { rest = rw e; minus = sym e }

  pub weight-absent : (c : List ℕ) {y : Option ℕ} → y ≡ weight_is (weight_right (shape w d) c) (weight (shape w d) c) → y ≡ None → weight_right (shape w d) c ≡ false
  weight-absent c e f = weight-lacks (weight_right (shape w d) c) (weight (shape w d) c) (sym f ∙ e)

  pub amount-absent : (ρ : ℕ) (x : List ℕ) {from : ℕ} → Unsigned (content ρ x) from (content ρ (drop from x)) → from ≡ 0 → weight_right (shape w d) (content ρ x) ≡ false →
      None ≡ amount_is (amount_right (shape w d) (content ρ x)) (grams (shape w d) (content ρ x))
  amount-absent ρ x u z h =
      let s : content ρ x ≡ unsigned (content ρ x) = sym (ap (λ (i : ℕ). content ρ (drop i x)) z) ∙ u.rest in
      let k : weight_right (shape w d) (unsigned (content ρ x)) ≡ false = sym (ap (weight_right (shape w d)) s) ∙ h in
      rw k

-- a weight behind it, or all of it
module _ (w d : ℕ) {c s : List ℕ} {from : ℕ} (u : Unsigned c from s) {y : Option ℕ} (e : y ≡ weight_is (weight_right (shape w d) s) (weight (shape w d) s)) where
  weighed : y ≡ weight_is (weight_right (shape w d) (unsigned c)) (weight (shape w d) (unsigned c))
  weighed = e ∙ ap (λ (z : List ℕ). weight_is (weight_right (shape w d) z) (weight (shape w d) z)) u.rest

  pub amount-none : y ≡ None → None ≡ amount_is (amount_right (shape w d) c) (grams (shape w d) c)
  amount-none f = rw (weight-lacks (weight_right (shape w d) (unsigned c)) (weight (shape w d) (unsigned c)) (sym f ∙ weighed))

  module _ {n : ℕ} (f : y ≡ Some n) where
    known : (weight_right (shape w d) (unsigned c) ≡ true) × (n ≡ weight (shape w d) (unsigned c))
    known = weight-known (weight_right (shape w d) (unsigned c)) n (weight (shape w d) (unsigned c)) (sym f ∙ weighed)

    pub amount-plain : from ≡ 0 → Some (n, false) ≡ amount_is (amount_right (shape w d) c) (grams (shape w d) c)
    amount-plain z = let m : reversed c ≡ false = sym u.minus ∙ rw z in rw (m, known.0, known.1)

    -- minus zero is zero
    pub amount-back : (from ≡ 0 → ⊥) → Some (n, ltb 0 n) ≡ amount_is (amount_right (shape w d) c) (grams (shape w d) c)
    amount-back z = let m : reversed c ≡ true = sym u.minus ∙ lt-ltb 0 from (omega arith) in rw (m, known.0, ← known.1) (by n)
      where
        by : (k : ℕ) → Some (k, ltb 0 k) ≡ amount_is true (signed true k)
        by zero = refl
        by (suc k) = rw (lt-ltb 0 (suc k) (omega arith))

pub amount-first : (w d : ℕ) (c : List ℕ) {y : Option ℕ} {n : ℕ} → y ≡ weight_is (weight_right (shape w d) c) (weight (shape w d) c) → y ≡ Some n →
    Some (n, false) ≡ amount_is (amount_right (shape w d) c) (grams (shape w d) c)
amount-first w d c {y} {n} e f =
    let k = weight-known (weight_right (shape w d) c) n (weight (shape w d) c) (sym f ∙ e) in
    amount-plain w d (first-digit w d c k.0) e f refl

-- ---- units

module _ (c : List ℕ) (kgm tne : ℕ) {p : Bool} (e : p ≡ same c (octets "KGM")) where
  pub unit-kgm : p ≡ true → Some (record { whole = kgm; decimals = 3 }) ≡ unit_is (unit c (shape kgm 3) (shape tne 6))
  unit-kgm h = rw (← e, h)

  module _ {q : Bool} (f : q ≡ same c (octets "TNE")) (h : p ≡ false) where
    pub unit-tne : q ≡ true → Some (record { whole = tne; decimals = 6 }) ≡ unit_is (unit c (shape kgm 3) (shape tne 6))
    unit-tne l = rw (← e, h, ← f, l)

    pub unit-none : q ≡ false → None ≡ unit_is (unit c (shape kgm 3) (shape tne 6))
    unit-none l = rw (← e, h, ← f, l)

-- ---- for callers: what an answer says, and that it is below 10 to the 18

value-below : (v : ℕ) (s : List ℕ) → T (all_digits s) → value_from v s < (v + 1) * tens (length s)
value-below v [] h = rw (mul-one (v + 1)) (omega arith)
value-below v (b ∷ s) h =
    let e = value-below (v * 10 + (b - 48)) s (and_right (digit b) (all_digits s) h) in
    let l : b ≤ 57 = leb→le b 57 (and_right (leb 48 b) (leb b 57) (and_left (digit b) (all_digits s) h)) in
    let k : v * 10 + (b - 48) + 1 ≤ (v + 1) * 10 = omega arith in
    let m = mul-le-mul_right (tens (length s)) k in
    let o = mul_assoc (v + 1) 10 (tens (length s)) in
    omega arith

pub digits-below : (n : ℕ) (s : List ℕ) → T (digits n s) → (value_from 0 s < tens (length s)) × (length s ≤ n)
digits-below n s h =
    let e = value-below 0 s (and_left (all_digits s) (within 1 n (length s)) h) in
    let l = leb→le (length s) n (and_right (leb 1 (length s)) (leb (length s) n) (and_right (all_digits s) (within 1 n (length s)) h)) in
    let o = one-mul (tens (length s)) in
    (omega arith, l)

fraction-below : (d : ℕ) (o : Maybe (List ℕ)) → T (fraction_right d o) → fraction d o < tens d
fraction-below d none h = tens-pos d
fraction-below d (some f) h =
    let k = digits-below d f h in
    let p : length f + (d - length f) ≡ d = omega (arith, k.1) in
    let q : tens d ≡ tens (length f) * tens (d - length f) = sym (ap tens p) ∙ tens-add (length f) (d - length f) in
    rw q (mul-lt-mul_of_pos_right k.0 (tens-pos (d - length f)))

weight-fits : (w d : ℕ) (c : List ℕ) → (w ≤ 12) × (d ≤ 6) → T (weight_right (shape w d) c) → weight (shape w d) c < 1000000000000000000
weight-fits w d c h r =
    let k = digits-below w (before c) (and_left (digits w (before c)) (fraction_right d (behind c)) r) in
    let f = fraction-below d (behind c) (and_right (digits w (before c)) (fraction_right d (behind c)) r) in
    let m = tens-below (length (before c)) 12 (omega (arith, k.1, h.0)) in
    let l : value_from 0 (before c) + 1 ≤ 1000000000000 = omega (arith, k.0) in
    let a = mul-le-mul_right (tens d) l in
    let b = add-mul (value_from 0 (before c)) 1 (tens d) in
    let o = one-mul (tens d) in
    let z = tens-below d 6 h.1 in
    omega arith

-- no more digits than the shape has
weight-below : (w d : ℕ) (c : List ℕ) → T (weight_right (shape w d) c) → weight (shape w d) c < tens (w + d)
weight-below w d c r =
    let k = digits-below w (before c) (and_left (digits w (before c)) (fraction_right d (behind c)) r) in
    let f = fraction-below d (behind c) (and_right (digits w (before c)) (fraction_right d (behind c)) r) in
    let m = tens-below (length (before c)) w k.1 in
    let l : value_from 0 (before c) + 1 ≤ tens w = omega (arith, k.0) in
    let a = mul-le-mul_right (tens d) l in
    let b = add-mul (value_from 0 (before c)) 1 (tens d) in
    let o = one-mul (tens d) in
    rw (tens-add w d) (omega arith)

-- a minus leaves the magnitude as it is
pub magnitude-signed : (b : Bool) (n : ℕ) → magnitude (signed b n) ≡ n
magnitude-signed true zero = refl
magnitude-signed true (suc n) = refl
magnitude-signed false n = refl

-- what stands in an amount is a sign and a magnitude of its grams
grams-known : (b : Bool) (n : ℕ) (t : Bool) (z : number.Grams) → Some (n, t) ≡ amount_is b z → (b ≡ true) × (n ≡ magnitude z) × (t ≡ below z)
grams-known true n t z e = let w = same_Some _ _ e in (refl, ap (λ q. q.0) w, ap (λ q. q.1) w)
grams-known false n t z e = absurd (none-some _ (sym e))

bad-known : (b : Bool) (z : number.Grams) → None ≡ amount_is b z → b ≡ false
bad-known true z e = cc
bad-known false z e = refl

module _ (w d : ℕ) (c : List ℕ) {r : Option (ℕ × Bool)} (e : r ≡ amount_is (amount_right (shape w d) c) (grams (shape w d) c)) where
  pub amount-grams : {n : ℕ} {t : Bool} → r ≡ Some (n, t) → (amount_right (shape w d) c ≡ true) × (n ≡ magnitude (grams (shape w d) c)) × (t ≡ below (grams (shape w d) c))
  amount-grams {n} {t} h = grams-known (amount_right (shape w d) c) n t (grams (shape w d) c) (sym h ∙ e)

  pub amount-bad : r ≡ None → amount_right (shape w d) c ≡ false
  amount-bad h = bad-known (amount_right (shape w d) c) (grams (shape w d) c) (sym h ∙ e)

  -- the number itself, and that it is no minus zero
  amount-signed : {n : ℕ} {t : Bool} → r ≡ Some (n, t) → (signed t n ≡ grams (shape w d) c) × (below (signed t n) ≡ t)
  amount-signed {n} {t} h =
      let k = amount-grams h in
      let p : signed t n ≡ grams (shape w d) c = ap (λ (b : Bool). signed b n) k.2 ∙ ap (signed (below (grams (shape w d) c))) k.1 ∙ signed_back (grams (shape w d) c) in
      (p, ap below p ∙ sym k.2)

  amount-weight : {n : ℕ} {t : Bool} → r ≡ Some (n, t) → n ≡ weight (shape w d) (unsigned c)
  amount-weight h = (amount-grams h).1 ∙ magnitude-signed (reversed c) (weight (shape w d) (unsigned c))

  amount-right : {n : ℕ} {t : Bool} → r ≡ Some (n, t) → T (weight_right (shape w d) (unsigned c))
  amount-right h = rw (amount-grams h).0 tt

  pub amount-fits : {n : ℕ} {t : Bool} → (w ≤ 12) × (d ≤ 6) → r ≡ Some (n, t) → n < 1000000000000000000
  amount-fits l h = rw (amount-weight h) (weight-fits w d (unsigned c) l (amount-right h))

  amount-below : {n : ℕ} {t : Bool} → r ≡ Some (n, t) → n < tens (w + d)
  amount-below h = rw (amount-weight h) (weight-below w d (unsigned c) (amount-right h))

unit-known : (o : Maybe Shape) {f : Form} → Some f ≡ unit_is o → o ≡ some (shape f.whole f.decimals)
unit-known none e = cc
unit-known (some (shape w d)) {f} e =
    let p : record { whole = w; decimals = d } ≡ f = cc in
    rw (← p)

unit-lacks : (o : Maybe Shape) → None ≡ unit_is o → o ≡ none
unit-lacks none e = refl
unit-lacks (some (shape w d)) e = cc

module _ (u : List ℕ) (kgm tne : ℕ) {r : Option Form} (e : r ≡ unit_is (unit u (shape kgm 3) (shape tne 6))) where
  pub unit-of : {f : Form} → r ≡ Some f → unit u (shape kgm 3) (shape tne 6) ≡ some (shape f.whole f.decimals)
  unit-of h = unit-known (unit u (shape kgm 3) (shape tne 6)) (sym h ∙ e)

  pub unit-unknown : r ≡ None → unit u (shape kgm 3) (shape tne 6) ≡ none
  unit-unknown h = unit-lacks (unit u (shape kgm 3) (shape tne 6)) (sym h ∙ e)

  -- the form is within what `amount_in` asks
  pub unit-fits : {f : Form} → (kgm ≤ 12) × (tne ≤ 12) → r ≡ Some f → (f.whole ≤ 12) × (f.decimals ≤ 6)
  unit-fits {f} l h = by-test (same u (octets "KGM")) (same u (octets "TNE")) (sym h ∙ e)
    where
      form : {w d : ℕ} → (w ≤ 12) × (d ≤ 6) → Some f ≡ unit_is (some (shape w d)) → (f.whole ≤ 12) × (f.decimals ≤ 6)
      form {w} {d} k e = let p : record { whole = w; decimals = d } ≡ f = cc in rw (← p) k

      by-test : (a b : Bool) → Some f ≡ unit_is (cond a (some (shape kgm 3)) (cond b (some (shape tne 6)) none)) → (f.whole ≤ 12) × (f.decimals ≤ 6)
      by-test true b e = form (l.0, omega arith) e
      by-test false true e = form (l.1, omega arith) e
      by-test false false e = let z : ◌≡◌ {A = ℕ} 0 1 = cc in let y : ⊥ = omega arith in absurd y

  -- all its digits
  unit-digits : {f : Form} {n : ℕ} → (kgm + 3 ≡ n) × (tne + 6 ≡ n) → r ≡ Some f → f.whole + f.decimals ≡ n
  unit-digits {f} {n} l h = by-test (same u (octets "KGM")) (same u (octets "TNE")) (sym h ∙ e)
    where
      form : {w d : ℕ} → w + d ≡ n → Some f ≡ unit_is (some (shape w d)) → f.whole + f.decimals ≡ n
      form {w} {d} k e = let p : record { whole = w; decimals = d } ≡ f = cc in rw (← p) k

      by-test : (a b : Bool) → Some f ≡ unit_is (cond a (some (shape kgm 3)) (cond b (some (shape tne 6)) none)) → f.whole + f.decimals ≡ n
      by-test true b e = form l.0 e
      by-test false true e = form l.1 e
      by-test false false e = let z : ◌≡◌ {A = ℕ} 0 1 = cc in let y : ⊥ = omega arith in absurd y

  -- an amount c in that unit, as loads and control totals ask for it
  pub unitless : (c : List ℕ) → r ≡ None →
      (right_by (unit u (shape kgm 3) (shape tne 6)) c ≡ true) × (control_by (unit u (shape kgm 3) (shape tne 6)) c ≡ false) × (load_by (unit u (shape kgm 3) (shape tne 6)) c ≡ none)
  unitless c h =
      let o = unit-unknown h in
      (ap (λ (y : Maybe Shape). right_by y c) o, ap (λ (y : Maybe Shape). control_by y c) o, ap (λ (y : Maybe Shape). load_by y c) o)

  module _ (c : List ℕ) {f : Form} {y : Option (ℕ × Bool)} (h : r ≡ Some f)
      (d : y ≡ amount_is (amount_right (shape f.whole f.decimals) c) (grams (shape f.whole f.decimals) c)) where
    pub weighs : {n : ℕ} {t : Bool} → (kgm ≤ 12) × (tne ≤ 12) → y ≡ Some (n, t) →
        (right_by (unit u (shape kgm 3) (shape tne 6)) c ≡ true) × (control_by (unit u (shape kgm 3) (shape tne 6)) c ≡ true) ×
        (load_by (unit u (shape kgm 3) (shape tne 6)) c ≡ some (signed t n)) × (below (signed t n) ≡ t) × (n < 1000000000000000000)
    weighs {n} {t} l q =
        let o = unit-of h in
        let a = amount-grams f.whole f.decimals c d q in
        let b = amount-signed f.whole f.decimals c d q in (
          ap (λ (z : Maybe Shape). right_by z c) o ∙ a.0,
          ap (λ (z : Maybe Shape). control_by z c) o ∙ a.0,
          ap (λ (z : Maybe Shape). load_by z c) o ∙ ap {B = Maybe number.Grams} (λ z. some z) (sym b.0),
          b.1,
          amount-fits f.whole f.decimals c d (unit-fits l h) q,
        )

    pub weighs-not : y ≡ None → (right_by (unit u (shape kgm 3) (shape tne 6)) c ≡ false) × (control_by (unit u (shape kgm 3) (shape tne 6)) c ≡ false)
    weighs-not q =
        let o = unit-of h in
        let a = amount-bad f.whole f.decimals c d q in
        (ap (λ (z : Maybe Shape). right_by z c) o ∙ a, ap (λ (z : Maybe Shape). control_by z c) o ∙ a)

    -- a number of as many digits as the shapes have
    pub weighs-below : {n k : ℕ} {t : Bool} → (kgm + 3 ≡ k) × (tne + 6 ≡ k) → y ≡ Some (n, t) → n < tens k
    weighs-below {n} {k} l q = rw (← unit-digits l h) (amount-below f.whole f.decimals c d q)
