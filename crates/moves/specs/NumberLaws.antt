-- A number that is written is read, and one that is read is written so, in each form.
use Rattle.std.proofs.Common.{◌⊎◌, inl, inr}
use Rattle.std.specs.Prelude.{ℕ, zero, suc, ◌+◌, ◌-◌, ◌*◌, ◌/◌, ◌%◌, ◌≤◌, ◌<◌, Bool, true, false, cond, ◌≡◌, refl, leb, length, get_or, drop, Option, Some, None}
use Rattle.std.proofs.Math.Nat.{div-div-eq-div-mul, div-eq_of_lt}
use Rattle.std.proofs.Common.{div-one, mul_comm, add-one, arith, sym, ◌∙◌, drop_of_length-le, length-append, drop-drop, drop_at, get_or-drop, drop-cons, le-leb, leb-true}
use mathlib.Core.List.{List, [], ◌∷◌, ◌++◌, append_assoc, append-nil}
use Rattle.std.proofs.Math.Path.{ap}
use Rattle.std.proofs.lemmas.Bool.{lt-leb}
use Rattle.std.proofs.lemmas.Option.{some_pair_parts}
use Rattle.seven.specs.Groups.{read_from}
use Rattle.seven.specs.TripLaws.{read-written, read-sound}
use Rattle.forms.specs.declared.Form.{Form}
use Rattle.forms.specs.declared.Form.TheVariants.{Old, Small, Signed}
use Rattle.forms.specs.Forms.{power, highest, number_text}
use Rattle.forms.specs.FormsLaws.{highest-length}
use Rattle.moves.specs.Stored.{high_from, number_at, Octets}

-- ---- a text that stands at a place

-- `t` stands at place i of s, and q is the place after it
pub record Spell (s : List ℕ) (i : ℕ) (t : List ℕ) (q : ℕ) : Type 0 where
  pub rest : List ℕ
  pub spelled : drop i s ≡ t ++ rest
  pub after : q ≡ i + length t

spell-rest : {s : List ℕ} {i : ℕ} {t : List ℕ} {q : ℕ} (g : Spell s i t q) → drop q s ≡ g.rest
spell-rest {s} {i} {t} g = ap (λ (k : ℕ). drop k s) g.after ∙ sym (drop-drop (length t) i s) ∙ ap (drop (length t)) g.spelled ∙ drop_at t g.rest (length t) refl

pub spell-more : {s : List ℕ} {i : ℕ} {t : List ℕ} {q : ℕ} {u : List ℕ} {r : ℕ} → Spell s i t q → Spell s q u r → Spell s i (t ++ u) r
spell-more {t = t} {u = u} g h = record {
  rest = h.rest;
  spelled = g.spelled ∙ ap (λ (v : List ℕ). t ++ v) (sym (spell-rest g) ∙ h.spelled) ∙ sym (append_assoc t u h.rest);
  after = omega (arith, g.after, h.after, length-append t u);
}

pub spell-first : {s : List ℕ} {i : ℕ} (t u : List ℕ) {r : ℕ} → Spell s i (t ++ u) r → Spell s i t (i + length t)
spell-first t u g = record { rest = u ++ g.rest; spelled = g.spelled ∙ append_assoc t u g.rest; after = refl }

pub spell_last : {s : List ℕ} {i : ℕ} (t u : List ℕ) {r : ℕ} → Spell s i (t ++ u) r → Spell s (i + length t) u r
unfolding spell-first
spell_last t u g = record { rest = g.rest; spelled = spell-rest (spell-first t u g); after = omega (arith, g.after, length-append t u) }

pub spell-none : {s : List ℕ} {i : ℕ} → Spell s i [] i
spell-none {s} {i} = record { rest = drop i s; spelled = refl; after = omega arith }

pub spell-all : (s : List ℕ) → Spell s 0 s (length s)
spell-all s = record { rest = []; spelled = sym (append-nil s); after = omega arith }

no_more : (u : List ℕ) → length u ≡ 0 → u ≡ []
no_more [] e = refl
no_more (x ∷ u) e = absurd (omega arith)

pub spell-whole : {s t : List ℕ} → Spell s 0 t (length s) → t ≡ s
spell-whole {s} {t} g =
    let e : length s ≡ length t + length g.rest = ap length g.spelled ∙ length-append t g.rest in
    let z : g.rest ≡ [] = no_more g.rest (omega (arith, e, g.after)) in
    sym (g.spelled ∙ ap (λ (u : List ℕ). t ++ u) z ∙ append-nil t)

-- ---- highest octet first

part : (n k : ℕ) → n / power (suc k) ≡ n / power k / 256
part n k = ap (λ (m : ℕ). n / m) (mul_comm 256 (power k)) ∙ sym (div-div-eq-div-mul n (power k) 256)

high-there : (k most n : ℕ) (t : List ℕ) (i : ℕ) → n ≤ most → high_from k (n / power k) most (highest k n ++ t) i ≡ Some (n, i + k)
unfolding high_from
high-there zero most n t i h = rw (div-one n, le-leb n most h) (ap (λ q. Some (n, q)) (omega arith))
high-there (suc k) most n t i h =
    let x : ℕ = n / power k in
    let e : n / power (suc k) * 256 + n / power k % 256 ≡ n / power k = ap (λ (m : ℕ). m * 256 + n / power k % 256) (part n k) ∙ omega arith in
    ap (λ (v : ℕ). high_from k v most (highest k n ++ t) (suc i)) e ∙ high-there k most n t (suc i) h ∙ ap (λ q. Some (n, q)) (omega arith)

record High (k most v : ℕ) (s : List ℕ) (i n q : ℕ) : Type 0 where
  pub rest : List ℕ
  pub spelled : s ≡ highest k n ++ rest
  pub after : q ≡ i + k
  pub within : n ≤ most
  pub before : n / power k ≡ v

high-back : (k most v : ℕ) (s : List ℕ) (i n q : ℕ) → Octets s → high_from k v most s i ≡ Some (n, q) → High k most v s i n q
unfolding high_from
high-back zero most v s i n q o e = by (leb v most) refl e
  where
    by : (b : Bool) → leb v most ≡ b → cond {A = Option (ℕ × ℕ)} b (Some (v, i)) None ≡ Some (n, q) → High zero most v s i n q
    by false y w = let z : ◌≡◌ {A = ℕ} 0 1 = cc in absurd (omega arith)
    by true y w =
        let both = some_pair_parts _ _ _ _ w in
        let a : v ≡ n = both.0 in
        let b : i ≡ q = both.1 in
        record { rest = s; spelled = refl; after = omega arith; within = omega (arith, leb-true v most y); before = div-one n ∙ sym a }
high-back (suc k) most v [] i n q o e = let z : ◌≡◌ {A = ℕ} 0 1 = cc in absurd (omega arith)
high-back (suc k) most v (b ∷ s) i n q o e =
    let h : High k most (v * 256 + b) s (suc i) n q = high-back k most (v * 256 + b) s (suc i) n q (λ j. o (suc j)) e in
    let l : b < 256 = o 0 in
    let m : n / power k ≡ v * 256 + b = h.before in
    let c : n / power k % 256 ≡ b = ap (λ (x : ℕ). x % 256) m ∙ omega arith in
    let d : n / power (suc k) ≡ v = part n k ∙ ap (λ (x : ℕ). x / 256) m ∙ omega arith in
    record {
      rest = h.rest;
      spelled = ap (λ (x : ℕ). x ∷ s) (sym c) ∙ ap (λ (u : List ℕ). (n / power k % 256) ∷ u) h.spelled;
      after = omega (arith, h.after);
      within = h.within;
      before = d;
    }

-- ---- a number, in each form

abbrev pub Holds : ℕ → ℕ → Type 0
Holds k most = (most < power k) × (most < 18446744073709551616)

octets-from : (s : List ℕ) (i : ℕ) → Octets s → Octets (drop i s)
octets-from s i o j = rw (get_or-drop i s j 0) (o (i + j))

module _ (k most : ℕ) (m : Holds k most) (s : List ℕ) where
  pub number-there : (f : Form) {n i q : ℕ} → n ≤ most → Spell s i (number_text f k n) q → number_at f k most s i ≡ Some (n, q)
  unfolding number_text number_at
  number-there Old {n} {i} {q} h g =
      let z : n / power k ≡ 0 = div-eq_of_lt (omega (arith, m.0, h)) in
      ap (λ (u : List ℕ). high_from k 0 most u i) g.spelled ∙ ap (λ (v : ℕ). high_from k v most (highest k n ++ g.rest) i) (sym z) ∙ high-there k most n g.rest i h
      ∙ ap (λ q. Some (n, q)) (omega (arith, g.after, highest-length k n))
  number-there Small {n} {i} {q} h g =
      ap (λ (u : List ℕ). read_from 10 most u i) g.spelled ∙ read-written 9 most n i g.rest h (omega (arith, m.1, h)) ∙ ap (λ q. Some (n, q)) (sym g.after)
  number-there Signed {n} {i} {q} h g =
      ap (λ (u : List ℕ). read_from 10 most u i) g.spelled ∙ read-written 9 most n i g.rest h (omega (arith, m.1, h)) ∙ ap (λ q. Some (n, q)) (sym g.after)

pub number-back : (k most : ℕ) (s : List ℕ) → Octets s → (f : Form) (i : ℕ) {n q : ℕ} → number_at f k most s i ≡ Some (n, q) → Spell s i (number_text f k n) q × (n ≤ most)
unfolding number_text number_at
number-back k most s o Old i {n} {q} e =
    let h = high-back k most 0 (drop i s) i n q (octets-from s i o) e in
    (record { rest = h.rest; spelled = h.spelled; after = omega (arith, h.after, highest-length k n) }, h.within)
number-back k most s o Small i {n} {q} e =
    let h = read-sound 10 most (drop i s) i n q (octets-from s i o) e in
    (record { rest = h.rest; spelled = h.spelled; after = h.after }, h.within)
number-back k most s o Signed i {n} {q} e =
    let h = read-sound 10 most (drop i s) i n q (octets-from s i o) e in
    (record { rest = h.rest; spelled = h.spelled; after = h.after }, h.within)

-- ---- the loop that reads octets: those read give v, and so many are left from i on

pub record Highing (s : List ℕ) (at k most v i left : ℕ) : Type 0 where
  pub going : high_from k 0 most (drop at s) at ≡ high_from left v most (drop i s) i
  pub done : ℕ
  pub sum : done + left ≡ k
  pub short : k ≤ 8
  pub small : v < power done

pub highing-start : {s : List ℕ} {at k most left : ℕ} → left ≡ k → k ≤ 8 → Highing s at k most 0 at left
highing-start e h = rw e (record { going = refl; done = 0; sum = omega arith; short = h; small = omega arith })

power-most : (j : ℕ) → j ≤ 7 → power j ≤ 72057594037927936
power-most zero h = omega arith
power-most (suc zero) h = omega arith
power-most (suc (suc zero)) h = omega arith
power-most (suc (suc (suc zero))) h = omega arith
power-most (suc (suc (suc (suc zero)))) h = omega arith
power-most (suc (suc (suc (suc (suc zero))))) h = omega arith
power-most (suc (suc (suc (suc (suc (suc zero)))))) h = omega arith
power-most (suc (suc (suc (suc (suc (suc (suc zero))))))) h = omega arith
power-most (suc (suc (suc (suc (suc (suc (suc (suc j)))))))) h = absurd (omega arith)

module _ {s : List ℕ} {at k most v i left : ℕ} where
  pub highing-fits : Highing s at k most v i left → 0 < left → v < 72057594037927936
  highing-fits g h = omega (arith, g.small, power-most g.done (omega (arith, g.sum, g.short, h)))

high-empty : (k v most i : ℕ) → 0 < k → high_from k v most [] i ≡ None
unfolding high_from
high-empty zero v most i h = absurd (omega arith)
high-empty (suc k) v most i h = refl

high-next : (k v most b : ℕ) (s : List ℕ) (i : ℕ) → 0 < k → high_from k v most (b ∷ s) i ≡ high_from (k - 1) (v * 256 + b) most s (i + 1)
unfolding high_from
high-next zero v most b s i h = absurd (omega arith)
high-next (suc k) v most b s i h =
    let z : suc k - 1 ≡ k = omega arith in
    rw (z, add-one i)

high-last : (k v most : ℕ) (s : List ℕ) (i : ℕ) → k ≤ 0 → high_from k v most s i ≡ cond (leb v most) (Some (v, i)) None
unfolding high_from
high-last zero v most s i h = refl
high-last (suc k) v most s i h = absurd (omega arith)

module _ {s : List ℕ} {at k most v i left : ℕ} (g : Highing s at k most v i left) where
  pub highing-cut : 0 < left → length s ≤ i → None ≡ high_from k 0 most (drop at s) at
  highing-cut h l = sym (g.going ∙ ap (λ (u : List ℕ). high_from left v most u i) (drop_of_length-le s {i = i} l) ∙ high-empty left v most i h)

  pub highing-on : {w next : ℕ} → next ≡ left - 1 → 0 < left → i < length s → (w ≡ get_or s i 0) × (w < 256) → Highing s at k most (v * 256 + w) (i + 1) next
  highing-on {w} q h l e = rw q (record {
    going = g.going ∙ ap (λ (u : List ℕ). high_from left v most u i) (drop-cons s i 0 l) ∙ high-next left v most (get_or s i 0) (drop (suc i) s) i h
        ∙ ap (λ (b : ℕ). high_from (left - 1) (v * 256 + b) most (drop (suc i) s) (i + 1)) (sym e.0) ∙ ap (λ (j : ℕ). high_from (left - 1) (v * 256 + w) most (drop j s) (i + 1)) (sym (add-one i));
    done = suc g.done;
    sum = omega (arith, g.sum);
    short = g.short;
    small = omega (arith, g.small, e.1);
  })

  pub highing-end : left ≤ 0 → v ≤ most → Some (v, i) ≡ high_from k 0 most (drop at s) at
  highing-end h l = sym (g.going ∙ high-last left v most (drop i s) i h ∙ rw (le-leb v most l))

  pub highing-over : left ≤ 0 → most < v → None ≡ high_from k 0 most (drop at s) at
  highing-over h l = sym (g.going ∙ high-last left v most (drop i s) i h ∙ rw (lt-leb v most l))

-- ---- a number by its form, as the code has it

module _ (f : Form) (k : ℕ) where
  pub number-old : (most : ℕ) (s : List ℕ) (i : ℕ) {r : Option (ℕ × ℕ)} → f ≡ Old → r ≡ high_from k 0 most (drop i s) i → r ≡ number_at f k most s i
  unfolding number_at
  number-old most s i e h = rw e h

  pub number-new : (most : ℕ) (s : List ℕ) (i : ℕ) {r : Option (ℕ × ℕ)} → (f ≡ Small) ⊎ (f ≡ Signed) → r ≡ read_from 10 most (drop i s) i → r ≡ number_at f k most s i
  unfolding number_at
  number-new most s i (inl e) h = rw e h
  number-new most s i (inr e) h = rw e h
