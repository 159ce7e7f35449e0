-- The table of classes has its rule, and what a class says of an octet.
use Rattle.std.specs.Prelude.{ℕ, zero, suc, ◌+◌, ◌-◌, ◌≤◌, ◌<◌, List, ◌≡◌, refl, Bool, true, false, cond, not, ◌&&◌, eqb, leb, ltb, length, get_or, set}
use Rattle.std.proofs.Common.{arith, ap, sym, ◌∙◌, eqb-true, leb-true, leb-false, ltb-true, ltb-false, lt-ltb, le-ltb, le-leb, length-set, get_or-set_same, get_or-set_other}
use Rattle.std.proofs.lemmas.Bool.{false≢true, eqb-false}
use Rattle.syntax.specs.Service.{kind_of}
use Rattle.syntax.specs.Repertoire.{tag_octet, inside}
use Rattle.syntax.specs.Classes.{end_class, release_class, outside_class, data_class, to_class, class_of, Blank, Base, Table, Filled}
use Rattle.syntax.specs.declared.Service.{Service}
use Rattle.syntax.specs.declared.Syntax.{Syntax}
use Rattle.syntax.specs.declared.Level.{Level}
use Rattle.syntax.specs.declared.Level.TheVariants.{A, B, C, D}

-- ---- one store

getD-put : (t : List ℕ) (b c x : ℕ) → b < length t → get_or (set t b c) x 0 ≡ cond (eqb x b) c (get_or t x 0)
getD-put t b c x h = by-test (eqb x b) refl
  where
    by-test : (e : Bool) → eqb x b ≡ e → get_or (set t b c) x 0 ≡ cond e c (get_or t x 0)
    by-test true e = let p = eqb-true x b e in rw p (get_or-set_same t b c 0 h)
    by-test false e = get_or-set_other t b x c 0 (eqb-false x b e)

-- ---- a range of stores: u is t with v from a up to, not including, i

pub filled_none : {a v : ℕ} {t : List ℕ} → Filled a a v t t
filled_none {a} {v} {t} = record { size = refl; at = λ x k. by x (leb a x) refl }
  where
    by : (x : ℕ) (b : Bool) → leb a x ≡ b → get_or t x 0 ≡ cond (b && ltb x a) v (get_or t x 0)
    by x true h = let l : a ≤ x = leb-true a x h in rw (le-ltb x a l)
    by x false h = refl

pub filled-one : {a i v : ℕ} {t u : List ℕ} → Filled a i v t u → a ≤ i → Filled a (i + 1) v t (set u i v)
filled-one {a} {i} {v} {t} {u} g h = record { size = length-set u i v ∙ g.size; at = λ x k. by x k (eqb x i) refl }
  where
    grow : (x : ℕ) → (x ≡ i → ⊥) → (b : Bool) → ltb x i ≡ b → b ≡ ltb x (i + 1)
    grow x d true e = let l : x < i = ltb-true x i e in sym (lt-ltb x (i + 1) (omega arith))
    grow x d false e = let l : i ≤ x = ltb-false x i e in sym (le-ltb x (i + 1) (let m : i < x = omega (arith, d) in omega arith))

    by : (x : ℕ) → x < length t → (b : Bool) → eqb x i ≡ b → get_or (set u i v) x 0 ≡ cond (leb a x && ltb x (i + 1)) v (get_or t x 0)
    by x k true e =
        let p : x ≡ i = eqb-true x i e in
        let n = g.size in
        rw (p, le-leb a i h, lt-ltb i (i + 1) (omega arith)) (get_or-set_same u i v 0 (omega arith))
    by x k false e =
        get_or-set_other u i x v 0 (eqb-false x i e) ∙ g.at x k
        ∙ ap (λ (q : Bool). cond (leb a x && q) v (get_or t x 0)) (grow x (eqb-false x i e) (ltb x i) refl)

-- the stores under way
pub record Filling (a e v last i : ℕ) (t u : List ℕ) : Type 0 where
  pub low : a ≤ i
  pub high : i ≤ e + 1
  pub end : last ≡ e
  pub done : Filled a i v t u

pub filling-start : {a e v last i : ℕ} {t : List ℕ} → last ≡ e → i ≡ a → a ≤ e → Filling a e v last i t t
filling-start p q h = record { low = omega arith; high = omega arith; end = p; done = rw q filled_none }

pub filling-on : {a e v last i : ℕ} {t u : List ℕ} → Filling a e v last i t u → i ≤ last → Filling a e v last (i + 1) t (set u i v)
filling-on g h =
    let l = g.low in let m = g.high in let n = g.end in
    record { low = omega arith; high = omega arith; end = n; done = filled-one g.done l }

pub filling-end : {a e v last i : ℕ} {t u : List ℕ} → Filling a e v last i t u → last < i → Filled a (e + 1) v t u
filling-end {a} {e} {v} {last} {i} {t} {u} g h =
    let m = g.high in let n = g.end in let p : i ≡ e + 1 = omega arith in rw p at g.done

-- ---- a rule at each octet, by one test that antt computes

pub and_l : (a b : Bool) → (a && b) ≡ true → a ≡ true
and_l true b e = refl
and_l false b e = e

pub and_r : (a b : Bool) → (a && b) ≡ true → b ≡ true
and_r true b e = e
and_r false b e = cc

abbrev below : (ℕ → Bool) → ℕ → Bool
below f zero = true
below f (suc n) = f n && below f n

below_all : (f : ℕ → Bool) (n x : ℕ) → below f n ≡ true → x < n → f x ≡ true
below_all f zero x e h = let z : ⊥ = omega arith in absurd z
below_all f (suc n) x e h = by (eqb x n) refl (below_all f n x (and_r (f n) _ e))
  where
    by : (b : Bool) → eqb x n ≡ b → (x < n → f x ≡ true) → f x ≡ true
    by true q r = rw (eqb-true x n q) (and_l (f n) _ e)
    by false q r = let d = eqb-false x n q in r (omega (arith, d))

-- one rule for a stretch of octets
abbrev is_it : Bool → Bool → Bool
is_it true b = b
is_it false b = not b

is-it : (v b : Bool) → is_it v b ≡ true → v ≡ b
is-it true b e = sym e
is-it false true e = e
is-it false false e = refl

stretch : (f : ℕ → Bool) (v : Bool) (lo n b : ℕ) → below (λ (k : ℕ). is_it v (f (lo + k))) n ≡ true → lo ≤ b → b < lo + n → v ≡ f b
stretch f v lo n b e g h =
    let z : lo + (b - lo) ≡ b = omega arith in
    is-it v (f b) (ap (λ (k : ℕ). is_it v (f k)) (sym z) ∙ below_all (λ (k : ℕ). is_it v (f (lo + k))) n (b - lo) e (omega arith))

-- the octets of a stretch are all inside the level that is asked, or all outside
pub stretch-of : {l : Level} {b : ℕ} (k : Level) (v : Bool) (lo n : ℕ) → below (λ (i : ℕ). is_it v (inside k (lo + i))) n ≡ true
    → l ≡ k → lo ≤ b → b < lo + n → v ≡ inside l b
stretch-of {l} {b} k v lo n e h g m = stretch (inside k) v lo n b e g m ∙ ap (λ (l : Level). inside l b) (sym h)

-- the class by the two tests
module _ (l : Level) (b : ℕ) {i : Bool} (e : i ≡ inside l b) where
  pub class-outside : not i ≡ true → outside_class ≡ data_class (tag_octet b) (inside l b)
  class-outside h = by i e h
    where
      by : (i : Bool) → i ≡ inside l b → not i ≡ true → outside_class ≡ data_class (tag_octet b) (inside l b)
      by true e h = absurd (false≢true h)
      by false e h = rw (← e)

  module _ (h : not i ≡ false) {g : Bool} (d : g ≡ tag_octet b) where
    inner : (i : Bool) → i ≡ inside l b → not i ≡ false → cond g 0 1 ≡ data_class (tag_octet b) (inside l b)
    inner true e h = rw (← e, ← d)
    inner false e h = absurd (false≢true (sym h))

    pub class-tagged : g ≡ true → 0 ≡ data_class (tag_octet b) (inside l b)
    class-tagged k = ap (λ (q : Bool). cond q 0 1) (sym k) ∙ inner i e h

    pub class-other : g ≡ false → 1 ≡ data_class (tag_octet b) (inside l b)
    class-other k = ap (λ (q : Bool). cond q 0 1) (sym k) ∙ inner i e h

-- ---- the table of what is inside, octet by octet

pub record Basing (l : Level) (i : ℕ) (t : List ℕ) : Type 0 where
  pub size : length t ≡ 256
  pub done : (x : ℕ) → x < i → get_or t x 0 ≡ data_class (tag_octet x) (inside l x)

pub basing-start : {l : Level} {t : List ℕ} → Blank t → Basing l 0 t
basing-start z = record { size = ap length z; done = λ x h. let w : ⊥ = omega arith in absurd w }

pub basing-end : {l : Level} {i : ℕ} {t : List ℕ} → Basing l i t → 256 ≤ i → Base l t
basing-end g h = record { size = g.size; rule = λ b k. g.done b (omega arith) }

-- the octets from a on, n of them, are of one class, in a repertoire
abbrev Alike : Level → ℕ → ℕ → Type 0
Alike l a n = below (λ (k : ℕ). eqb (data_class (tag_octet (a + k)) (inside l (a + k))) (data_class (tag_octet a) (inside l a))) n ≡ true

basing-fill : {l : Level} {a : ℕ} (n : ℕ) {c : ℕ} {t u : List ℕ} → Basing l a t → a + n ≤ 256 → Alike l a n → Filled a (a + n) c t u → c ≡ data_class (tag_octet a) (inside l a) → Basing l (a + n) u
basing-fill {l} {a} n {c} {t} {u} g m e f q = record {
  size = f.size ∙ g.size;
  done = λ x k. f.at x (let z = g.size in omega arith) ∙ by x k (leb a x) refl;
}
  where
    by : (x : ℕ) → x < a + n → (b : Bool) → leb a x ≡ b → cond (b && ltb x (a + n)) c (get_or t x 0) ≡ data_class (tag_octet x) (inside l x)
    by x k true p =
        let h : a ≤ x = leb-true a x p in
        let z : a + (x - a) ≡ x = omega arith in
        let w = eqb-true _ _ (below_all (λ (k : ℕ). eqb (data_class (tag_octet (a + k)) (inside l (a + k))) (data_class (tag_octet a) (inside l a))) n (x - a) e (omega arith)) in
        rw (lt-ltb x (a + n) k) (q ∙ sym w ∙ ap (λ (y : ℕ). data_class (tag_octet y) (inside l y)) z)
    by x k false p = g.done x (let h : x < a = leb-false a x p in h)

-- what holds of each level
by_level : (P : Level → Type 0) → P A → P B → P C → P D → (l : Level) → P l
by_level P a b c d A = a
by_level P a b c d B = b
by_level P a b c d C = c
by_level P a b c d D = d

abbrev class_in : Level → ℕ → ℕ
class_in l b = data_class (tag_octet b) (inside l b)

-- each stretch is of one class in every repertoire
pub base-by : {l : Level} {c0 c1 c2 c3 c4 c5 c6 c7 c8 c9 c10 c11 c12 : ℕ} {t0 t1 t2 t3 t4 t5 t6 t7 t8 t9 t10 t11 t12 t13 : List ℕ} → Blank t0 → Filled 0 32 c0 t0 t1 → c0 ≡ class_in l 0 → Filled 32 35 c1 t1 t2 → c1 ≡ class_in l 32 → Filled 35 37 c2 t2 t3 → c2 ≡ class_in l 35 → Filled 37 48 c3 t3 t4 → c3 ≡ class_in l 37 → Filled 48 58 c4 t4 t5 → c4 ≡ class_in l 48 → Filled 58 64 c5 t5 t6 → c5 ≡ class_in l 58 → Filled 64 65 c6 t6 t7 → c6 ≡ class_in l 64 → Filled 65 91 c7 t7 t8 → c7 ≡ class_in l 65 → Filled 91 97 c8 t8 t9 → c8 ≡ class_in l 91 → Filled 97 123 c9 t9 t10 → c9 ≡ class_in l 97 → Filled 123 127 c10 t10 t11 → c10 ≡ class_in l 123 → Filled 127 160 c11 t11 t12 → c11 ≡ class_in l 127 → Filled 160 256 c12 t12 t13 → c12 ≡ class_in l 160 → Base l t13
unfolding inside
base-by {l} z f0 e0 f1 e1 f2 e2 f3 e3 f4 e4 f5 e5 f6 e6 f7 e7 f8 e8 f9 e9 f10 e10 f11 e11 f12 e12 =
    let g1 : Basing l 32 _ = basing-fill 32 (basing-start z) (omega arith) (by_level (λ (l : Level). Alike l 0 32) refl refl refl refl l) f0 e0 in
    let g2 : Basing l 35 _ = basing-fill 3 g1 (omega arith) (by_level (λ (l : Level). Alike l 32 3) refl refl refl refl l) f1 e1 in
    let g3 : Basing l 37 _ = basing-fill 2 g2 (omega arith) (by_level (λ (l : Level). Alike l 35 2) refl refl refl refl l) f2 e2 in
    let g4 : Basing l 48 _ = basing-fill 11 g3 (omega arith) (by_level (λ (l : Level). Alike l 37 11) refl refl refl refl l) f3 e3 in
    let g5 : Basing l 58 _ = basing-fill 10 g4 (omega arith) (by_level (λ (l : Level). Alike l 48 10) refl refl refl refl l) f4 e4 in
    let g6 : Basing l 64 _ = basing-fill 6 g5 (omega arith) (by_level (λ (l : Level). Alike l 58 6) refl refl refl refl l) f5 e5 in
    let g7 : Basing l 65 _ = basing-fill 1 g6 (omega arith) (by_level (λ (l : Level). Alike l 64 1) refl refl refl refl l) f6 e6 in
    let g8 : Basing l 91 _ = basing-fill 26 g7 (omega arith) (by_level (λ (l : Level). Alike l 65 26) refl refl refl refl l) f7 e7 in
    let g9 : Basing l 97 _ = basing-fill 6 g8 (omega arith) (by_level (λ (l : Level). Alike l 91 6) refl refl refl refl l) f8 e8 in
    let g10 : Basing l 123 _ = basing-fill 26 g9 (omega arith) (by_level (λ (l : Level). Alike l 97 26) refl refl refl refl l) f9 e9 in
    let g11 : Basing l 127 _ = basing-fill 4 g10 (omega arith) (by_level (λ (l : Level). Alike l 123 4) refl refl refl refl l) f10 e10 in
    let g12 : Basing l 160 _ = basing-fill 33 g11 (omega arith) (by_level (λ (l : Level). Alike l 127 33) refl refl refl refl l) f11 e11 in
    let g13 : Basing l 256 _ = basing-fill 96 g12 (omega arith) (by_level (λ (l : Level). Alike l 160 96) refl refl refl refl l) f12 e12 in
    basing-end g13 (omega arith)

-- ---- the six stores of `table`

pub record Bytes (σ : Service) : Type 0 where
  pub component : σ.component < 256
  pub element : σ.element < 256
  pub release : σ.release < 256
  pub repetition : σ.repetition < 256
  pub terminator : σ.terminator < 256

-- a table of 256 whose every entry is x's
record Holds (t : List ℕ) (v : ℕ → ℕ) : Type 0 where
  size : length t ≡ 256
  at : (x : ℕ) → x < 256 → get_or t x 0 ≡ v x

stored : {t u : List ℕ} {v : ℕ → ℕ} (b c : ℕ) → b < 256 → Holds t v → u ≡ set t b c → Holds u (λ x. cond (eqb x b) c (v x))
stored {t} b c h g e = rw e (record {
  size = length-set t b c ∙ g.size;
  at = λ x k. getD-put t b c x (let n = g.size in omega arith) ∙ ap (λ (r : ℕ). cond (eqb x b) c r) (g.at x k);
})

inside-space : (l : Level) → inside l 32 ≡ true
unfolding inside
inside-space A = refl
inside-space B = refl
inside-space C = refl
inside-space D = refl

-- the stores, last first, are the tests of `kind_of`
ordered : (y : Syntax) (x : ℕ) →
    cond (eqb x 32) 1 (cond (eqb x y.service.release) release_class (cond (eqb x y.service.terminator) end_class (cond (eqb x y.service.element) 4
    (cond (eqb x y.service.component) 2 (cond (eqb x y.service.repetition) 3 (data_class (tag_octet x) (inside y.level x))))))) ≡ class_of y x
unfolding class_of
ordered y x = by (eqb x 32) refl (eqb x y.service.release) (eqb x y.service.terminator) (eqb x y.service.element) (eqb x y.service.component) (eqb x y.service.repetition)
  where
    by : (z : Bool) → eqb x 32 ≡ z → (r t e c p : Bool) →
        cond z 1 (cond r release_class (cond t end_class (cond e 4 (cond c 2 (cond p 3 (data_class (tag_octet x) (inside y.level x))))))) ≡
        to_class (cond z 1 (cond r 0 (cond t 5 (cond e 4 (cond c 2 (cond p 3 1)))))) (tag_octet x) (inside y.level x)
    by true h r t e c p = rw (eqb-true x 32 h, inside-space y.level)
    by false h true t e c p = refl
    by false h false true e c p = refl
    by false h false false true c p = refl
    by false h false false false true p = refl
    by false h false false false false true = refl
    by false h false false false false false = refl

pub table-by : {y : Syntax} {t t₁ t₂ t₃ t₄ t₅ t₆ : List ℕ} → Bytes y.service → Base y.level t →
    t₁ ≡ set t y.service.repetition 3 → t₂ ≡ set t₁ y.service.component 2 → t₃ ≡ set t₂ y.service.element 4 →
    t₄ ≡ set t₃ y.service.terminator end_class → t₅ ≡ set t₄ y.service.release release_class → t₆ ≡ set t₅ 32 1 → Table y t₆
table-by {y} {t} β g e₁ e₂ e₃ e₄ e₅ e₆ =
    let s = y.service in
    let z : Holds t (λ x. data_class (tag_octet x) (inside y.level x)) = record { size = g.size; at = g.rule } in
    let a = stored s.repetition 3 β.repetition z e₁ in
    let b = stored s.component 2 β.component a e₂ in
    let c = stored s.element 4 β.element b e₃ in
    let d = stored s.terminator end_class β.terminator c e₄ in
    let e = stored s.release release_class β.release d e₅ in
    let f = stored 32 1 (omega arith) e e₆ in
    record { size = f.size; rule = λ x h. f.at x h ∙ ordered y x }

-- ---- what a class says of the octet's kind: the view by which every scan is proved

pub data Sorted (k : ℕ) (i : Bool) (c : ℕ) : Type 0 where
  is-data : k ≡ 1 → i ≡ true → c ≤ 1 → Sorted k i c
  is-bad : k ≡ 1 → i ≡ false → c ≡ outside_class → Sorted k i c
  is-release : k ≡ 0 → c ≡ release_class → Sorted k i c
  is-separator : 2 ≤ k → k ≤ 4 → c ≡ k → Sorted k i c
  is-end : k ≡ 5 → c ≡ end_class → Sorted k i c

sort : (k : ℕ) (g i : Bool) → k ≤ 5 → Sorted k i (to_class k g i)
sort k g i h = one (eqb k 1) refl
  where
    five? : (e : Bool) → eqb k 5 ≡ e → eqb k 1 ≡ false → eqb k 0 ≡ false → Sorted k i (cond e end_class k)
    five? true e d f = is-end (eqb-true k 5 e) refl
    five? false e d f =
        let a = eqb-false k 5 e in let b = eqb-false k 1 d in let c = eqb-false k 0 f in is-separator (omega arith) (omega arith) refl

    zero? : (e : Bool) → eqb k 0 ≡ e → eqb k 1 ≡ false → Sorted k i (cond e release_class (cond (eqb k 5) end_class k))
    zero? true e d = is-release (eqb-true k 0 e) refl
    zero? false e d = five? (eqb k 5) refl d e

    low : (x : Bool) → cond x 0 1 ≤ 1
    low true = omega arith
    low false = omega arith

    in? : (j : Bool) → i ≡ j → eqb k 1 ≡ true → Sorted k i (data_class g j)
    in? true e d = is-data (eqb-true k 1 d) e (low g)
    in? false e d = is-bad (eqb-true k 1 d) e refl

    one : (e : Bool) → eqb k 1 ≡ e → Sorted k i (cond e (data_class g i) (cond (eqb k 0) release_class (cond (eqb k 5) end_class k)))
    one true e = in? i refl e
    one false e = zero? (eqb k 0) refl e

le-cond : (t : Bool) {a b n : ℕ} → a ≤ n → b ≤ n → cond t a b ≤ n
le-cond true h g = h
le-cond false h g = g

pub kind-le : (σ : Service) (b : ℕ) → kind_of σ b ≤ 5
kind-le σ b =
    le-cond (eqb b 32) (omega arith) (le-cond (eqb b σ.release) (omega arith) (le-cond (eqb b σ.terminator) (omega arith)
    (le-cond (eqb b σ.element) (omega arith) (le-cond (eqb b σ.component) (omega arith) (le-cond (eqb b σ.repetition) (omega arith) (omega arith))))))

pub sorted : {c : ℕ} (y : Syntax) (b : ℕ) → c ≡ class_of y b → Sorted (kind_of y.service b) (inside y.level b) c
unfolding class_of
sorted y b e = rw e (sort (kind_of y.service b) (tag_octet b) (inside y.level b) (kind-le y.service b))

-- class 0 is what a tag may have
pub class-tag : {c : ℕ} (y : Syntax) (b : ℕ) → c ≡ class_of y b → c ≡ 0 → tag_octet b ≡ true
unfolding class_of
class-tag {c} y b e d = by (kind_of y.service b) (tag_octet b) (inside y.level b) (sym e ∙ d)
  where
    rest : (k : ℕ) → cond (eqb k 0) release_class (cond (eqb k 5) end_class k) ≡ 0 → ⊥
    rest k e = zero? (eqb k 0) refl e
      where
        five? : (q : Bool) → eqb k 0 ≡ false → cond q end_class k ≡ 0 → ⊥
        five? true n e = omega arith
        five? false n e = eqb-false k 0 n e

        zero? : (q : Bool) → eqb k 0 ≡ q → cond q release_class (cond (eqb k 5) end_class k) ≡ 0 → ⊥
        zero? true n e = omega arith
        zero? false n e = five? (eqb k 5) n e

    by : (k : ℕ) (g i : Bool) → to_class k g i ≡ 0 → g ≡ true
    by k true i e = refl
    by k false i e = one (eqb k 1) i e
      where
        one : (q i : Bool) → cond q (data_class false i) (cond (eqb k 0) release_class (cond (eqb k 5) end_class k)) ≡ 0 → false ≡ true
        one true true e = let z : ⊥ = omega arith in absurd z
        one true false e = let z : ⊥ = omega arith in absurd z
        one false i e = absurd (rest k e)
