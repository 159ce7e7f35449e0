-- How the scans find a segment's end, its first octet outside the repertoire, and the next separator.
use Rattle.std.specs.Prelude.{ℕ, zero, suc, ◌+◌, ◌-◌, ◌≤◌, ◌<◌, List, [], ◌∷◌, ◌≡◌, Bool, true, cond, eqb, leb, length, get_or, take, drop, Option, Some, None}
use Rattle.std.proofs.Common.{add-one, ap, ◌∙◌, eq-eqb, ne_eqb, le-leb, leb-true, drop_of_length-le, length-drop, drop-cons}
use native.Mathlib.Omega.{arith}
use Rattle.std.proofs.Math.Path.{refl, sym}
use Rattle.std.proofs.Math.Bool.{false}
use Rattle.std.proofs.lemmas.Bool.{lt-leb}
use Rattle.std.proofs.Math.Seq.{slice, take-nil}
use Rattle.syntax.specs.Service.{kind_of, kind}
use Rattle.syntax.specs.Repertoire.{inside, outside}
use Rattle.syntax.specs.Classes.{end_class, release_class, outside_class, class_of}
use Rattle.syntax.specs.RepertoireLaws.{Sorted, is-data, is-bad, is-release, is-separator, is-end, sorted}
use Rattle.syntax.specs.Cutting.{stop_from, end_at, ends, first_outside}
use Rattle.syntax.specs.Scanning.{cut_by, stretch, cut_at, Four}
use Rattle.syntax.specs.Clean.{Going, Cutting, bad_from, cut_from}
use Rattle.syntax.specs.declared.Service.{Service}
use Rattle.syntax.specs.declared.Syntax.{Syntax}
use Rattle.syntax.specs.declared.cutting.Cut.{Cut}
use Rattle.syntax.specs.declared.cutting.Cut.TheVariants.{Ends, Spoilt, Open}

-- ---- a list that is cut at i

pub drop-tail : (i : ℕ) (s : List ℕ) {b : ℕ} {l : List ℕ} → drop i s ≡ b ∷ l → drop (suc i) s ≡ l
drop-tail zero [] e = cc
drop-tail zero (x ∷ s) e = cc
drop-tail (suc i) [] e = cc
drop-tail (suc i) (x ∷ s) e = drop-tail i s e

pub drop_head : (i : ℕ) (s : List ℕ) {b : ℕ} {l : List ℕ} → drop i s ≡ b ∷ l → get_or s i 0 ≡ b
drop_head zero [] e = cc
drop_head zero (x ∷ s) e = cc
drop_head (suc i) [] e = cc
drop_head (suc i) (x ∷ s) e = drop_head i s e

pub slice-take : (a n : ℕ) (s : List ℕ) → slice a n s ≡ take (n - a) (drop a s)
slice-take zero n s = let e : n - 0 ≡ n = omega arith in rw e
slice-take (suc a) n [] = rw (take-nil, take-nil)
slice-take (suc a) zero (x ∷ s) = let e : 0 - suc a ≡ 0 = omega arith in rw e
slice-take (suc a) (suc n) (x ∷ s) = let e : suc n - suc a ≡ n - a = omega arith in rw e (slice-take a n s)

-- ---- a stop

module _ (σ : Service) (n : ℕ) (f : Bool) (s : List ℕ) (i : ℕ) where
  stop-none : length s ≤ i → stop_from σ n f (drop i s) i ≡ None
  stop-none h = rw (drop_of_length-le s h)

  stop-hit : {k : ℕ} → i < length s → k ≡ kind σ f (get_or s i 0) → n ≤ k → stop_from σ n f (drop i s) i ≡ Some i
  stop-hit h e hk = rw (drop-cons s i 0 h, ← e, le-leb _ _ hk)

  stop-on : {k : ℕ} → i < length s → k ≡ kind σ f (get_or s i 0) → k < n →
      stop_from σ n f (drop i s) i ≡ stop_from σ n (eqb k 0) (drop (i + 1) s) (i + 1)
  stop-on h e hk = rw (add-one, drop-cons s i 0 h, ← e, lt-leb _ _ hk)

pub going-none : {y : Syntax} {n : ℕ} {x : Option ℕ} {s : List ℕ} {i : ℕ} → Going y n x s i → length s ≤ i → None ≡ x
going-none {y} {n} {x} {s} {i} g h = sym (g.finds ∙ stop-none y.service n false s i h)

-- a scan by classes for the first octet of kind n or above
module _ {y : Syntax} {n : ℕ} {x : Option ℕ} {s : List ℕ} {i : ℕ} (g : Going y n x s i) (m : 2 ≤ n) (m' : n ≤ 5) (h : i < length s) {c : ℕ}
    (e : c ≡ class_of y (get_or s i 0)) where
  k : ℕ
  k = kind_of y.service (get_or s i 0)

  on : k < n → (k ≡ 0 → ⊥) → Going y n x s (i + 1)
  unfolding k
  on a b = record { finds = g.finds ∙ stop-on y.service n false s i h refl a ∙ rw (ne_eqb _ _ b) }

  pub class-on : c < n → Going y n x s (i + 1)
  unfolding k
  class-on a = by-class (sorted y (get_or s i 0) e)
    where
      by-class : Sorted (kind_of y.service (get_or s i 0)) (inside y.level (get_or s i 0)) c → Going y n x s (i + 1)
      by-class (is-data p q r) = on (omega arith) (λ z. omega arith)
      by-class (is-bad p q r) = on (omega arith) (λ z. omega arith)
      by-class (is-release p r) = let z : ⊥ = omega arith in absurd z
      by-class (is-separator p q r) = on (omega arith) (λ z. omega arith)
      by-class (is-end p r) = let z : ⊥ = omega arith in absurd z

  pub class-bad : c ≡ outside_class → Going y n x s (i + 1)
  unfolding k
  class-bad a = by-class (sorted y (get_or s i 0) e)
    where
      by-class : Sorted (kind_of y.service (get_or s i 0)) (inside y.level (get_or s i 0)) c → Going y n x s (i + 1)
      by-class (is-data p q r) = on (omega arith) (λ z. omega arith)
      by-class (is-bad p q r) = on (omega arith) (λ z. omega arith)
      by-class (is-release p r) = let z : ⊥ = omega arith in absurd z
      by-class (is-separator p q r) = let z : ⊥ = omega arith in absurd z
      by-class (is-end p r) = let z : ⊥ = omega arith in absurd z

  pub class-hit : n ≤ c → c < release_class → Some i ≡ x
  unfolding k
  class-hit a b = by-class (sorted y (get_or s i 0) e)
    where
      by-class : Sorted (kind_of y.service (get_or s i 0)) (inside y.level (get_or s i 0)) c → Some i ≡ x
      by-class (is-data p q r) = let z : ⊥ = omega arith in absurd z
      by-class (is-bad p q r) = let z : ⊥ = omega arith in absurd z
      by-class (is-release p r) = let z : ⊥ = omega arith in absurd z
      by-class (is-separator p q r) = sym (g.finds ∙ stop-hit y.service n false s i h refl (omega arith))
      by-class (is-end p r) = sym (g.finds ∙ stop-hit y.service n false s i h refl (omega arith))

  released : release_class ≤ c → (c ≡ outside_class → ⊥) → k ≡ 0
  unfolding k
  released a b = by-class (sorted y (get_or s i 0) e)
    where
      by-class : Sorted (kind_of y.service (get_or s i 0)) (inside y.level (get_or s i 0)) c → kind_of y.service (get_or s i 0) ≡ 0
      by-class (is-data p q r) = let z : ⊥ = omega arith in absurd z
      by-class (is-bad p q r) = absurd (b r)
      by-class (is-release p r) = p
      by-class (is-separator p q r) = let z : ⊥ = omega arith in absurd z
      by-class (is-end p r) = let z : ⊥ = omega arith in absurd z

  freeing : release_class ≤ c → (c ≡ outside_class → ⊥) → x ≡ stop_from y.service n true (drop (i + 1) s) (i + 1)
  unfolding k
  freeing a b = let z = released a b in g.finds ∙ stop-on y.service n false s i h refl (omega arith) ∙ rw (eq-eqb _ _ z)

  pub class-freed : release_class ≤ c → (c ≡ outside_class → ⊥) → i + 1 < length s → Going y n x s (i + 1 + 1)
  class-freed a b d = record { finds = freeing a b ∙ stop-on y.service n true s (i + 1) d refl (omega arith) }

  pub class-cut : release_class ≤ c → (c ≡ outside_class → ⊥) → length s ≤ i + 1 → None ≡ x
  class-cut a b d = sym (freeing a b ∙ stop-none y.service n true s (i + 1) d)

-- ---- a cut

module _ (y : Syntax) (s : List ℕ) (i : ℕ) where
  cut-none : (f : Bool) → length s ≤ i → cut_from y f (drop i s) i ≡ Open
  cut-none f h = rw (drop_of_length-le s h)

  module _ (h : i < length s) where
    cut-end : leb 5 (kind_of y.service (get_or s i 0)) ≡ true → cut_from y false (drop i s) i ≡ Ends i
    cut-end p = rw (drop-cons s i 0 h, p)

    cut_on : (f : Bool) → leb 5 (kind_of y.service (get_or s i 0)) ≡ false → outside y (get_or s i 0) ≡ false → eqb (kind_of y.service (get_or s i 0)) 0 ≡ f →
        cut_from y false (drop i s) i ≡ cut_from y f (drop (i + 1) s) (i + 1)
    cut_on f p q r = rw (add-one, drop-cons s i 0 h, p, q, r)

    cut-bad : leb 5 (kind_of y.service (get_or s i 0)) ≡ false → outside y (get_or s i 0) ≡ true → eqb (kind_of y.service (get_or s i 0)) 0 ≡ false →
        cut_from y false (drop i s) i ≡ cut_by (stop_from y.service 5 false (drop (i + 1) s) (i + 1)) (Some i)
    cut-bad p q r = rw (add-one, drop-cons s i 0 h, p, q, r)

    freed-on : outside y (get_or s i 0) ≡ false → cut_from y true (drop i s) i ≡ cut_from y false (drop (i + 1) s) (i + 1)
    freed-on q = rw (add-one, drop-cons s i 0 h, q)

    freed-bad : outside y (get_or s i 0) ≡ true →
        cut_from y true (drop i s) i ≡ cut_by (stop_from y.service 5 false (drop (i + 1) s) (i + 1)) (Some i)
    freed-bad q = rw (add-one, drop-cons s i 0 h, q)

pub cutting-none : {y : Syntax} {x : Cut} {s : List ℕ} {i : ℕ} → Cutting y x s i → length s ≤ i → Open ≡ x
cutting-none {y} {x} {s} {i} g h = sym (g.finds ∙ cut-none y s i false h)

module _ {y : Syntax} {x : Cut} {s : List ℕ} {i : ℕ} (g : Cutting y x s i) (h : i < length s) {c : ℕ} (e : c ≡ class_of y (get_or s i 0)) where
  pub cutting-on : c < end_class → Cutting y x s (i + 1)
  cutting-on a = by-class (sorted y (get_or s i 0) e)
    where
      by-class : Sorted (kind_of y.service (get_or s i 0)) (inside y.level (get_or s i 0)) c → Cutting y x s (i + 1)
      by-class (is-data p q r) = record { finds = g.finds ∙ cut_on y s i h false (lt-leb 5 (kind_of y.service (get_or s i 0)) (omega arith)) (rw (p, q)) (ne_eqb (kind_of y.service (get_or s i 0)) 0 (λ z. omega arith)) }
      by-class (is-bad p q r) = let z : ⊥ = omega arith in absurd z
      by-class (is-release p r) = let z : ⊥ = omega arith in absurd z
      by-class (is-separator p q r) = record { finds = g.finds ∙ cut_on y s i h false (lt-leb 5 (kind_of y.service (get_or s i 0)) (omega arith)) (rw (ne_eqb (kind_of y.service (get_or s i 0)) 1 (λ z. omega arith))) (ne_eqb (kind_of y.service (get_or s i 0)) 0 (λ z. omega arith)) }
      by-class (is-end p r) = let z : ⊥ = omega arith in absurd z

  pub cutting-end : c ≡ end_class → Ends i ≡ x
  cutting-end a = by-class (sorted y (get_or s i 0) e)
    where
      by-class : Sorted (kind_of y.service (get_or s i 0)) (inside y.level (get_or s i 0)) c → Ends i ≡ x
      by-class (is-data p q r) = let z : ⊥ = omega arith in absurd z
      by-class (is-bad p q r) = let z : ⊥ = omega arith in absurd z
      by-class (is-release p r) = let z : ⊥ = omega arith in absurd z
      by-class (is-separator p q r) = let z : ⊥ = omega arith in absurd z
      by-class (is-end p r) = sym (g.finds ∙ cut-end y s i h (le-leb 5 (kind_of y.service (get_or s i 0)) (omega arith)))

  pub cutting-bad : {q : Option ℕ} {w : Cut} → c ≡ outside_class → q ≡ stop_from y.service 5 false (drop (i + 1) s) (i + 1) → w ≡ cut_by q (Some i) → w ≡ x
  cutting-bad {q} {w} a d u = by-class (sorted y (get_or s i 0) e)
    where
      by-class : Sorted (kind_of y.service (get_or s i 0)) (inside y.level (get_or s i 0)) c → w ≡ x
      by-class (is-data p q r) = let z : ⊥ = omega arith in absurd z
      by-class (is-bad p q r) = u ∙ ap (λ (f : Option ℕ). cut_by f (Some i)) d ∙ sym (g.finds ∙ cut-bad y s i h (lt-leb 5 (kind_of y.service (get_or s i 0)) (omega arith)) (rw (p, q)) (ne_eqb (kind_of y.service (get_or s i 0)) 0 (λ z. omega arith)))
      by-class (is-release p r) = let z : ⊥ = omega arith in absurd z
      by-class (is-separator p q r) = let z : ⊥ = omega arith in absurd z
      by-class (is-end p r) = let z : ⊥ = omega arith in absurd z

  freeing-cut : end_class ≤ c → (c ≡ end_class → ⊥) → (c ≡ outside_class → ⊥) → x ≡ cut_from y true (drop (i + 1) s) (i + 1)
  freeing-cut a b d = by-class (sorted y (get_or s i 0) e)
    where
      by-class : Sorted (kind_of y.service (get_or s i 0)) (inside y.level (get_or s i 0)) c → x ≡ cut_from y true (drop (i + 1) s) (i + 1)
      by-class (is-data p q r) = let z : ⊥ = omega arith in absurd z
      by-class (is-bad p q r) = absurd (d r)
      by-class (is-release p r) = g.finds ∙ cut_on y s i h true (lt-leb 5 (kind_of y.service (get_or s i 0)) (omega arith)) (rw p) (eq-eqb (kind_of y.service (get_or s i 0)) 0 p)
      by-class (is-separator p q r) = let z : ⊥ = omega arith in absurd z
      by-class (is-end p r) = absurd (b r)

  pub cutting-short : end_class ≤ c → (c ≡ end_class → ⊥) → (c ≡ outside_class → ⊥) → length s ≤ i + 1 → Open ≡ x
  cutting-short a b d k = sym (freeing-cut a b d ∙ cut-none y s (i + 1) true k)

  module _ (a : end_class ≤ c) (b : c ≡ end_class → ⊥) (d : c ≡ outside_class → ⊥) (h' : i + 1 < length s) {c' : ℕ} (e' : c' ≡ class_of y (get_or s (i + 1) 0)) where
    pub cutting-freed : (c' ≡ outside_class → ⊥) → Cutting y x s (i + 1 + 1)
    cutting-freed o = record { finds = freeing-cut a b d ∙ freed-on y s (i + 1) h' (by-class (sorted y (get_or s (i + 1) 0) e')) }
      where
        by-class : Sorted (kind_of y.service (get_or s (i + 1) 0)) (inside y.level (get_or s (i + 1) 0)) c' → outside y (get_or s (i + 1) 0) ≡ false
        by-class (is-data p q r) = rw (p, q)
        by-class (is-bad p q r) = absurd (o r)
        by-class (is-release p r) = rw p
        by-class (is-separator p q r) = rw (ne_eqb (kind_of y.service (get_or s (i + 1) 0)) 1 (λ z. omega arith))
        by-class (is-end p r) = rw (ne_eqb (kind_of y.service (get_or s (i + 1) 0)) 1 (λ z. omega arith))

    pub cutting-freed-bad : {q : Option ℕ} {w : Cut} → c' ≡ outside_class → q ≡ stop_from y.service 5 false (drop (i + 1 + 1) s) (i + 1 + 1) → w ≡ cut_by q (Some (i + 1)) → w ≡ x
    cutting-freed-bad {q} {w} o m u =
        u ∙ ap (λ (f : Option ℕ). cut_by f (Some (i + 1))) m ∙ sym (freeing-cut a b d ∙ freed-bad y s (i + 1) h' (by-class (sorted y (get_or s (i + 1) 0) e')))
      where
        by-class : Sorted (kind_of y.service (get_or s (i + 1) 0)) (inside y.level (get_or s (i + 1) 0)) c' → outside y (get_or s (i + 1) 0) ≡ true
        by-class (is-data p q r) = let z : ⊥ = omega arith in absurd z
        by-class (is-bad p q r) = rw (p, q)
        by-class (is-release p r) = let z : ⊥ = omega arith in absurd z
        by-class (is-separator p q r) = let z : ⊥ = omega arith in absurd z
        by-class (is-end p r) = let z : ⊥ = omega arith in absurd z

-- ---- a stop lies in the input, and is of the kind that was asked for

pub record Stopped (σ : Service) (n : ℕ) (s : List ℕ) (i q : ℕ) (m : ℕ) : Type 0 where
  pub low : i ≤ q
  pub high : q < i + m
  pub kinds : n ≤ kind_of σ (get_or s q 0)

never : {A : Type 0} {q : ℕ} → None ≡ Some q → A
never e = let z : ◌≡◌ {A = ℕ} 0 1 = cc in let y : ⊥ = omega arith in absurd y

module _ (σ : Service) (n : ℕ) (s : List ℕ) (m : 2 ≤ n) where
  stopped-from : (l : List ℕ) (f : Bool) (i q : ℕ) → drop i s ≡ l → stop_from σ n f l i ≡ Some q → Stopped σ n s i q (length l)
  stopped-from [] f i q d e = never e
  stopped-from (b ∷ l) f i q d e = by-test (leb n (kind σ f b)) refl e (stopped-from l (eqb (kind σ f b) 0) (suc i) q (drop-tail i s d))
    where
      plain : (f : Bool) → n ≤ kind σ f b → n ≤ kind_of σ b
      plain true h = let z : ⊥ = omega arith in absurd z
      plain false h = h

      by-test : (t : Bool) → leb n (kind σ f b) ≡ t → cond t (Some i) (stop_from σ n (eqb (kind σ f b) 0) l (suc i)) ≡ Some q →
          (stop_from σ n (eqb (kind σ f b) 0) l (suc i) ≡ Some q → Stopped σ n s (suc i) q (length l)) → Stopped σ n s i q (suc (length l))
      by-test true h e r =
          let p : i ≡ q = cc in
          record { low = omega arith; high = omega arith; kinds = rw (← p, drop_head i s d) (plain f (leb-true n (kind σ f b) h)) }
      by-test false h e r = let w = r e in let a = w.low in let c = w.high in record { low = omega arith; high = omega arith; kinds = w.kinds }

  pub stop-in : (i q : ℕ) → stop_from σ n false (drop i s) i ≡ Some q → (i ≤ q) × (q < length s) × (n ≤ kind_of σ (get_or s q 0))
  stop-in i q e =
      let w = stopped-from (drop i s) false i q refl e in
      let a = w.low in let b = w.high in let d = length-drop i s in (a, omega arith, w.kinds)

-- ---- the running form of a cut is the one over the segment's stretch

module _ (y : Syntax) where
  -- a terminator is never outside
  ends-inside : (f : Bool) (b : ℕ) → 5 ≤ kind y.service f b → outside y b ≡ false
  ends-inside true b h = let z : ⊥ = omega arith in absurd z
  ends-inside false b h = rw (ne_eqb (kind_of y.service b) 1 (λ z. omega arith))

  bad-stretch : (l : List ℕ) (f : Bool) (i e : ℕ) → stop_from y.service 5 f l i ≡ Some e → bad_from y f l i ≡ first_outside y (take (suc e - i) l) i
  bad-stretch [] f i e h = never h
  bad-stretch (b ∷ l) f i e h = by-test (leb 5 (kind y.service f b)) refl h (bad-stretch l (eqb (kind y.service f b) 0) (suc i) e)
    where
      by-test : (t : Bool) → leb 5 (kind y.service f b) ≡ t → cond t (Some i) (stop_from y.service 5 (eqb (kind y.service f b) 0) l (suc i)) ≡ Some e →
          (stop_from y.service 5 (eqb (kind y.service f b) 0) l (suc i) ≡ Some e →
          bad_from y (eqb (kind y.service f b) 0) l (suc i) ≡ first_outside y (take (suc e - suc i) l) (suc i)) →
          cond t None (cond (outside y b) (Some i) (bad_from y (eqb (kind y.service f b) 0) l (suc i))) ≡ first_outside y (take (suc e - i) (b ∷ l)) i
      by-test true t h r =
          let p : i ≡ e = cc in
          let n : suc e - i ≡ 1 = omega arith in
          rw (n, ends-inside f b (leb-true 5 (kind y.service f b) t))
      by-test false t h r =
          let w = low-from l (eqb (kind y.service f b) 0) (suc i) h in
          let n : suc e - i ≡ suc (suc e - suc i) = omega arith in
          rw (n, r h)
        where
          low-from : (l : List ℕ) (f : Bool) (i : ℕ) → stop_from y.service 5 f l i ≡ Some e → i ≤ e
          low-from [] f i h = never h
          low-from (b ∷ l) f i h = go (leb 5 (kind y.service f b)) h (low-from l (eqb (kind y.service f b) 0) (suc i))
            where
              go : (t : Bool) → cond t (Some i) (stop_from y.service 5 (eqb (kind y.service f b) 0) l (suc i)) ≡ Some e →
                  (stop_from y.service 5 (eqb (kind y.service f b) 0) l (suc i) ≡ Some e → suc i ≤ e) → i ≤ e
              go true h r = let p : i ≡ e = cc in omega arith
              go false h r = let w = r h in omega arith

  pub cut-runs : (s : List ℕ) (a : ℕ) → cut_from y false (drop a s) a ≡ cut_at y s a
  cut-runs s a = by (end_at y.service s a) refl
    where
      by : (x : Option ℕ) → end_at y.service s a ≡ x → cut_by x (bad_from y false (drop a s) a) ≡ cut_by x (first_outside y (stretch s a x) a)
      by None h = refl
      by (Some e) h = ap (cut_by (Some e)) (bad-stretch (drop a s) false a e h ∙ ap (λ (l : List ℕ). first_outside y l a) (sym (slice-take a (suc e) s)))

-- ---- several octets at once

-- a cut under way says that the cut from there is the one that is to be found
module _ {y : Syntax} {x : Cut} {s : List ℕ} {i : ℕ} where
  pub cutting-at : cut_at y s i ≡ x → Cutting y x s i
  cutting-at e = record { finds = sym (cut-runs y s i ∙ e) }

  pub cutting-from : Cutting y x s i → cut_at y s i ≡ x
  cutting-from g = sym (g.finds ∙ cut-runs y s i)

pub four-of : {y : Syntax} (s : List ℕ) (i : ℕ) {a b c d r : ℕ} → i + 4 ≤ length s →
    a ≡ class_of y (get_or s i 0) → b ≡ class_of y (get_or s (i + 1) 0) → c ≡ class_of y (get_or s (i + 2) 0) → d ≡ class_of y (get_or s (i + 3) 0) →
    r ≡ a + b + (c + d) → Four y s i r
four-of {y} s i {a} {b} {c} {d} {r} h ea eb ec ed e = record { passes = past }
  where
    past : r < end_class → cut_at y s (i + 4) ≡ cut_at y s i
    past l =
        let n₂ : i + 1 + 1 ≡ i + 2 = omega arith in
        let n₃ : i + 2 + 1 ≡ i + 3 = omega arith in
        let n₄ : i + 3 + 1 ≡ i + 4 = omega arith in
        let g₁ = cutting-on (cutting-at {y = y} {s = s} {i = i} refl) (omega arith) ea (omega arith) in
        let g₂ = rw n₂ at (cutting-on g₁ (omega arith) eb (omega arith)) in
        let g₃ = rw n₃ at (cutting-on g₂ (omega arith) ec (omega arith)) in
        let g₄ = rw n₄ at (cutting-on g₃ (omega arith) ed (omega arith)) in
        cutting-from g₄

pub cutting-four : {y : Syntax} {x : Cut} {s : List ℕ} {i r : ℕ} → Cutting y x s i → Four y s i r → r < end_class → Cutting y x s (i + 4)
cutting-four g p h = cutting-at (p.passes h ∙ cutting-from g)

pub cutting-eight : {y : Syntax} {x : Cut} {s : List ℕ} {i a b : ℕ} → Cutting y x s i → Four y s i a → a < end_class → Four y s (i + 4) b → b < end_class →
    Cutting y x s (i + 8)
cutting-eight {y} {x} {s} {i} g p h q k = let n : i + 4 + 4 ≡ i + 8 = omega arith in rw n at (cutting-four (cutting-four g p h) q k)

-- where a cut ends
abbrev pub CutIn : List ℕ → ℕ → Cut → Type 0
CutIn s a (Ends e) = (a ≤ e) × (e < length s)
CutIn s a (Spoilt e b) = (a ≤ e) × (e < length s)
CutIn s a Open = Unit {0}

pub cut_in : (y : Syntax) (s : List ℕ) (a : ℕ) → CutIn s a (cut_at y s a)
cut_in y s a = by (end_at y.service s a) refl (first_outside y (stretch s a (end_at y.service s a)) a)
  where
    by : (x : Option ℕ) → end_at y.service s a ≡ x → (z : Option ℕ) → CutIn s a (cut_by x z)
    by None h z = tt
    by (Some e) h None = let w = stop-in y.service 5 s (omega arith) a e h in (w.0, w.1)
    by (Some e) h (Some b) = let w = stop-in y.service 5 s (omega arith) a e h in (w.0, w.1)

-- ---- the ends of an input are the stops one after the other

module _ (σ : Service) (s : List ℕ) where
  ends-from : (l : List ℕ) (f : Bool) (i q : ℕ) → drop i s ≡ l → stop_from σ 5 f l i ≡ Some q → ends σ f l i ≡ q ∷ ends σ false (drop (q + 1) s) (q + 1)
  ends-from [] f i q d e = never e
  ends-from (b ∷ l) f i q d e = pick (leb 5 (kind σ f b)) refl e (ends-from l (eqb (kind σ f b) 0) (suc i) q (drop-tail i s d))
    where
      pick : (t : Bool) → leb 5 (kind σ f b) ≡ t → cond t (Some i) (stop_from σ 5 (eqb (kind σ f b) 0) l (suc i)) ≡ Some q →
          (stop_from σ 5 (eqb (kind σ f b) 0) l (suc i) ≡ Some q → ends σ (eqb (kind σ f b) 0) l (suc i) ≡ q ∷ ends σ false (drop (q + 1) s) (q + 1)) →
          cond t (i ∷ ends σ (eqb (kind σ f b) 0) l (suc i)) (ends σ (eqb (kind σ f b) 0) l (suc i)) ≡ q ∷ ends σ false (drop (q + 1) s) (q + 1)
      pick true h e r =
          let p : i ≡ q = cc in
          let k : 5 ≤ kind σ f b = leb-true 5 (kind σ f b) h in
          rw (← p, add-one, drop-tail i s d, ne_eqb (kind σ f b) 0 (omega arith))
      pick false h e r = r e

  none_from_lem : (l : List ℕ) (f : Bool) (i : ℕ) → stop_from σ 5 f l i ≡ None → ends σ f l i ≡ []
  none_from_lem [] f i e = refl
  none_from_lem (b ∷ l) f i e = pick (leb 5 (kind σ f b)) e (none_from_lem l (eqb (kind σ f b) 0) (suc i))
    where
      pick : (t : Bool) → cond t (Some i) (stop_from σ 5 (eqb (kind σ f b) 0) l (suc i)) ≡ None →
          (stop_from σ 5 (eqb (kind σ f b) 0) l (suc i) ≡ None → ends σ (eqb (kind σ f b) 0) l (suc i) ≡ []) →
          cond t (i ∷ ends σ (eqb (kind σ f b) 0) l (suc i)) (ends σ (eqb (kind σ f b) 0) l (suc i)) ≡ []
      pick true e r = cc
      pick false e r = r e

  -- the first end from a place on is the end of the segment there; the others are those from the next segment on
  pub ends_next : (a e : ℕ) → end_at σ s a ≡ Some e → ends σ false (drop a s) a ≡ e ∷ ends σ false (drop (e + 1) s) (e + 1)
  ends_next a e h = ends-from (drop a s) false a e refl h

  pub ends-none : (a : ℕ) → end_at σ s a ≡ None → ends σ false (drop a s) a ≡ []
  ends-none a h = none_from_lem (drop a s) false a h
