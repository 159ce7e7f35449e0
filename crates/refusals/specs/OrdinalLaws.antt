-- The loop that counts the segments that end in a stretch.
use Rattle.syntax.specs.declared.Refusal.{Refusal}
use Rattle.syntax.specs.Refusals.{refusal_at}
use Rattle.syntax.specs.Ordinal.{ordinal_by, ordinal_of}
use Rattle.syntax.specs.declared.opening.Opening.{Opening}
use Rattle.syntax.specs.declared.Breach.{Breach}
use Rattle.syntax.specs.Opening.{opening_of}
use Rattle.std.proofs.Math.Seq.{slice}
use Rattle.syntax.specs.Service.{kind, kind_of}
use Rattle.std.proofs.lemmas.Bool.{eqb-false}
use mir.Val.{bool_byte}
use Rattle.std.specs.Prelude.{ℕ, ◌+◌, ◌≤◌, ◌<◌, List, [], ◌∷◌, ◌≡◌, refl, Bool, true, false, cond, eqb, leb, length, get_or, drop, suc, not, Result, Ok, Err}
use Rattle.std.proofs.Common.{arith, add-one, ap, ◌∙◌, drop_of_length-le, drop-cons, sym, eqb-true, ne_eqb, eq-eqb}
use Rattle.syntax.specs.Cutting.{ends}
use Rattle.syntax.specs.declared.Service.{Service}
use Rattle.refusals.specs.Counting.{ends_here, frees_next, one_if}

-- the rest of the tests tells neither
rest-low : (e c p : Bool) → leb 5 (cond e 4 (cond c 2 (cond p 3 1))) ≡ false
rest-low true c p = refl
rest-low false true p = refl
rest-low false false true = refl
rest-low false false false = refl

rest_some : (e c p : Bool) → eqb (cond e 4 (cond c 2 (cond p 3 1))) 0 ≡ false
rest_some true c p = refl
rest_some false true p = refl
rest_some false false true = refl
rest_some false false false = refl

module _ (σ : Service) (b : ℕ) where
  ends_by : (z r t : Bool) → leb 5 (cond z 1 (cond r 0 (cond t 5 (cond (eqb b σ.element) 4 (cond (eqb b σ.component) 2 (cond (eqb b σ.repetition) 3 1)))))) ≡ cond z false (cond r false t)
  ends_by true r t = refl
  ends_by false true t = refl
  ends_by false false true = refl
  ends_by false false false = rest-low (eqb b σ.element) (eqb b σ.component) (eqb b σ.repetition)

  frees-by : (z r t : Bool) → eqb (cond z 1 (cond r 0 (cond t 5 (cond (eqb b σ.element) 4 (cond (eqb b σ.component) 2 (cond (eqb b σ.repetition) 3 1)))))) 0 ≡ cond z false r
  frees-by true r t = refl
  frees-by false true t = refl
  frees-by false false true = refl
  frees-by false false false = rest_some (eqb b σ.element) (eqb b σ.component) (eqb b σ.repetition)

  pub end_is : ends_here σ false b ≡ cond (eqb b 32) false (cond (eqb b σ.release) false (eqb b σ.terminator))
  end_is = ends_by (eqb b 32) (eqb b σ.release) (eqb b σ.terminator)

  pub free-is : frees_next σ false b ≡ cond (eqb b 32) false (eqb b σ.release)
  free-is = frees-by (eqb b 32) (eqb b σ.release) (eqb b σ.terminator)

-- ---- the loop: n segments end before i, and the octet before i releases the next one or not

pub record Counting (σ : Service) (x : List ℕ) (i n : ℕ) (f : Bool) : Type 0 where
  pub inside : i ≤ length x
  pub few : n ≤ i
  pub same : n + length (ends σ f (drop i x) i) ≡ length (ends σ false x 0)

pub counting-start : {σ : Service} {x : List ℕ} → Counting σ x 0 0 false
counting-start = record { inside = omega arith; few = omega arith; same = omega arith }

pub byte-one : (t : Bool) → (bool_byte t ≡ one_if t) × (bool_byte t ≤ 1)
byte-one true = (refl, omega arith)
byte-one false = (refl, omega arith)

longer : (t : Bool) (i : ℕ) (r : List ℕ) → length (cond t (i ∷ r) r) ≡ one_if t + length r
longer true i r = omega arith
longer false i r = omega arith

few-more : (t : Bool) (n i : ℕ) → n ≤ i → n + one_if t ≤ i + 1
few-more true n i h = omega arith
few-more false n i h = omega arith

module _ {σ : Service} {x : List ℕ} {i n : ℕ} {f : Bool} (g : Counting σ x i n f) where
  pub counting-end : length x ≤ i → (n ≡ length (ends σ false x 0)) × (n ≤ length x)
  counting-end h =
      let e : ends σ f (drop i x) i ≡ [] = ap (λ (l : List ℕ). ends σ f l i) (drop_of_length-le x h) in
      let k : length (ends σ f (drop i x) i) ≡ 0 = ap length e in
      let a = g.same in let b = g.few in let c = g.inside in
      (omega arith, omega arith)

  module _ (h : i < length x) where
    more : length (ends σ f (drop i x) i) ≡ one_if (ends_here σ f (get_or x i 0)) + length (ends σ (frees_next σ f (get_or x i 0)) (drop (i + 1) x) (i + 1))
    more = ap (λ (l : List ℕ). length (ends σ f l i)) (drop-cons x i 0 h) ∙ longer (ends_here σ f (get_or x i 0)) i _ ∙ rw (add-one i)

    pub counting-fits : (k : ℕ) → k ≤ 1 → n + k ≤ length x
    counting-fits k e = let m = g.few in omega arith

    pub counting-on : {t f' : Bool} {k : ℕ} → t ≡ ends_here σ f (get_or x i 0) → k ≡ one_if t → f' ≡ frees_next σ f (get_or x i 0) → Counting σ x (i + 1) (n + k) f'
    counting-on {t} {f'} {k} p d q =
        let m = more in
        let z = g.same in
        rw (d, p, q) (record { inside = omega arith; few = few-more (ends_here σ f (get_or x i 0)) n i g.few; same = omega arith })

-- ---- branch by branch

module _ (σ : Service) {f : Bool} (b : ℕ) where
  pub ends-freed : f ≡ true → false ≡ ends_here σ f b
  ends-freed e = rw e

  pub frees-freed : f ≡ true → false ≡ frees_next σ f b
  frees-freed e = rw e

  module _ (e : f ≡ false) where
    pub ends-space : b ≡ 32 → false ≡ ends_here σ f b
    ends-space h = rw (e, h)

    pub frees-space : b ≡ 32 → false ≡ frees_next σ f b
    frees-space h = rw (e, h)

    module _ (n : b ≡ 32 → ⊥) where
      pub ends-release : b ≡ σ.release → false ≡ ends_here σ f b
      ends-release h = let z : eqb b σ.release ≡ true = eq-eqb b σ.release h in rw e (sym (end_is σ b ∙ rw (ne_eqb b 32 n, z)))

      pub ends-else : (b ≡ σ.release → ⊥) → eqb b σ.terminator ≡ ends_here σ f b
      ends-else h = rw e (sym (end_is σ b ∙ rw (ne_eqb b 32 n, ne_eqb b σ.release h)))

      pub frees-else : eqb b σ.release ≡ frees_next σ f b
      frees-else = rw e (sym (free-is σ b ∙ rw (ne_eqb b 32 n)))

-- ---- the whole

module _ (s : List ℕ) (p : ℕ) {x : Result Opening Breach} (q : x ≡ opening_of s) where
  pub ordinal-none : {f : Breach} → x ≡ Err f → 0 ≡ ordinal_of s p
  ordinal-none e = ap (λ (y : Result Opening Breach). ordinal_by y s p) (sym e ∙ q)

  pub ordinal-some : {o : Opening} {n : ℕ} → x ≡ Ok o → n ≡ length (ends o.service false (slice o.at p s) 0) → n + 1 ≡ ordinal_of s p
  ordinal-some {o} {n} e h = let z : n + 1 ≡ suc (length (ends o.service false (slice o.at p s) 0)) = omega arith in z ∙ ap (λ (y : Result Opening Breach). ordinal_by y s p) (sym e ∙ q)

-- a refusal that carries it
pub refusal_is : (s : List ℕ) (n p : ℕ) {k : ℕ} → k ≡ ordinal_of s p → ◌≡◌ {A = Refusal} (record { number = n; place = p; segment = k }) (refusal_at s n p)
refusal_is s n p h = ap (λ (k : ℕ). record { number = n; place = p; segment = k }) h
