-- Laws of the headers kept: each search, a step at a time; and what the stores do.
use Rattle.std.specs.Prelude.{ℕ, zero, suc, ◌+◌, ◌*◌, ◌-◌, ◌^◌, ◌≤◌, ◌<◌, ◌≡◌, refl, Bool, true, false, cond, not, ◌&&◌, List, eqb, ltb, length, get_or, set}
use Rattle.std.proofs.Common.{arith, add-one, ap, sym, ◌∙◌, subst, eq-eqb, ne_eqb, lt-ltb, le-ltb, eqb-true, length-set, get_or-set_same, get_or-set_other}
use Rattle.std.proofs.Math.Bool.{and-true, and-false, or-true}
use Rattle.std.proofs.Math.Option.{Option, none, some}
use Rattle.std.proofs.lemmas.Bool.{eqb-false}
use Rattle.std.proofs.Math.Seq.{slice}
use Rattle.syntax.specs.Octets.{same}
use Rattle.syntax.specs.Content.{content, compared}
use Rattle.grammar.specs.Lists.{Snoc, ◌▷◌, size, among}
use Rattle.message.specs.Summary.{is_found, or_else, free_at, all_named, more_in_last, size_in, named}
use Rattle.message.specs.Heads.{upto, head_ref, head_size, head_flag, head_refs, head_sizes, head_flags, pos_or, Pushed, GrownLast, Named, Small}

-- ---- lists by index

pub size-upto : {A : Type 0} (n : ℕ) (f : ℕ → A) → size (upto n f) ≡ n
size-upto zero f = refl
size-upto (suc n) f = ap suc (size-upto n f)

pub upto-same : {A : Type 0} (n : ℕ) (f g : ℕ → A) → ((i : ℕ) → i < n → f i ≡ g i) → upto n f ≡ upto n g
upto-same zero f g h = refl
upto-same (suc n) f g h = rw (upto-same n f g (λ i l. h i (omega (arith, l))), h n (omega arith))

-- what is at n stays there as the list grows
grows : (P : ℕ → Type 0) (i n : ℕ) → ((k : ℕ) → i < k → P k → P (suc k)) → P (suc i) → i < n → P n
grows P i zero step p l = absurd (omega (arith, l))
grows P i (suc n) step p l = here (eqb i n) refl (grows P i n step p)
  where
    here : (b : Bool) → eqb i n ≡ b → (i < n → P n) → P (suc n)
    here true e r = subst (λ (k : ℕ). P (suc k)) (eqb-true i n e) p
    here false e r = let l' : i < n = omega (arith, l, eqb-false i n e) in step n l' (r l')

-- ---- one of these references

among-hit : (f : ℕ → List ℕ) (r : List ℕ) (i n : ℕ) → i < n → same (f i) r ≡ true → among (upto n f) r ≡ true
among-hit f r i n l e = grows (λ (k : ℕ). among (upto k f) r ≡ true) i n (λ k _ p. rw p (or-true (same (f k) r))) (rw e) l

pub record Naming (ρ : ℕ) (s h x : List ℕ) (n i : ℕ) : Type 0 where
  pub most : i ≤ n
  pub none : among (head_refs ρ s h i) (compared (content ρ x)) ≡ false

module _ {ρ : ℕ} {s h x : List ℕ} {n i : ℕ} (g : Naming ρ s h x n i) where
  pub naming-end : n ≤ i → false ≡ among (head_refs ρ s h n) (compared (content ρ x))
  naming-end l = let e : n ≡ i = omega (arith, g.most, l) in rw e (sym g.none)

  module _ {p : List ℕ} {b : Bool} (l : i < n) (q : p ≡ slice (get_or h (4 * i) 0) (get_or h (4 * i + 1) 0) s) (e : b ≡ same (compared (content ρ p)) (compared (content ρ x))) where
    pub naming-hit : b ≡ true → true ≡ among (head_refs ρ s h n) (compared (content ρ x))
    naming-hit t = sym (among-hit (head_ref ρ s h) (compared (content ρ x)) i n l (rw (← q) (sym e ∙ t)))

    pub naming-on : b ≡ false → Naming ρ s h x n (i + 1)
    naming-on t = record { most = omega (arith, l); none = rw (add-one, ← q, ← e, t) g.none }

-- ---- the first that is free

free_on : (r : List ℕ) (f : ℕ → List ℕ) (g : ℕ → Bool) (i : ℕ) → free_at r (upto i f) (upto i g) ≡ none → same (f i) r && not (g i) ≡ false
    → free_at r (upto (suc i) f) (upto (suc i) g) ≡ none
free_on r f g i e t = rw (e, t)

free-hit : (r : List ℕ) (f : ℕ → List ℕ) (g : ℕ → Bool) (i n : ℕ) → free_at r (upto i f) (upto i g) ≡ none → same (f i) r && not (g i) ≡ true → i < n
    → free_at r (upto n f) (upto n g) ≡ some i
free-hit r f g i n e t l =
    grows (λ (k : ℕ). free_at r (upto k f) (upto k g) ≡ some i) i n (λ k _ p. rw p) (rw (e, t) (ap some (size-upto i f))) l

pub record Seeking (ρ : ℕ) (s h x : List ℕ) (n i : ℕ) : Type 0 where
  pub most : i ≤ n
  pub none : free_at x (head_refs ρ s h i) (head_flags h i) ≡ none

pub seeking-start : {ρ : ℕ} {s h x : List ℕ} {n : ℕ} → Seeking ρ s h x n 0
seeking-start = record { most = omega arith; none = refl }

module _ {ρ : ℕ} {s h x : List ℕ} {n i : ℕ} (g : Seeking ρ s h x n i) where
  pub seeking-end : n ≤ i → n ≡ pos_or n (free_at x (head_refs ρ s h n) (head_flags h n))
  seeking-end l = let e : n ≡ i = omega (arith, g.most, l) in ap (pos_or n) (sym g.none ∙ ap (λ (k : ℕ). free_at x (head_refs ρ s h k) (head_flags h k)) (sym e))

  module _ {b : Bool} (l : i < n) (e : b ≡ (same (head_ref ρ s h i) x && not (head_flag h i))) where
    pub seeking-hit : b ≡ true → i ≡ pos_or n (free_at x (head_refs ρ s h n) (head_flags h n))
    seeking-hit t = ap (pos_or n) (sym (free-hit x (head_ref ρ s h) (head_flag h) i n g.none (sym e ∙ t) l))

    pub seeking-on : b ≡ false → Seeking ρ s h x n (i + 1)
    seeking-on t = record { most = omega (arith, l); none = rw add-one (free_on x (head_ref ρ s h) (head_flag h) i g.none (sym e ∙ t)) }

-- a header's test: its flag, then its content
module _ (ρ : ℕ) (s h x : List ℕ) (i : ℕ) where
  pub free-named : (get_or h (4 * i + 3) 0 ≡ 0 → ⊥) → false ≡ (same (head_ref ρ s h i) x && not (head_flag h i))
  free-named u = sym (off (same (head_ref ρ s h i) x))
    where
      off : (b : Bool) → b && not (not (eqb (get_or h (4 * i + 3) 0) 0)) ≡ false
      off true = rw (ne_eqb _ _ u)
      off false = refl

  pub free-by : {p : List ℕ} {b : Bool} → get_or h (4 * i + 3) 0 ≡ 0 → p ≡ slice (get_or h (4 * i) 0) (get_or h (4 * i + 1) 0) s → b ≡ same (compared (content ρ p)) x
      → b ≡ (same (head_ref ρ s h i) x && not (head_flag h i))
  free-by {p} {b} u q e = rw (← q, ← e, eq-eqb _ _ u) (sym (and-true b))

-- the place is below n where there is one
abbrev Below : ℕ → Option ℕ → Type 0
Below n none = Unit {0}
Below n (some i) = i < n

below_or : (n k : ℕ) (o p : Option ℕ) → k ≤ n → Below k o → Below n p → Below n (or_else o p)
below_or n k none p l a b = b
below_or n k (some i) p l a b = omega (arith, l, a)

below-if : (n k : ℕ) (b : Bool) → k < n → Below n (cond b (some k) none)
below-if n k true l = l
below-if n k false l = tt

free-below : (r : List ℕ) (f : ℕ → List ℕ) (g : ℕ → Bool) (n : ℕ) → Below n (free_at r (upto n f) (upto n g))
free-below r f g zero = tt
free-below r f g (suc n) = below_or (suc n) n (free_at r (upto n f) (upto n g)) (cond (same (f n) r && not (g n)) (some (size (upto n f))) none) (omega arith) (free-below r f g n) (below-if (suc n) (size (upto n f)) (same (f n) r && not (g n)) (omega (arith, size-upto n f)))

found_below : (n : ℕ) (o : Option ℕ) → Below n o → is_found o ≡ ltb (pos_or n o) n
found_below n none b = sym (le-ltb n n (omega arith))
found_below n (some i) b = sym (lt-ltb i n b)

pub found_at : (ρ : ℕ) (s h r : List ℕ) (n : ℕ) → is_found (free_at r (head_refs ρ s h n) (head_flags h n)) ≡ ltb (pos_or n (free_at r (head_refs ρ s h n) (head_flags h n))) n
found_at ρ s h r n = found_below n (free_at r (head_refs ρ s h n) (head_flags h n)) (free-below r (head_ref ρ s h) (head_flag h) n)

-- the place again, where one was found
pub found_some : (n : ℕ) (o : Option ℕ) → pos_or n o < n → o ≡ some (pos_or n o)
found_some n none l = absurd (omega (arith, l))
found_some n (some i) l = refl

-- ---- each is named

all-off : (g : ℕ → Bool) (i n : ℕ) → g i ≡ false → i < n → all_named (upto n g) ≡ false
all-off g i n e l = grows (λ (k : ℕ). all_named (upto k g) ≡ false) i n (λ k _ p. rw p) (rw e (and-false (all_named (upto i g)))) l

pub record Checking (h : List ℕ) (n i : ℕ) : Type 0 where
  pub most : i ≤ n
  pub all : all_named (head_flags h i) ≡ true

module _ {h : List ℕ} {n i : ℕ} (g : Checking h n i) where
  pub checking-end : n ≤ i → true ≡ all_named (head_flags h n)
  checking-end l = let e : n ≡ i = omega (arith, g.most, l) in rw e (sym g.all)

  pub checking-off : i < n → get_or h (4 * i + 3) 0 ≡ 0 → false ≡ all_named (head_flags h n)
  checking-off l u = sym (all-off (head_flag h) i n (rw (eq-eqb _ _ u)) l)

  pub checking-on : i < n → (get_or h (4 * i + 3) 0 ≡ 0 → ⊥) → Checking h n (i + 1)
  checking-on l u = record { most = omega (arith, l); all = rw (add-one, g.all, ne_eqb _ _ u) }

-- ---- the stores

size_in_lem : (f : ℕ → ℕ) (n i : ℕ) → i < n → size_in (upto n f) i ≡ f i
size_in_lem f zero i l = absurd (omega (arith, l))
size_in_lem f (suc n) i l = rw (size-upto n f) (here (eqb i n) refl (size_in_lem f n i))
  where
    here : (b : Bool) → eqb i n ≡ b → (i < n → size_in (upto n f) i ≡ f i) → cond (eqb i n) (f n) (size_in (upto n f) i) ≡ f i
    here true e r = rw (eqb-true i n e, eq-eqb n n refl)
    here false e r = rw e (r (omega (arith, l, eqb-false i n e)))

pub size-at : (h : List ℕ) (n i : ℕ) → i < n → size_in (head_sizes h n) i ≡ get_or h (4 * i + 2) 0
size-at h n i l = size_in_lem (head_size h) n i l

-- two references where the numbers that they read are the same
ref-same : (ρ : ℕ) (s h h' : List ℕ) (i : ℕ) → get_or h' (4 * i) 0 ≡ get_or h (4 * i) 0 → get_or h' (4 * i + 1) 0 ≡ get_or h (4 * i + 1) 0
    → head_ref ρ s h' i ≡ head_ref ρ s h i
ref-same ρ s h h' i p q = rw (p, q)

module _ (h : List ℕ) (n a e : ℕ) where
  abbrev from : List ℕ
  from = set h (4 * n) a

  abbrev to : List ℕ
  to = set from (4 * n + 1) e

  abbrev one : List ℕ
  one = set to (4 * n + 2) 1

  abbrev pub pushed : List ℕ
  pushed = set one (4 * n + 3) 0

  push-other : (j : ℕ) → j < 4 * n → get_or pushed j 0 ≡ get_or h j 0
  push-other j l =
      get_or-set_other one (4 * n + 3) j 0 0 (λ x. omega (arith, x, l))
      ∙ get_or-set_other to (4 * n + 2) j 1 0 (λ x. omega (arith, x, l))
      ∙ get_or-set_other from (4 * n + 1) j e 0 (λ x. omega (arith, x, l))
      ∙ get_or-set_other h (4 * n) j a 0 (λ x. omega (arith, x, l))

  module _ (l : 4 * n + 3 < length h) where
    push-start : get_or pushed (4 * n) 0 ≡ a
    push-start =
        get_or-set_other one (4 * n + 3) (4 * n) 0 0 (λ x. omega (arith, x))
        ∙ get_or-set_other to (4 * n + 2) (4 * n) 1 0 (λ x. omega (arith, x))
        ∙ get_or-set_other from (4 * n + 1) (4 * n) e 0 (λ x. omega (arith, x))
        ∙ get_or-set_same h (4 * n) a 0 (omega (arith, l))

    push-end : get_or pushed (4 * n + 1) 0 ≡ e
    push-end =
        get_or-set_other one (4 * n + 3) (4 * n + 1) 0 0 (λ x. omega (arith, x))
        ∙ get_or-set_other to (4 * n + 2) (4 * n + 1) 1 0 (λ x. omega (arith, x))
        ∙ get_or-set_same from (4 * n + 1) e 0 (omega (arith, l, length-set h (4 * n) a))

    push-size : get_or pushed (4 * n + 2) 0 ≡ 1
    push-size =
        get_or-set_other one (4 * n + 3) (4 * n + 2) 0 0 (λ x. omega (arith, x))
        ∙ get_or-set_same to (4 * n + 2) 1 0 (omega (arith, l, length-set h (4 * n) a, length-set from (4 * n + 1) e))

    push-flag : get_or pushed (4 * n + 3) 0 ≡ 0
    push-flag = get_or-set_same one (4 * n + 3) 0 0 (omega (arith, l, length-set h (4 * n) a, length-set from (4 * n + 1) e, length-set to (4 * n + 2) 1))

    pub push-law : Pushed h pushed n a e
    push-law = record {
      long = simp length-set;
      refs =
          λ ρ s. rw (add-one n, push-start, push-end)
          (ap (λ (z : Snoc (List ℕ)). z ▷ compared (content ρ (slice a e s)))
          (upto-same n (head_ref ρ s pushed) (head_ref ρ s h) (λ i k. ref-same ρ s h pushed i (push-other (4 * i) (omega (arith, k))) (push-other (4 * i + 1) (omega (arith, k))))));
      sizes = rw (add-one n, push-size) (ap (λ (z : Snoc ℕ). z ▷ 1) (upto-same n (head_size pushed) (head_size h) (λ i k. push-other (4 * i + 2) (omega (arith, k)))));
      flags =
          rw (add-one n, push-flag)
          (ap (λ (z : Snoc Bool). z ▷ false)
          (upto-same n (head_flag pushed) (head_flag h) (λ i k. ap (λ (v : ℕ). not (eqb v 0)) (push-other (4 * i + 3) (omega (arith, k))))));
    }

-- the last of suc n headers has v segments
module _ (h : List ℕ) (n v : ℕ) where
  abbrev more : List ℕ
  more = set h (4 * n + 2) v

  more-other : (j : ℕ) → (j ≡ 4 * n + 2 → ⊥) → get_or more j 0 ≡ get_or h j 0
  more-other j u = get_or-set_other h (4 * n + 2) j v 0 u

  more-law : 4 * n + 2 < length h → v ≡ suc (get_or h (4 * n + 2) 0) → GrownLast h more (suc n)
  more-law l e = record {
    long = length-set h (4 * n + 2) v;
    refs =
        λ ρ s. upto-same (suc n) (head_ref ρ s more) (head_ref ρ s h)
        (λ i k. ref-same ρ s h more i (more-other (4 * i) (λ x. omega (arith, x))) (more-other (4 * i + 1) (λ x. omega (arith, x))));
    sizes =
        ap (λ (z : ℕ). upto n (head_size more) ▷ z) (get_or-set_same h (4 * n + 2) v 0 l ∙ e)
        ∙ ap (λ (z : Snoc ℕ). z ▷ suc (get_or h (4 * n + 2) 0)) (upto-same n (head_size more) (head_size h) (λ i k. more-other (4 * i + 2) (λ x. omega (arith, x, k))));
    flags = upto-same (suc n) (head_flag more) (head_flag h) (λ i k. ap (λ (z : ℕ). not (eqb z 0)) (more-other (4 * i + 3) (λ x. omega (arith, x))));
  }

pub grow-last-none : (h : List ℕ) (n : ℕ) → n ≤ 0 → GrownLast h h n
grow-last-none h zero l = record { long = refl; refs = λ ρ s. refl; sizes = refl; flags = refl }
grow-last-none h (suc n) l = absurd (omega (arith, l))

pub grow-last-law : (h : List ℕ) (n : ℕ) → 0 < n → 4 * (n - 1) + 2 < length h → GrownLast h (set h (4 * (n - 1) + 2) (get_or h (4 * (n - 1) + 2) 0 + 1)) n
grow-last-law h zero l k = absurd (omega (arith, l))
grow-last-law h (suc n) l k = rw less (more-law h n _ (rw less at k) (add-one (get_or h (4 * n + 2) 0)))
  where
    less : suc n - 1 ≡ n
    less = omega arith

-- header i is named
named-upto : (g g' : ℕ → Bool) (n i : ℕ) → i < n → g' i ≡ true → ((j : ℕ) → (j ≡ i → ⊥) → g' j ≡ g j) → upto n g' ≡ named (upto n g) i
named-upto g g' zero i l t o = absurd (omega (arith, l))
named-upto g g' (suc n) i l t o = rw (size-upto n g) (here (eqb i n) refl (λ k. named-upto g g' n i k t o))
  where
    here : (b : Bool) → eqb i n ≡ b → (i < n → upto n g' ≡ named (upto n g) i) → upto n g' ▷ g' n ≡ cond (eqb i n) (upto n g ▷ true) (named (upto n g) i ▷ g n)
    here true e r =
        let q : i ≡ n = eqb-true i n e in
        rw (e, ← q, t) (ap (λ (z : Snoc Bool). z ▷ true) (upto-same i g' g (λ j k. o j (λ x. omega (arith, x, k)))))
    here false e r = rw (e, o n (λ x. eqb-false i n e (sym x)), r (omega (arith, l, eqb-false i n e)))

module _ (h : List ℕ) (n i : ℕ) (m : i < n) (l : 4 * i + 3 < length h) where
  name-other : (j : ℕ) → (j ≡ 4 * i + 3 → ⊥) → get_or (set h (4 * i + 3) 1) j 0 ≡ get_or h j 0
  name-other j u = get_or-set_other h (4 * i + 3) j 1 0 u

  pub name-law : Named h (set h (4 * i + 3) 1) n i
  name-law = record {
    long = length-set h _ _;
    refs =
        λ ρ s. upto-same n (head_ref ρ s (set h (4 * i + 3) 1)) (head_ref ρ s h)
        (λ j k. ref-same ρ s h (set h (4 * i + 3) 1) j (name-other (4 * j) (λ x. omega (arith, x))) (name-other (4 * j + 1) (λ x. omega (arith, x))));
    sizes = upto-same n (head_size (set h (4 * i + 3) 1)) (head_size h) (λ j k. name-other (4 * j + 2) (λ x. omega (arith, x)));
    flags =
        named-upto (head_flag h) (head_flag (set h (4 * i + 3) 1)) n i m (rw (get_or-set_same h (4 * i + 3) 1 0 l))
        (λ j u. ap (λ (v : ℕ). not (eqb v 0)) (name-other (4 * j + 3) (λ x. u (omega (arith, x)))));
  }

-- ---- no header has more than b segments, and each step adds at most one

cond-most : (b : Bool) (x y k : ℕ) → x ≤ k → (b ≡ false → y ≤ k) → cond b x y ≤ k
cond-most true x y k p q = p
cond-most false x y k p q = q refl

within : (i n : ℕ) → i < suc n → eqb i n ≡ false → i < n
within i n l e = omega (arith, l, eqb-false i n e)

pub small-none : (h : List ℕ) (b : ℕ) → Small h 0 b
small-none h b = record { each = λ i l. absurd (omega (arith, l)) }

module _ {h : List ℕ} {n b : ℕ} (m : Small h n b) where
  pub small-more : (k : ℕ) → b ≤ k → Small h n k
  small-more k q = record { each = λ i l. omega (arith, m.each i l, q) }

  pub small-last : b < 2 ^ 32 → 0 < n → get_or h (4 * (n - 1) + 2) 0 < 2 ^ 32
  small-last q l = let k : n - 1 < n = omega (arith, l) in omega (arith, m.each (n - 1) k, q)

  size-most : (i : ℕ) → i < n → size_in (head_sizes h n) i ≤ b
  size-most i l = rw (size-at h n i l) (m.each i l)

  pub small-push : {h' : List ℕ} {a e : ℕ} → Pushed h h' n a e → Small h' (n + 1) (suc b)
  small-push {h'} p = record { each = λ i l. rw (← size-at h' (n + 1) i l, p.sizes, size-upto n (head_size h)) (at i (omega (arith, l))) }
    where
      at : (i : ℕ) → i < suc n → cond (eqb i n) 1 (size_in (head_sizes h n) i) ≤ suc b
      at i l = cond-most (eqb i n) 1 (size_in (head_sizes h n) i) (suc b) (omega arith) (λ e. omega (arith, size-most i (within i n l e)))

  pub small-name : {h' : List ℕ} {i : ℕ} → Named h h' n i → Small h' n b
  small-name {h'} p = record { each = λ j l. rw (← size-at h' n j l, p.sizes) (size-most j l) }

grow-last-most : (f : ℕ → ℕ) (n b i : ℕ) → i < n → ((j : ℕ) → j < n → f j ≤ b) → size_in (more_in_last (upto n f)) i ≤ suc b
grow-last-most f zero b i l m = absurd (omega (arith, l))
grow-last-most f (suc n) b i l m =
    rw (size-upto n f)
    (cond-most (eqb i n) (suc (f n)) (size_in (upto n f) i) (suc b) (omega (arith, m n (omega arith))) (λ e. omega (arith, size_in_lem f n i (within i n l e), m i l)))

pub small-grown : {h h' : List ℕ} {n b : ℕ} → Small h n b → GrownLast h h' n → Small h' n (suc b)
small-grown {h} {h'} {n} {b} m p = record { each = λ i l. rw (← size-at h' n i l, p.sizes) (grow-last-most (head_size h) n b i l m.each) }
