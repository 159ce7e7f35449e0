-- A reference without the spaces at its end: what it is compared by, the two loops that look for its end, and the one that compares two.
use Rattle.std.specs.Prelude.{ℕ, zero, suc, ◌+◌, ◌-◌, ◌≤◌, ◌<◌, List, [], ◌∷◌, ◌++◌, ◌≡◌, refl, Bool, true, false, cond, ◌&&◌, eqb, length, get_or, take, drop, replicate, Option, Some, None}
use Rattle.std.proofs.Common.{arith, append_assoc, append-nil, ap, sym, ◌∙◌, eq-eqb, ne_eqb, eqb-true, take-add, take-suc}
use Rattle.std.proofs.Math.Bool.{and-false}
use Rattle.std.proofs.Math.Seq.{take-append_seam, take-length}
use Rattle.syntax.specs.Octets.{same}
use Rattle.syntax.specs.Content.{releases, content_from, content, leading, bare_of, compared, blank}
use Rattle.syntax.specs.Scanning.{released, next_of}
use Rattle.syntax.proofs.ContentLaws.{next-steps, next-over, not-over, found-first, found-second, plain-content, same_self}

-- ---- what a reference is compared by

-- no longer than the reference
leading-short : (b : ℕ) (r : List ℕ) → length (leading b r) ≤ suc (length r)
leading-short b [] = by (eqb b 32)
  where
    by : (t : Bool) → length (cond t [] (b ∷ [])) ≤ 1
    by true = omega arith
    by false = omega arith
leading-short b (c ∷ r) = omega arith

pub compared-short : (s : List ℕ) → length (compared s) ≤ length s
compared-short [] = omega arith
compared-short (b ∷ s) = let h = compared-short s in let k = leading-short b (bare_of s) in omega arith

-- it is bare already
leading-bare : (b : ℕ) (r : List ℕ) → bare_of r ≡ r → bare_of (leading b r) ≡ leading b r
leading-bare b [] e = by (eqb b 32) refl
  where
    by : (t : Bool) → eqb b 32 ≡ t → bare_of (cond t [] (b ∷ [])) ≡ cond t [] (b ∷ [])
    by true h = refl
    by false h = rw h
leading-bare b (c ∷ r) e = ap (leading b) e

pub compared-twice : (s : List ℕ) → compared (compared s) ≡ compared s
compared-twice [] = refl
compared-twice (b ∷ s) = leading-bare b (bare_of s) (compared-twice s)

-- one made only of spaces is compared as the empty one
leading-none : (b : ℕ) (r : List ℕ) {t : Bool} → same r [] ≡ t → same (leading b r) [] ≡ (eqb b 32 && t)
leading-none b [] e = by (eqb b 32) e
  where
    by : (q : Bool) {t : Bool} → true ≡ t → same (cond q [] (b ∷ [])) [] ≡ (q && t)
    by true h = h
    by false h = refl
leading-none b (c ∷ r) e = sym (rw (← e) (and-false (eqb b 32)))

pub blank-compared : (s : List ℕ) → same (compared s) [] ≡ blank s
blank-compared [] = refl
blank-compared (b ∷ s) = leading-none b (bare_of s) (blank-compared s)

-- ---- from the end: spaces, and before them an octet that is neither a space nor a release

content-spaces : (ρ k : ℕ) → content ρ (replicate k 32) ≡ replicate k 32
content-spaces ρ zero = refl
content-spaces ρ (suc k) = ap (λ (l : List ℕ). 32 ∷ l) (content-spaces ρ k)

spaces-bare : (k : ℕ) → bare_of (replicate k 32) ≡ []
spaces-bare zero = refl
spaces-bare (suc k) = ap (leading 32) (spaces-bare k)

leading-last : (c b : ℕ) (l : List ℕ) → leading c (l ++ b ∷ []) ≡ c ∷ (l ++ b ∷ [])
leading-last c b [] = refl
leading-last c b (d ∷ l) = refl

bare-end : (b : ℕ) → (b ≡ 32 → ⊥) → (k : ℕ) (l : List ℕ) → bare_of (l ++ b ∷ replicate k 32) ≡ l ++ b ∷ []
bare-end b h k [] = ap (leading b) (spaces-bare k) ∙ rw (ne_eqb b 32 h)
bare-end b h k (c ∷ l) = ap (leading c) (bare-end b h k l) ∙ leading-last c b l

module _ (ρ b : ℕ) (h : b ≡ 32 → ⊥) (q : b ≡ ρ → ⊥) (k : ℕ) where
  abbrev tail : List ℕ
  tail = b ∷ replicate k 32

  content-end : (f : Bool) (a : List ℕ) → content_from ρ f (a ++ tail) ≡ content_from ρ f a ++ tail
  content-end true [] = ap (λ (l : List ℕ). b ∷ l) (content-spaces ρ k)
  content-end false [] = rw (ne_eqb b 32 h, ne_eqb b ρ q) (ap (λ (l : List ℕ). b ∷ l) (content-spaces ρ k))
  content-end f (c ∷ a) = pick f (releases ρ c) (content-end false a) (content-end true a)
    where
      kept : content_from ρ false (a ++ tail) ≡ content_from ρ false a ++ tail → c ∷ content_from ρ false (a ++ tail) ≡ c ∷ (content_from ρ false a ++ tail)
      kept e = ap (λ (l : List ℕ). c ∷ l) e

      pick : (f t : Bool) → content_from ρ false (a ++ tail) ≡ content_from ρ false a ++ tail → content_from ρ true (a ++ tail) ≡ content_from ρ true a ++ tail
          → cond f (c ∷ content_from ρ false (a ++ tail)) (cond t (content_from ρ true (a ++ tail)) (c ∷ content_from ρ false (a ++ tail)))
          ≡ cond f (c ∷ content_from ρ false a) (cond t (content_from ρ true a) (c ∷ content_from ρ false a)) ++ tail
      pick true t e d = kept e
      pick false true e d = d
      pick false false e d = kept e

-- ---- the raw octets of one octet of content

pub record Mid (ρ : ℕ) (l : List ℕ) (i b j : ℕ) : Type 0 where
  pub mid : List ℕ
  pub rest : List ℕ
  pub cut : l ≡ mid ++ rest
  pub far : j ≡ i + length mid
  pub gives : (y : List ℕ) → content ρ (mid ++ y) ≡ b ∷ content ρ y

over-octet : {A : Type 0} {b j : ℕ} → ◌≡◌ {A = Option (ℕ × ℕ)} None (Some (b, j)) → A
over-octet e = absurd (not-over e)

mid-of : (ρ : ℕ) (l : List ℕ) (i b j : ℕ) → next_of ρ l i ≡ Some (b, j) → Mid ρ l i b j
mid-of ρ [] i b j e = over-octet e
mid-of ρ (a ∷ l) i b j e = pick (releases ρ a) refl e
  where
    freed : (l : List ℕ) → releases ρ a ≡ true → released l (i + 1) ≡ Some (b, j) → Mid ρ (a ∷ l) i b j
    freed [] t e = over-octet e
    freed (c ∷ l) t e =
        let p : c ≡ b = found-first e in
        let q : i + 1 + 1 ≡ j = found-second e in
        record { mid = a ∷ c ∷ []; rest = l; cut = refl; far = omega arith; gives = λ y. rw (t, p) }

    pick : (t : Bool) → releases ρ a ≡ t → cond t (released l (i + 1)) (Some (a, i + 1)) ≡ Some (b, j) → Mid ρ (a ∷ l) i b j
    pick true t e = freed l t e
    pick false t e =
        let p : a ≡ b = found-first e in
        let q : i + 1 ≡ j = found-second e in
        record { mid = a ∷ []; rest = l; cut = refl; far = omega arith; gives = λ y. rw (t, p) }

-- ---- content up to a place where an octet of content ends

abbrev pub Settled : ℕ → List ℕ → Type 0
Settled ρ a = (y : List ℕ) → content ρ (a ++ y) ≡ content ρ a ++ content ρ y

settled-none : (ρ : ℕ) → Settled ρ []
settled-none ρ y = refl

module _ (ρ : ℕ) (x : List ℕ) (i : ℕ) {b j : ℕ} (g : Settled ρ (take i x)) (m : Mid ρ (drop i x) i b j) where
  longer : take j x ≡ take i x ++ m.mid
  longer =
      ap (λ (k : ℕ). take k x) m.far ∙ take-add i (length m.mid) x
      ∙ ap (λ (l : List ℕ). take i x ++ take (length m.mid) l) m.cut ∙ ap (λ (l : List ℕ). take i x ++ l) (take-append_seam m.mid m.rest)

  one : content ρ m.mid ≡ b ∷ []
  one = ap (content ρ) (sym (append-nil m.mid)) ∙ m.gives []

  pub content-longer : content ρ (take j x) ≡ content ρ (take i x) ++ b ∷ []
  content-longer = ap (content ρ) longer ∙ g m.mid ∙ ap (λ (l : List ℕ). content ρ (take i x) ++ l) one

  pub settled-longer : Settled ρ (take j x)
  settled-longer y =
      ap (λ (l : List ℕ). content ρ (l ++ y)) longer ∙ ap (content ρ) (append_assoc (take i x) m.mid y) ∙ g (m.mid ++ y)
      ∙ ap (λ (l : List ℕ). content ρ (take i x) ++ l) (m.gives y)
      ∙ sym (append_assoc (content ρ (take i x)) (b ∷ []) (content ρ y)) ∙ ap (λ (l : List ℕ). l ++ content ρ y) (sym content-longer)

-- ---- spaces that may still go

abbrev pub pend : ℕ → List ℕ → List ℕ
pend m [] = []
pend m (c ∷ r) = replicate m 32 ++ c ∷ r

spaces-on : (m : ℕ) (r : List ℕ) → replicate m 32 ++ 32 ∷ r ≡ replicate (suc m) 32 ++ r
spaces-on zero r = refl
spaces-on (suc m) r = ap (λ (l : List ℕ). 32 ∷ l) (spaces-on m r)

pend-space : (m : ℕ) (r : List ℕ) → pend m (leading 32 r) ≡ pend (suc m) r
pend-space m [] = refl
pend-space m (c ∷ r) = spaces-on m (c ∷ r)

leading-other : (b : ℕ) (r : List ℕ) → (b ≡ 32 → ⊥) → leading b r ≡ b ∷ r
leading-other b [] h = rw (ne_eqb b 32 h)
leading-other b (c ∷ r) h = refl

pend-none : (r : List ℕ) → pend 0 r ≡ r
pend-none [] = refl
pend-none (c ∷ r) = refl

-- ---- the loop

pub record Baring (ρ : ℕ) (x : List ℕ) (i end : ℕ) : Type 0 where
  pub inside : i ≤ length x
  pub before : end ≤ i
  pub settled : Settled ρ (take i x)
  pub spaces : ℕ
  pub spaced : content ρ (take i x) ≡ content ρ (take end x) ++ replicate spaces 32
  pub hard : bare_of (content ρ x) ≡ content ρ (take end x) ++ pend spaces (bare_of (content ρ (drop i x)))

pub baring-start : {ρ : ℕ} {x : List ℕ} → Baring ρ x 0 0
baring-start {ρ} {x} = record {
  inside = omega arith;
  before = omega arith;
  settled = settled-none ρ;
  spaces = 0;
  spaced = refl;
  hard = sym (pend-none (bare_of (content ρ x)));
}

module _ {ρ : ℕ} {x : List ℕ} {i end : ℕ} (g : Baring ρ x i end) {r : Option (ℕ × ℕ)} (e : r ≡ next_of ρ (drop i x) i) where
  pub baring-end : r ≡ None → content ρ (take end x) ≡ bare_of (content ρ x)
  baring-end d =
      sym (g.hard ∙ ap (λ (l : List ℕ). content ρ (take end x) ++ pend g.spaces (bare_of l)) (next-over ρ x i e d) ∙ append-nil (content ρ (take end x)))

  -- the part from 0 to end
  pub baring-part : r ≡ None → content ρ (take (end - 0) (drop 0 x)) ≡ bare_of (content ρ x)
  baring-part d = let z : end - 0 ≡ end = omega arith in ap (λ (k : ℕ). content ρ (take k x)) z ∙ baring-end d

  module _ {b j : ℕ} (d : r ≡ Some (b, j)) where
    m : Mid ρ (drop i x) i b j
    m = mid-of ρ (drop i x) i b j (sym e ∙ d)

    pub baring-less : length x - j < length x - i
    baring-less = let w = next-steps ρ x i e d in omega arith

    pub baring-inside : j ≤ length x
    baring-inside = (next-steps ρ x i e d).inside

    left : bare_of (content ρ (drop i x)) ≡ leading b (bare_of (content ρ (drop j x)))
    left = ap bare_of (next-steps ρ x i e d).gives

    pub baring-space : b ≡ 32 → Baring ρ x j end
    baring-space h = record {
      inside = (next-steps ρ x i e d).inside;
      before = let w = next-steps ρ x i e d in let k = g.before in omega arith;
      settled = settled-longer ρ x i g.settled m;
      spaces = suc g.spaces;
      spaced =
          content-longer ρ x i g.settled m ∙ ap (λ (l : List ℕ). l ++ b ∷ []) g.spaced
          ∙ append_assoc (content ρ (take end x)) (replicate g.spaces 32) (b ∷ [])
          ∙ ap (λ (l : List ℕ). content ρ (take end x) ++ l) ((let z : replicate g.spaces 32 ++ b ∷ [] ≡ replicate (suc g.spaces) 32 ++ [] = rw h (spaces-on g.spaces []) in z) ∙ append-nil (replicate (suc g.spaces) 32));
      hard = g.hard ∙ ap (λ (l : List ℕ). content ρ (take end x) ++ l)
          (ap (pend g.spaces) (left ∙ ap (λ (k : ℕ). leading k (bare_of (content ρ (drop j x)))) h) ∙ pend-space g.spaces (bare_of (content ρ (drop j x))));
    }

    pub baring-other : (b ≡ 32 → ⊥) → Baring ρ x j j
    baring-other h = record {
      inside = (next-steps ρ x i e d).inside;
      before = omega arith;
      settled = settled-longer ρ x i g.settled m;
      spaces = 0;
      spaced = sym (append-nil (content ρ (take j x)));
      hard = g.hard ∙ ap (λ (l : List ℕ). content ρ (take end x) ++ l) (ap (pend g.spaces) (left ∙ leading-other b _ h))
          ∙ sym (append_assoc (content ρ (take end x)) (replicate g.spaces 32) (b ∷ bare_of (content ρ (drop j x))))
          ∙ ap (λ (l : List ℕ). l ++ b ∷ bare_of (content ρ (drop j x))) (sym g.spaced)
          ∙ sym (append_assoc (content ρ (take i x)) (b ∷ []) (bare_of (content ρ (drop j x))))
          ∙ ap (λ (l : List ℕ). l ++ bare_of (content ρ (drop j x))) (sym (content-longer ρ x i g.settled m))
          ∙ ap (λ (l : List ℕ). content ρ (take j x) ++ l) (sym (pend-none (bare_of (content ρ (drop j x)))));
    }

-- ---- the loop from the end: behind n there are only spaces

pub record Trailing (x : List ℕ) (n : ℕ) : Type 0 where
  pub inside : n ≤ length x
  pub count : ℕ
  pub cut : x ≡ take n x ++ replicate count 32

pub trailing-start : {x : List ℕ} → Trailing x (length x)
trailing-start {x} = record { inside = omega arith; count = 0; cut = sym (append-nil (take (length x) x) ∙ take-length x) }

module _ {x : List ℕ} {n : ℕ} (g : Trailing x n) where
  pub trailing-none : (ρ : ℕ) → n ≤ 0 → [] ≡ compared (content ρ x)
  trailing-none ρ h = sym (ap (λ (l : List ℕ). compared (content ρ l)) spaces ∙ ap compared (content-spaces ρ g.count) ∙ spaces-bare g.count)
    where
      spaces : x ≡ replicate g.count 32
      spaces = let z : n ≡ 0 = omega arith in g.cut ∙ ap (λ (k : ℕ). take k x ++ replicate g.count 32) z

  module _ (h : 0 < n) where
    last : take n x ≡ take (n - 1) x ++ get_or x (n - 1) 0 ∷ []
    last = let m = g.inside in let z : n ≡ suc (n - 1) = omega arith in ap (λ (k : ℕ). take k x) z ∙ take-suc x (n - 1) 0 (omega arith)

    whole : x ≡ take (n - 1) x ++ get_or x (n - 1) 0 ∷ replicate g.count 32
    whole =
        g.cut ∙ ap (λ (l : List ℕ). l ++ replicate g.count 32) last
        ∙ append_assoc (take (n - 1) x) (get_or x (n - 1) 0 ∷ []) (replicate g.count 32)

    pub trailing-on : get_or x (n - 1) 0 ≡ 32 → Trailing x (n - 1)
    trailing-on e = record {
      inside = let m = g.inside in omega arith;
      count = suc g.count;
      cut = whole ∙ ap (λ (b : ℕ). take (n - 1) x ++ b ∷ replicate g.count 32) e;
    }

    -- the part from 0 to n
    pub trailing-hit : (ρ : ℕ) → (get_or x (n - 1) 0 ≡ 32 → ⊥) → (get_or x (n - 1) 0 ≡ ρ → ⊥) → content ρ (take (n - 0) (drop 0 x)) ≡ compared (content ρ x)
    trailing-hit ρ e d =
        let z : n - 0 ≡ n = omega arith in
        ap (λ (k : ℕ). content ρ (take k x)) z ∙ ap (content ρ) last ∙ content-end ρ (get_or x (n - 1) 0) e d 0 false (take (n - 1) x)
        ∙ sym (ap (λ (l : List ℕ). compared (content ρ l)) whole ∙ ap compared (content-end ρ (get_or x (n - 1) 0) e d g.count false (take (n - 1) x))
        ∙ bare-end (get_or x (n - 1) 0) e g.count (content ρ (take (n - 1) x)))

-- ---- two references, octet by octet

same-leading : (b : ℕ) (r t : List ℕ) → same (leading b r) (leading b t) ≡ same r t
same-leading b [] [] = by (eqb b 32)
  where
    by : (q : Bool) → same (cond q [] (b ∷ [])) (cond q [] (b ∷ [])) ≡ true
    by true = refl
    by false = rw (eq-eqb b b refl)
same-leading b [] (c ∷ t) = by (eqb b 32)
  where
    by : (q : Bool) → same (cond q [] (b ∷ [])) (b ∷ c ∷ t) ≡ false
    by true = refl
    by false = rw (eq-eqb b b refl)
same-leading b (c ∷ r) [] = by (eqb b 32)
  where
    by : (q : Bool) → same (b ∷ c ∷ r) (cond q [] (b ∷ [])) ≡ false
    by true = refl
    by false = rw (eq-eqb b b refl)
same-leading b (c ∷ r) (d ∷ t) = rw (eq-eqb b b refl)

other-leading : (b c : ℕ) → (b ≡ c → ⊥) → (r t : List ℕ) → same (leading b r) (leading c t) ≡ false
other-leading b c h [] [] = by (eqb b 32) refl (eqb c 32) refl
  where
    by : (p : Bool) → eqb b 32 ≡ p → (q : Bool) → eqb c 32 ≡ q → same (cond p [] (b ∷ [])) (cond q [] (c ∷ [])) ≡ false
    by true e true d = absurd (h (eqb-true b 32 e ∙ sym (eqb-true c 32 d)))
    by true e false d = refl
    by false e true d = refl
    by false e false d = rw (ne_eqb b c h)
other-leading b c h [] (d ∷ t) = by (eqb b 32)
  where
    by : (p : Bool) → same (cond p [] (b ∷ [])) (c ∷ d ∷ t) ≡ false
    by true = refl
    by false = rw (ne_eqb b c h)
other-leading b c h (d ∷ r) [] = by (eqb c 32)
  where
    by : (q : Bool) → same (b ∷ d ∷ r) (cond q [] (c ∷ [])) ≡ false
    by true = refl
    by false = rw (ne_eqb b c h)
other-leading b c h (d ∷ r) (e ∷ t) = rw (ne_eqb b c h)

same_none : (t : List ℕ) → same [] t ≡ same t []
same_none [] = refl
same_none (b ∷ t) = refl

-- the answer is whether the content from i is made only of spaces
pub record Blanking (ρ : ℕ) (answer : Bool) (x : List ℕ) (i : ℕ) : Type 0 where
  pub are : answer ≡ blank (content ρ (drop i x))

module _ {ρ : ℕ} {answer : Bool} {x : List ℕ} {i : ℕ} (g : Blanking ρ answer x i) {r : Option (ℕ × ℕ)} (e : r ≡ next_of ρ (drop i x) i) where
  pub blanking-end : r ≡ None → true ≡ answer
  blanking-end d = sym (g.are ∙ ap blank (next-over ρ x i e d))

  module _ {b j : ℕ} (d : r ≡ Some (b, j)) where
    pub blanking-less : length x - j < length x - i
    blanking-less = let w = next-steps ρ x i e d in omega arith

    pub blanking-other : (b ≡ 32 → ⊥) → false ≡ answer
    blanking-other h = sym (g.are ∙ ap blank (next-steps ρ x i e d).gives ∙ rw (ne_eqb b 32 h))

    pub blanking-on : b ≡ 32 → Blanking ρ answer x j
    blanking-on h = record { are = g.are ∙ ap blank (next-steps ρ x i e d).gives ∙ rw (eq-eqb b 32 h) }

-- the answer is whether the content from i of x and that from k of z are the same reference
pub record Comparing (ρ ς : ℕ) (answer : Bool) (x : List ℕ) (i : ℕ) (z : List ℕ) (k : ℕ) : Type 0 where
  pub compares : answer ≡ same (compared (content ρ (drop i x))) (compared (content ς (drop k z)))

module _ {ρ ς : ℕ} {answer : Bool} {x : List ℕ} {i : ℕ} {z : List ℕ} {k : ℕ} (g : Comparing ρ ς answer x i z k)
    {f h : Option (ℕ × ℕ)} (e : f ≡ next_of ρ (drop i x) i) (q : h ≡ next_of ς (drop k z) k) where
  -- the first is over: of the other only spaces may be left
  pub comparing-right : {r : Bool} → f ≡ None → r ≡ blank (content ς (drop k z)) → r ≡ answer
  comparing-right d u =
      u ∙ sym (g.compares ∙ ap (λ (l : List ℕ). same (compared l) (compared (content ς (drop k z)))) (next-over ρ x i e d)
      ∙ same_none (compared (content ς (drop k z))) ∙ blank-compared (content ς (drop k z)))

  module _ {b j : ℕ} (d : f ≡ Some (b, j)) where
    pub comparing-less : length x - j < length x - i
    comparing-less = let w = next-steps ρ x i e d in omega arith

    pub comparing-left : {r : Bool} → h ≡ None → r ≡ blank (content ρ (drop i x)) → r ≡ answer
    comparing-left u v =
        v ∙ sym (g.compares ∙ ap (λ (l : List ℕ). same (compared (content ρ (drop i x))) (compared l)) (next-over ς z k q u) ∙ blank-compared (content ρ (drop i x)))

    module _ {c l : ℕ} (u : h ≡ Some (c, l)) where
      both : answer ≡ same (leading b (compared (content ρ (drop j x)))) (leading c (compared (content ς (drop l z))))
      both =
          g.compares ∙ ap (λ (t : List ℕ). same (compared t) (compared (content ς (drop k z)))) (next-steps ρ x i e d).gives
          ∙ ap (λ (t : List ℕ). same (leading b (compared (content ρ (drop j x)))) (compared t)) (next-steps ς z k q u).gives

      pub comparing-other : (b ≡ c → ⊥) → false ≡ answer
      comparing-other w = sym (both ∙ other-leading b c w (compared (content ρ (drop j x))) (compared (content ς (drop l z))))

      pub comparing-on : b ≡ c → Comparing ρ ς answer x j z l
      comparing-on w = record {
        compares =
            both ∙ ap (λ (a : ℕ). same (leading b (compared (content ρ (drop j x)))) (leading a (compared (content ς (drop l z))))) (sym w)
            ∙ same-leading b (compared (content ρ (drop j x))) (compared (content ς (drop l z)));
      }

-- ---- what the calls tell

pub compared-alike : {ρ ς : ℕ} {x z : List ℕ} → ρ ≡ ς → x ≡ z → true ≡ same (compared (content ρ x)) (compared (content ς z))
compared-alike {ρ} {ς} {x} {z} e d = rw (e, d) (sym (same_self (compared (content ς z))))

-- of what a call is given, which is content
pub same-given : (a t : List ℕ) {r : Bool} → r ≡ same a (compared (content 32 t)) → r ≡ same a (compared t)
same-given a t e = e ∙ ap (λ (l : List ℕ). same a (compared l)) (plain-content t)

pub blank-told : (s : List ℕ) {r : Bool} → r ≡ same (compared s) [] → r ≡ blank s
blank-told s e = e ∙ blank-compared s
