-- The name of a content gives the content back; a search finds a name if it is there; one more reference keeps the tree.
use Rattle.std.specs.Prelude.{ℕ, zero, suc, ◌+◌, ◌-◌, ◌*◌, ◌/◌, ◌%◌, ◌≤◌, ◌<◌, List, [], ◌∷◌, ◌++◌, ◌≡◌, refl, Bool, true, false, cond, ◌||◌, T, eqb, leb, length, get_or, take, drop, set, replicate, Option, Some, None}
use Rattle.std.proofs.Common.{add-one, arith, suc-add, zero-add, append_assoc, append-nil, ap, sym, subst, ◌∙◌, eq-eqb, ne_eqb, eqb-true, leb-true, leb-false, le-leb, length-set, length-drop, take-append-drop, length-append, get_or-set_same, get_or-set_other, drop-drop, take-add}
use Rattle.std.proofs.Math.Bool.{or-true}
use Rattle.std.proofs.lemmas.Bool.{false≢true, eqb-false, lt-leb}
use Rattle.std.proofs.lemmas.List.{length-replicate}
use Rattle.std.proofs.Math.Seq.{take-nil, drop-nil}
use Rattle.syntax.specs.Octets.{same}
use Rattle.syntax.specs.Content.{content}
use Rattle.syntax.specs.Scanning.{next_of}
use Rattle.syntax.proofs.ContentLaws.{next-steps, next-over, same_self}
use Rattle.grammar.specs.Lists.{among}
use Rattle.grammar.proofs.PlacingLaws.{same-eq}
use Rattle.references.specs.Refs.{packed, octets_in, head_of, tail_of, Named, is_named, ref_at, refs_in, root_of, Leads, here, down, Reached, Indexed, WordOf, NameOf, Grown, Spot, put, kept, Offered, Fitting}

-- ---- the numbers

-- what n octets behind a 1 stay below
abbrev pub limit : ℕ → ℕ
limit zero = 2
limit (suc n) = limit n * 256

limit-more : (n k : ℕ) → limit n ≤ limit (k + n)
limit-more n zero = rw zero-add (omega arith)
limit-more n (suc k) = let h = limit-more n k in rw (suc-add k n) (omega arith)

pub limit-fits : (n k : ℕ) → n ≤ k → limit n ≤ limit k
limit-fits n k h = let p : (k - n) + n ≡ k = omega arith in rw p at (limit-more n (k - n))

packed_more : (v : ℕ) (s : List ℕ) → v ≤ packed v s
packed_more v [] = omega arith
packed_more v (b ∷ s) = let h = packed_more (v * 256 + b) s in omega arith

octets-few : (k v : ℕ) → length (octets_in k v) ≤ k
unfolding octets_in
octets-few zero v = omega arith
octets-few (suc k) v = by-test (leb v 1) (octets-few k (v / 256))
  where
    by-test : (t : Bool) → length (octets_in k (v / 256)) ≤ k → length (cond t [] (octets_in k (v / 256) ++ v % 256 ∷ [])) ≤ suc k
    by-test true h = omega arith
    by-test false h = omega (arith, length-append (octets_in k (v / 256)) (v % 256 ∷ []))

-- one octet more
octets-on : (k v b : ℕ) → 1 ≤ v → b < 256 → octets_in (suc k) (v * 256 + b) ≡ octets_in k v ++ b ∷ []
unfolding octets_in
octets-on k v b h l =
    let p : (v * 256 + b) / 256 ≡ v = omega arith in
    let q : (v * 256 + b) % 256 ≡ b = omega arith in
    rw (lt-leb (v * 256 + b) 1 (omega arith), p, q)

-- more room shows no more
octets-one : (k v : ℕ) → v < 2 → octets_in k v ≡ []
unfolding octets_in
octets-one zero v h = refl
octets-one (suc k) v h = rw (le-leb v 1 (omega arith))

octets-room : (j k v : ℕ) → v < limit k → octets_in (j + k) v ≡ octets_in k v
unfolding octets_in
octets-room j zero v h = octets-one (j + zero) v h
octets-room j (suc k) v h =
    let p : v / 256 < limit k = omega arith in
    let q : j + suc k ≡ suc (j + k) = omega arith in
    rw (q, octets-room j k (v / 256) p)

-- a number under way: n octets of the content from `from` of x are in v, and the others come from i on
pub record Packing (ρ : ℕ) (x : List ℕ) (from i v n : ℕ) : Type 0 where
  pub few : n ≤ 7
  pub one : 1 ≤ v
  pub small : v < limit n
  pub made : packed v (take (7 - n) (content ρ (drop i x))) ≡ packed 1 (take 7 (content ρ (drop from x)))
  pub shows : octets_in n v ++ take (7 - n) (content ρ (drop i x)) ≡ take 7 (content ρ (drop from x))
  pub rest : drop (7 - n) (content ρ (drop i x)) ≡ drop 7 (content ρ (drop from x))

pub packing-start : (ρ : ℕ) (x : List ℕ) (from : ℕ) → Packing ρ x from from 1 0
unfolding octets_in
packing-start ρ x from = record { few = omega arith; one = omega arith; small = omega arith; made = refl; shows = refl; rest = refl }

module _ {ρ : ℕ} {x : List ℕ} {from i v n : ℕ} (u : Packing ρ x from i v n) where
  -- nothing is left to take
  packing-word : (over : Bool) → (take (7 - n) (content ρ (drop i x)) ≡ []) → (drop (7 - n) (content ρ (drop i x)) ≡ content ρ (drop i x))
      → (over ≡ true → content ρ (drop i x) ≡ []) → WordOf ρ x from v i over
  packing-word over e d z =
      let p = limit-fits n 7 u.few in
      let l = u.small in
      let q : (7 - n) + n ≡ 7 = omega (arith, u.few) in
      record {
        small = omega (arith, p, l);
        made = ap (packed v) (sym e) ∙ u.made;
        shows = rw q at (octets-room (7 - n) n v l) ∙ sym (append-nil (octets_in n v)) ∙ ap (λ (z : List ℕ). octets_in n v ++ z) (sym e) ∙ u.shows;
        rest = sym d ∙ u.rest;
        last = z;
      }

  -- one octet more fits
  pub packing-fits : n < 7 → v < 562949953421312
  packing-fits h = let p = limit-fits n 6 (omega arith) in omega (arith, p, u.small)

  pub packing-full : 7 ≤ n → WordOf ρ x from v i false
  packing-full h = let p : 7 - n ≡ 0 = omega arith in packing-word false (rw p) (rw p) (λ (z : false ≡ true). absurd (false≢true z))

  module _ {r : Option (ℕ × ℕ)} (e : r ≡ next_of ρ (drop i x) i) where
    pub packing-end : r ≡ None → WordOf ρ x from v i true
    packing-end d = let p = next-over ρ x i e d in packing-word true (rw (p, take-nil)) (rw (p, drop-nil)) (λ z. p)

    module _ {b j : ℕ} (d : r ≡ Some (b, j)) where
      pub packing-on : n < 7 → {y : ℕ} → (y ≡ b) × (y < 256) → Packing ρ x from j (v * 256 + y) (n + 1)
      packing-on h {y} q =
          let w = (next-steps ρ x i e d).gives in
          let p : 7 - n ≡ suc (7 - suc n) = omega arith in
          let z : take (7 - n) (content ρ (drop i x)) ≡ y ∷ take (7 - suc n) (content ρ (drop j x)) = rw (p, w, q.0) in
          let d : drop (7 - n) (content ρ (drop i x)) ≡ drop (7 - suc n) (content ρ (drop j x)) = rw (p, w) in
          let o = u.one in
          let l = u.small in
          rw (add-one n)
          (record {
            few = h;
            one = omega arith;
            small = omega (arith, l, q.1);
            made = sym (ap (packed v) z) ∙ u.made;
            shows = rw (octets-on n v y o q.1, append_assoc) (sym (ap (λ (s : List ℕ). octets_in n v ++ s) z) ∙ u.shows);
            rest = sym d ∙ u.rest;
          })

-- the name of a content: one word, or two, and whether more comes
whole : (n : ℕ) (t : List ℕ) → drop n t ≡ [] → take n t ≡ t
whole n t e = sym (append-nil (take n t)) ∙ ap (λ (s : List ℕ). take n t ++ s) (sym e) ∙ take-append-drop n t

pub name-short : {ρ : ℕ} {x : List ℕ} {v a : ℕ} {o : Bool} → WordOf ρ x 0 v a o → o ≡ true → NameOf (content ρ x) v 1
name-short {ρ} {x} {v} {a} f d =
    let p : drop 7 (content ρ x) ≡ [] = sym f.rest ∙ f.last d in
    record {
      first = f.small;
      second = omega arith;
      made = λ h. (f.made, rw p);
      shows = λ h. rw (octets-one 7 1 (omega arith)) (append-nil (octets_in 7 v) ∙ f.shows ∙ whole 7 (content ρ x) p);
    }

module _ {ρ : ℕ} {x : List ℕ} {v a w b : ℕ} {o q : Bool} (f : WordOf ρ x 0 v a o) (g : WordOf ρ x a w b q) where
  name-rest : content ρ (drop b x) ≡ drop 14 (content ρ x)
  name-rest = g.rest ∙ rw (f.rest, drop-drop)

  name-both : content ρ (drop b x) ≡ [] → NameOf (content ρ x) v w
  name-both z =
      let p : drop 14 (content ρ x) ≡ [] = sym name-rest ∙ z in
      record {
        first = f.small;
        second = g.small;
        made = λ h. (f.made, g.made ∙ ap (λ (s : List ℕ). packed 1 (take 7 s)) f.rest);
        shows = λ h. rw (f.shows, g.shows, f.rest) (sym (take-add 7 7 (content ρ x)) ∙ whole 14 (content ρ x) p);
      }

  pub name-two : q ≡ true → NameOf (content ρ x) v w
  name-two d = name-both (g.last d)

  module _ {r : Option (ℕ × ℕ)} (e : r ≡ next_of ρ (drop b x) b) where
    pub name-full : r ≡ None → NameOf (content ρ x) v w
    name-full d = name-both (next-over ρ x b e d)

    pub name-long : {c j : ℕ} → r ≡ Some (c, j) → NameOf (content ρ x) 0 0
    name-long {c} {j} d =
        let p : drop 14 (content ρ x) ≡ c ∷ content ρ (drop j x) = sym name-rest ∙ (next-steps ρ x b e d).gives in
        let k : length (content ρ x) - 14 ≡ suc (length (content ρ (drop j x))) = sym (length-drop 14 (content ρ x)) ∙ ap length p in
        record {
          first = omega arith;
          second = omega arith;
          made = λ h. absurd (let z : ⊥ = omega arith in z);
          shows = λ h. absurd (let z : ⊥ = omega arith in z);
        }

-- ---- the references

named-is : (names : List ℕ) (k h e : ℕ) → is_named names k h e ≡ true → Named names k h e
named-is names k h e q = by-test (eqb (get_or names (2 * k) 0) h) refl q
  where
    by-test : (t : Bool) → eqb (get_or names (2 * k) 0) h ≡ t → cond t (eqb (get_or names (2 * k + 1) 0) e) false ≡ true → Named names k h e
    by-test true d q = (eqb-true _ h d, eqb-true _ e q)
    by-test false d q = absurd (let z : ◌≡◌ {A = ℕ} 0 1 = cc in omega arith)

named-not : (names : List ℕ) (k h e : ℕ) → is_named names k h e ≡ false → Named names k h e → ⊥
named-not names k h e q w =
    let z : is_named names k h e ≡ true = rw (eq-eqb _ h w.0) (eq-eqb _ e w.1) in
    let o : ◌≡◌ {A = Bool} true false = sym z ∙ q in
    let u : ◌≡◌ {A = ℕ} 0 1 = cc in omega arith

pub named_other : (names : List ℕ) (k h e : ℕ) → (get_or names (2 * k) 0 ≡ h → ⊥) → false ≡ is_named names k h e
named_other names k h e d = rw (ne_eqb _ h d)

pub named-same : (names : List ℕ) (k h e : ℕ) → get_or names (2 * k) 0 ≡ h → eqb (get_or names (2 * k + 1) 0) e ≡ is_named names k h e
named-same names k h e d = rw (eq-eqb _ h d)

ref-short : (names : List ℕ) (k : ℕ) → length (ref_at names k) ≤ 14
ref-short names k =
    let a = octets-few 7 (get_or names (2 * k) 0) in
    let b = octets-few 7 (get_or names (2 * k + 1) 0) in
    omega (arith, length-append (octets_in 7 (get_or names (2 * k) 0)) (octets_in 7 (get_or names (2 * k + 1) 0)))

-- the name of a content is that of the references that have it
module _ {names slots : List ℕ} {n : ℕ} (g : Indexed names slots n) {t : List ℕ} {h e : ℕ} (w : NameOf t h e) where
  name_of : (k : ℕ) → k < n → ref_at names k ≡ t → Named names k h e
  name_of k l q =
      let m = w.made (rw (← q) (ref-short names k)) in
      let o = g.named k l in
      (o.0 ∙ ap head_of q ∙ sym m.0, o.1 ∙ ap tail_of q ∙ sym m.1)

  of-name : (k : ℕ) → k < n → Named names k h e → ref_at names k ≡ t
  of-name k l q =
      let o = g.named k l in
      let u = packed_more 1 (take 7 (ref_at names k)) in
      let z : 0 < h = omega (arith, u, q.0, o.0) in
      rw (q.0, q.1) (w.shows z)

among_none : (names t : List ℕ) (n : ℕ) → ((k : ℕ) → k < n → ref_at names k ≡ t → ⊥) → among (refs_in names n) t ≡ false
among_none names t zero f = refl
among_none names t (suc n) f = by-test (same (ref_at names n) t) refl (among_none names t n (λ k l. f k (omega arith)))
  where
    by-test : (q : Bool) → same (ref_at names n) t ≡ q → among (refs_in names n) t ≡ false → (q || among (refs_in names n) t) ≡ false
    by-test true d r = let k : T (same (ref_at names n) t) = rw d tt in absurd (f n (omega arith) (same-eq (ref_at names n) t k))
    by-test false d r = r

among-some : (names t : List ℕ) (n k : ℕ) → k < n → ref_at names k ≡ t → among (refs_in names n) t ≡ true
among-some names t zero k l e = absurd (let z : ⊥ = omega arith in z)
among-some names t (suc n) k l e = by-test (eqb k n) refl (among-some names t n k)
  where
    by-test : (q : Bool) → eqb k n ≡ q → (k < n → ref_at names k ≡ t → among (refs_in names n) t ≡ true) → (same (ref_at names n) t || among (refs_in names n) t) ≡ true
    by-test true d r = let z = eqb-true k n d in rw (← z, e, same_self t)
    by-test false d r = let z = eqb-false k n d in rw (r (omega arith) e) (or-true (same (ref_at names n) t))

-- ---- along a way

not-zero : {n k : ℕ} → n ≡ 0 → n ≡ suc k → ⊥
not-zero e d = omega arith

same_place : {n k j : ℕ} → n ≡ suc k → n ≡ suc j → k ≡ j
same_place e d = omega arith

-- a way that is taken over
module _ {m : ℕ} {names names' slots slots' : List ℕ} (grown : Grown slots slots') {h e : ℕ}
    (kept : (i k : ℕ) → get_or slots i 0 ≡ suc k → Named names k h e → Named names' k h e) where
  leads-kept : {i a b : ℕ} → Leads m names slots h e i a b → Leads m names' slots' h e i a b
  leads-kept (here {i} {a} {b} {k} d w) = here (grown i k d) (kept i k d w)
  leads-kept (down {i} {a} {b} {k} d l) = down (grown i k d) (leads-kept l)

module _ {m : ℕ} {names slots : List ℕ} {h e i a b : ℕ} where
  -- nothing is behind a free slot
  leads-none : Leads m names slots h e i a b → get_or slots i 0 ≡ 0 → ⊥
  leads-none (here d w) z = not-zero z d
  leads-none (down d l) z = not-zero z d

  -- behind a reference of another name the way goes on
  leads-on : Leads m names slots h e i a b → {k : ℕ} → get_or slots i 0 ≡ suc k → (Named names k h e → ⊥) → Leads m names slots h e (m + 2 * k + a % 2) b (a / 2)
  leads-on (here d w) q f = absurd (f (rw (same_place q d) w))
  leads-on (down d l) q f = rw (same_place q d) l

-- a search under way: at slot i with the bits a and b left, a reference of this name is still ahead, and what is ahead is on the name's way
pub record Seeking (names slots : List ℕ) (n h e i a b : ℕ) : Type 0 where
  pub inside : i < length slots - length names + 2 * n
  pub ahead : (k : ℕ) → k < n → Named names k h e → Leads (length slots - length names) names slots h e i a b
  pub back : (names' slots' : List ℕ) → Grown slots slots' → Leads (length slots - length names) names' slots' h e i a b
      → Reached (length slots - length names) names' slots' h e

module _ {names slots : List ℕ} {n : ℕ} (g : Indexed names slots n) where
  pub seeking-start : {h e i m : ℕ} → m ≡ length slots - length names → (i ≡ root_of m h e) × (i < m) → Seeking names slots n h e i h e
  seeking-start {h} {e} {i} {m} q d =
      let p : i ≡ root_of (length slots - length names) h e = d.0 ∙ ap (λ (z : ℕ). root_of z h e) q in
      record {
        inside = omega (arith, d.1, q);
        ahead = λ k l w. rw p (g.leads k h e l w);
        back = λ names' slots' o l. rw p at l;
      }

  module _ {h e i a b : ℕ} (u : Seeking names slots n h e i a b) where
    pub seeking-in : i < length slots
    seeking-in = let p = u.inside in let q = g.room in let r = g.rooted in omega arith

    -- the slot is free
    pub seeking-free : {k : ℕ} → k ≡ get_or slots i 0 → k ≡ 0 → Spot names slots n h e i
    seeking-free q z =
        let p : get_or slots i 0 ≡ 0 = sym q ∙ z in
        record {
          inside = u.inside;
          held = λ k d. absurd (not-zero p d);
          free = λ o k l w. leads-none (u.ahead k l w) p;
          finds = λ names' slots' o k d w. u.back names' slots' o (here d w);
        }

    module _ {k : ℕ} (q : k ≡ get_or slots i 0) (z : k ≡ 0 → ⊥) where
      seeking-holds : get_or slots i 0 ≡ suc (k - 1)
      seeking-holds = omega arith

      pub seeking-names : 2 * (k - 1) + 1 < length names
      seeking-names = let o = (g.falls i (k - 1) seeking-holds).0 in let p = g.room in omega arith

      -- it holds the name
      pub seeking-found : is_named names (k - 1) h e ≡ true → Spot names slots n h e i
      seeking-found d =
          let o = seeking-holds in
          let w = named-is names (k - 1) h e d in
          record {
            inside = u.inside;
            held = λ j y. let p = same_place o y in (rw (← p) (g.falls i (k - 1) o).0, rw (← p) w);
            free = λ y. absurd (not-zero y o);
            finds = λ names' slots' o k d w. u.back names' slots' o (here d w);
          }

      -- it holds another
      module _ {r : ℕ} (y : (r ≡ a % 2) × (r < 2)) {m : ℕ} (s : m ≡ length slots - length names) where
        pub seeking-less : length slots - (m + 2 * (k - 1) + r) < length slots - i
        seeking-less =
            let o = g.falls i (k - 1) seeking-holds in
            let p = seeking-in in
            omega (arith, o.1, s)

        pub seeking-on : is_named names (k - 1) h e ≡ false → Seeking names slots n h e (m + 2 * (k - 1) + r) b (a / 2)
        seeking-on d =
            let o = g.falls i (k - 1) seeking-holds in
            let p : m + 2 * (k - 1) + r ≡ length slots - length names + 2 * (k - 1) + a % 2 = rw (s, y.0) in
            record {
              inside = omega (arith, o.0, y.1, s);
              ahead = λ j l w. rw p (leads-on (u.ahead j l w) seeking-holds (named-not names (k - 1) h e d));
              back = λ names' slots' f l. u.back names' slots' f (down (f i (k - 1) seeking-holds) (rw p at l));
            }

  -- whether the slot is taken says whether the content is there
  module _ {t : List ℕ} {h e i : ℕ} (w : NameOf t h e) (s : Spot names slots n h e i) where
    pub offer-used : (get_or slots i 0 ≡ 0 → ⊥) → among (refs_in names n) t ≡ true
    offer-used f =
        let d : get_or slots i 0 ≡ suc (get_or slots i 0 - 1) = omega arith in
        let o = s.held (get_or slots i 0 - 1) d in
        among-some names t n (get_or slots i 0 - 1) o.0 (of-name g w (get_or slots i 0 - 1) o.0 o.1)

    offer-new : get_or slots i 0 ≡ 0 → among (refs_in names n) t ≡ false
    offer-new d = among_none names t n (λ k l z. s.free d k l (name_of g w k l z))

-- ---- one more reference

module _ (names : List ℕ) (n h e : ℕ) where
  put-length : length (put names n h e) ≡ length names
  put-length = rw (length-set, length-set)

  put_other : (j : ℕ) → j < 2 * n → get_or (put names n h e) j 0 ≡ get_or names j 0
  put_other j l =
      get_or-set_other (set names (2 * n) h) (2 * n + 1) j e 0 (λ (z : j ≡ 2 * n + 1). omega arith)
      ∙ get_or-set_other names (2 * n) j h 0 (λ (z : j ≡ 2 * n). omega arith)

  put-named : (k : ℕ) → k < n → {h' e' : ℕ} → Named names k h' e' → Named (put names n h e) k h' e'
  put-named k l w = (put_other (2 * k) (omega arith) ∙ w.0, put_other (2 * k + 1) (omega arith) ∙ w.1)

  put_back : (k : ℕ) → k < n → {h' e' : ℕ} → Named (put names n h e) k h' e' → Named names k h' e'
  put_back k l w = (sym (put_other (2 * k) (omega arith)) ∙ w.0, sym (put_other (2 * k + 1) (omega arith)) ∙ w.1)

  ref-same : (k : ℕ) → k < n → ref_at (put names n h e) k ≡ ref_at names k
  ref-same k l = rw (put_other (2 * k) (omega arith), put_other (2 * k + 1) (omega arith))

  refs-same : (m : ℕ) → m ≤ n → refs_in (put names n h e) m ≡ refs_in names m
  refs-same zero l = refl
  refs-same (suc m) l = rw (refs-same m (omega arith), ref-same m (omega arith))

  put-new : 2 * n + 2 ≤ length names → Named (put names n h e) n h e
  put-new l = (
    get_or-set_other (set names (2 * n) h) (2 * n + 1) (2 * n) e 0 (λ (z : 2 * n ≡ 2 * n + 1). omega arith) ∙ get_or-set_same names (2 * n) h 0 (omega arith),
    get_or-set_same (set names (2 * n) h) (2 * n + 1) e 0 (rw length-set (omega arith)),
  )

pub note-room : (names : List ℕ) (n : ℕ) → 2 * n + 2 ≤ length names → 2 * n + 1 < length names
note-room names n l = omega arith

module _ {names slots : List ℕ} {n : ℕ} (g : Indexed names slots n) (room : 2 * n + 2 ≤ length names) {t : List ℕ} (short : length t ≤ 14)
    {h e i : ℕ} (w : NameOf t h e) (s : Spot names slots n h e i) (z : get_or slots i 0 ≡ 0) where
  new-ref : ref_at (put names n h e) n ≡ t
  new-ref =
      let o = put-new names n h e room in
      let m = w.made short in
      let u = packed_more 1 (take 7 t) in
      rw (o.0, o.1) (w.shows (omega (arith, u, m.0)))

  roots : length slots - length (put names n h e) ≡ length slots - length names
  roots = rw (put-length names n h e)

  put-indexed : Indexed (put names n h e) slots n
  put-indexed = record {
    few = g.few;
    room = rw (put-length names n h e) g.room;
    rooted = rw (put-length names n h e) g.rooted;
    named = λ k l. rw (ref-same names n h e k l) (put-named names n h e k l (g.named k l));
    falls = λ i k d. rw roots (g.falls i k d);
    leads = λ k h' e' l q. rw roots (leads-kept (λ i k d. d) (λ i k y. put-named names n h e k (g.falls i k y).0) (g.leads k h' e' l (put_back names n h e k l q)));
  }

  put-spot : Spot (put names n h e) slots n h e i
  put-spot = record {
    inside = rw roots s.inside;
    held = λ k d. absurd (not-zero z d);
    free = λ d k l q. s.free d k l (put_back names n h e k l q);
    finds = λ names' slots' o k d q. rw roots (s.finds names' slots' o k d q);
  }

  put-fits : Fitting names slots n t i (put names n h e)
  put-fits =
      let o = put-new names n h e room in
      let m = w.made short in
      record {
        new = offer-new g w s z;
        same = refs-same names n h e n (omega arith);
        indexed = put-indexed;
        size = put-length names n h e;
        next = λ r. (
          new-ref,
          record {
            room = r;
            named = rw new-ref (o.0 ∙ m.0, o.1 ∙ m.1);
            spot = rw (o.0, o.1) put-spot;
            free = z;
          },
        );
      }

pub offer-fits : {names names' slots : List ℕ} {n : ℕ} → Indexed names slots n → {t : List ℕ} → length t ≤ 14 → {h e i : ℕ} → NameOf t h e
    → Spot names slots n h e i → get_or slots i 0 ≡ 0 → names' ≡ kept names n h e → Fitting names slots n t i names'
offer-fits {names} {names'} {slots} {n} g {t} short {h} {e} {i} w s z d = rw d (by (leb (2 * n + 2) (length names)) refl)
  where
    by : (b : Bool) → leb (2 * n + 2) (length names) ≡ b → Fitting names slots n t i (cond b (put names n h e) names)
    by true q = put-fits g (leb-true (2 * n + 2) (length names) q) short w s z
    by false q =
        let l = leb-false (2 * n + 2) (length names) q in
        record { new = offer-new g w s z; same = refl; indexed = g; size = refl; next = λ r. absurd (let x : ⊥ = omega arith in x) }

-- the two ways of keeping a name
pub kept-room : (names : List ℕ) (n h e : ℕ) → 2 * n + 2 ≤ length names → put names n h e ≡ kept names n h e
kept-room names n h e l = rw (le-leb (2 * n + 2) (length names) l)

pub kept-none : (names : List ℕ) (n h e : ℕ) → length names < 2 * n + 2 → names ≡ kept names n h e
kept-none names n h e l = rw (lt-leb (2 * n + 2) (length names) l)

-- what was offered is taken
module _ {names slots : List ℕ} {n i : ℕ} (g : Indexed names slots n) (o : Offered names slots n i) (few : n < 65535) where
  abbrev taken : List ℕ
  taken = set slots i (n + 1)

  note-in : i < length slots
  note-in = let p = o.spot.inside in let q = g.room in let r = g.rooted in omega arith

  taken_here : get_or taken i 0 ≡ suc n
  taken_here = get_or-set_same slots i (n + 1) 0 note-in ∙ add-one n

  grown : Grown slots taken
  grown j k d = get_or-set_other slots i j (n + 1) 0 (λ (q : j ≡ i). not-zero o.free (rw q at d)) ∙ d

  falls_at : (j k : ℕ) → get_or taken j 0 ≡ suc k → (b : Bool) → eqb j i ≡ b → (k < suc n) × (j < length slots - length names + 2 * k)
  falls_at j k y true d =
      let p = eqb-true j i d in
      let u : suc k ≡ suc n = sym y ∙ ap (λ (x : ℕ). get_or taken x 0) p ∙ taken_here in
      let v : k ≡ n = omega arith in
      (omega arith, rw (p, v) o.spot.inside)
  falls_at j k y false d =
      let p = eqb-false j i d in
      let a = g.falls j k (sym (get_or-set_other slots i j (n + 1) 0 p) ∙ y) in
      (omega (arith, a.0), a.1)

  named-at : (k : ℕ) → k < suc n → (b : Bool) → eqb k n ≡ b → Named names k (head_of (ref_at names k)) (tail_of (ref_at names k))
  named-at k l true d = rw (eqb-true k n d) o.named
  named-at k l false d = let z = eqb-false k n d in g.named k (omega arith)

  leads-at : (k h e : ℕ) → k < suc n → Named names k h e → (b : Bool) → eqb k n ≡ b → Reached (length slots - length names) names taken h e
  leads-at k h e l q true d =
      let z = eqb-true k n d in
      let q : Named names n h e = rw z at q in
      rw (← q.0, ← q.1) (o.spot.finds names taken grown n taken_here (refl, refl))
  leads-at k h e l q false d =
      let z = eqb-false k n d in
      leads-kept grown (λ i k y v. v) (g.leads k h e (omega arith) q)

  still-indexed : Indexed names taken (n + 1)
  still-indexed =
      subst (λ (k : ℕ). Indexed names taken k) (sym (add-one n))
      (record {
        few = omega arith;
        room = let p = o.room in omega arith;
        rooted = rw (length-set slots i (n + 1)) g.rooted;
        named = λ k l. named-at k l (eqb k n) refl;
        falls = λ j k d. rw (length-set slots i (n + 1)) (falls_at j k d (eqb j i) refl);
        leads = λ k h e l q. rw (length-set slots i (n + 1)) (leads-at k h e l q (eqb k n) refl);
      })

  pub noted : Indexed names taken (n + 1) × (length taken ≡ length slots)
  noted = (still-indexed, length-set slots i (n + 1))

-- no reference yet
pub indexed-none : (m k : ℕ) {names slots : List ℕ} → m < k → names ≡ replicate {A = ℕ} m 0 → slots ≡ replicate {A = ℕ} k 0 → Indexed names slots 0
indexed-none m k {names} {slots} f e d = record {
  few = omega arith;
  room = omega arith;
  rooted = rw (ap length e ∙ length-replicate {A = ℕ} m 0, ap length d ∙ length-replicate {A = ℕ} k 0) f;
  named = λ j a. absurd (let z : ⊥ = omega arith in z);
  falls = λ i j a. absurd (not-zero (rw d (all-zero k i)) a);
  leads = λ j h e a. absurd (let z : ⊥ = omega arith in z);
}
  where
    all-zero : (k i : ℕ) → get_or (replicate {A = ℕ} k 0) i 0 ≡ 0
    all-zero zero i = refl
    all-zero (suc k) zero = refl
    all-zero (suc k) (suc i) = all-zero k i
