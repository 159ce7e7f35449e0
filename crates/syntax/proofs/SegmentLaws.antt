-- How the cursor goes over the pieces of a segment.
use Rattle.std.specs.Prelude.{ℕ, zero, suc, ◌+◌, ◌-◌, ◌≤◌, ◌<◌, List, [], ◌∷◌, ◌≡◌, refl, Bool, true, false, cond, eqb, leb, ltb, length, get_or, drop, Option, Some, None}
use Rattle.std.proofs.Common.{add-one, sub-one, arith, ap, sym, ◌∙◌, leb-true, leb-false, eq-eqb, ne_eqb, lt-ltb, le-ltb}
use Rattle.syntax.specs.Service.{kind_of, kind}
use Rattle.syntax.specs.Repertoire.{inside}
use Rattle.syntax.specs.Classes.{end_class, class_of}
use Rattle.syntax.specs.RepertoireLaws.{Sorted, is-data, is-bad, is-release, is-separator, is-end, sorted, kind-le}
use Rattle.syntax.specs.Cutting.{stop_from, end_at}
use Rattle.syntax.proofs.CuttingLaws.{drop-tail, drop_head, stop-in}
use Rattle.syntax.proofs.ContentLaws.{found-first, found-second, not-over}
use Rattle.syntax.specs.Segment.{Piece, piece, pieces, pieces_at, edge_of, edge_at, at_element, at_component, components, repeats, elements, any_repeats, Reaches}
use Rattle.syntax.specs.declared.Service.{Service}
use Rattle.syntax.specs.declared.Syntax.{Syntax}

-- ---- what `piece_end` finds

pub edge_in : (y : Syntax) (s : List ℕ) (i : ℕ) {q : ℕ} {r : Option ℕ} → r ≡ stop_from y.service 2 false (drop i s) i → r ≡ Some q → q < length s
edge_in y s i {q} e d = (stop-in y.service 2 s (omega arith) i q (sym e ∙ d)).1

pub edge-end : (y : Syntax) (s : List ℕ) (i : ℕ) {q c : ℕ} {r : Option ℕ} → r ≡ stop_from y.service 2 false (drop i s) i → r ≡ Some q →
    c ≡ class_of y (get_or s q 0) → c ≡ end_class → Some (q, 5) ≡ edge_at y.service s i
edge-end y s i {q} {c} e d h z = rw (← e, d, by-class (sorted y (get_or s q 0) h))
  where
    by-class : Sorted (kind_of y.service (get_or s q 0)) (inside y.level (get_or s q 0)) c → kind_of y.service (get_or s q 0) ≡ 5
    by-class (is-data p u v) = let z : ⊥ = omega arith in absurd z
    by-class (is-bad p u v) = let z : ⊥ = omega arith in absurd z
    by-class (is-release p v) = let z : ⊥ = omega arith in absurd z
    by-class (is-separator p u v) = let z : ⊥ = omega arith in absurd z
    by-class (is-end p v) = p

pub edge_on : (y : Syntax) (s : List ℕ) (i : ℕ) {q c : ℕ} {r : Option ℕ} → r ≡ stop_from y.service 2 false (drop i s) i → r ≡ Some q →
    c ≡ class_of y (get_or s q 0) → (c ≡ end_class → ⊥) → Some (q, c) ≡ edge_at y.service s i
edge_on y s i {q} {c} e d h n =
    let w = (stop-in y.service 2 s (omega arith) i q (sym e ∙ d)).2 in
    rw (← e, d, by-class w (sorted y (get_or s q 0) h))
  where
    by-class : 2 ≤ kind_of y.service (get_or s q 0) → Sorted (kind_of y.service (get_or s q 0)) (inside y.level (get_or s q 0)) c → c ≡ kind_of y.service (get_or s q 0)
    by-class a (is-data p u v) = let z : ⊥ = omega arith in absurd z
    by-class a (is-bad p u v) = let z : ⊥ = omega arith in absurd z
    by-class a (is-release p v) = let z : ⊥ = omega arith in absurd z
    by-class a (is-separator p u v) = v
    by-class a (is-end p v) = absurd (n v)

-- ---- an edge is the end of the first piece, and the others are those from behind it

abbrev pub after : ℕ → List Piece → List Piece
after k ps = cond (eqb k 5) [] ps

-- the pieces from a, where the first ends at q
abbrev until : Service → List ℕ → ℕ → ℕ → List Piece
until σ s a q = piece a q (kind_of σ (get_or s q 0)) ∷ after (kind_of σ (get_or s q 0)) (pieces_at σ s (q + 1))

module _ (σ : Service) (s : List ℕ) (a : ℕ) where
  next-from : (l : List ℕ) (f : Bool) (i q : ℕ) → drop i s ≡ l → stop_from σ 2 f l i ≡ Some q →
      pieces σ f a l i ≡ until σ s a q
  next-from [] f i q d e = cc
  next-from (b ∷ l) f i q d e = by-test f (leb 2 (kind σ f b)) refl e (next-from l (eqb (kind σ f b) 0) (suc i) q (drop-tail i s d))
    where
      by-test : (f t : Bool) → leb 2 (kind σ f b) ≡ t → cond t (Some i) (stop_from σ 2 (eqb (kind σ f b) 0) l (suc i)) ≡ Some q →
          (stop_from σ 2 (eqb (kind σ f b) 0) l (suc i) ≡ Some q → pieces σ (eqb (kind σ f b) 0) a l (suc i) ≡ until σ s a q) →
          cond (ltb (kind σ f b) 2) (pieces σ (eqb (kind σ f b) 0) (cond (ltb (kind σ f b) 2) a (suc i)) l (suc i))
          (piece a i (kind σ f b) ∷ cond (eqb (kind σ f b) 5) [] (pieces σ (eqb (kind σ f b) 0) (cond (ltb (kind σ f b) 2) a (suc i)) l (suc i))) ≡ until σ s a q
      by-test f false h e r = rw (lt-ltb (kind σ f b) 2 (leb-false 2 (kind σ f b) h)) (r e)
      by-test true true h e r = cc
      by-test false true h e r =
          let p : i ≡ q = cc in
          let k : 2 ≤ kind_of σ b = leb-true 2 (kind_of σ b) h in
          rw (← p, add-one, drop-tail i s d, drop_head i s d, le-ltb (kind_of σ b) 2 k, ne_eqb (kind_of σ b) 0 (λ (z : kind_of σ b ≡ 0). omega arith))

  none_from_lem : (l : List ℕ) (f : Bool) (i : ℕ) → stop_from σ 2 f l i ≡ None → pieces σ f a l i ≡ []
  none_from_lem [] f i e = refl
  none_from_lem (b ∷ l) f i e = by-test (leb 2 (kind σ f b)) refl e (none_from_lem l (eqb (kind σ f b) 0) (suc i))
    where
      by-test : (t : Bool) → leb 2 (kind σ f b) ≡ t → cond t (Some i) (stop_from σ 2 (eqb (kind σ f b) 0) l (suc i)) ≡ None →
          (stop_from σ 2 (eqb (kind σ f b) 0) l (suc i) ≡ None → pieces σ (eqb (kind σ f b) 0) a l (suc i) ≡ []) →
          cond (ltb (kind σ f b) 2) (pieces σ (eqb (kind σ f b) 0) (cond (ltb (kind σ f b) 2) a (suc i)) l (suc i))
          (piece a i (kind σ f b) ∷ cond (eqb (kind σ f b) 5) [] (pieces σ (eqb (kind σ f b) 0) (cond (ltb (kind σ f b) 2) a (suc i)) l (suc i))) ≡ []
      by-test true h e r = cc
      by-test false h e r = rw (lt-ltb (kind σ f b) 2 (leb-false 2 (kind σ f b) h)) (r e)

edge-at : (σ : Service) (s : List ℕ) {q k : ℕ} (x : Option ℕ) → Some (q, k) ≡ edge_of σ s x → (x ≡ Some q) × (k ≡ kind_of σ (get_or s q 0))
edge-at σ s {q} {k} (Some p) e = let h : q ≡ p = found-first e in rw h (refl, found-second e)
edge-at σ s None e = absurd (not-over (sym e))

edge-no : (σ : Service) (s : List ℕ) (x : Option ℕ) → None ≡ edge_of σ s x → x ≡ None
edge-no σ s (Some p) e = cc
edge-no σ s None e = refl

-- a step of the cursor, in one record
pub record Stepped (σ : Service) (s : List ℕ) (i q k : ℕ) : Type 0 where
  pub first : pieces_at σ s i ≡ piece i q k ∷ after k (pieces_at σ s (q + 1))
  pub low : i ≤ q
  pub high : q < length s
  pub least : 2 ≤ k
  pub most : k ≤ 5

pub edge-steps : (σ : Service) (s : List ℕ) (i : ℕ) {q k : ℕ} {r : Option (ℕ × ℕ)} → r ≡ edge_at σ s i → r ≡ Some (q, k) → Stepped σ s i q k
edge-steps σ s i {q} {k} e d =
    let u = edge-at σ s (stop_from σ 2 false (drop i s) i) (sym d ∙ e) in
    let w = stop-in σ 2 s (omega arith) i q u.0 in
    record {
      first = rw u.1 (next-from σ s i (drop i s) false i q refl u.0);
      low = w.0;
      high = w.1;
      least = rw u.1 w.2;
      most = rw u.1 (kind-le σ (get_or s q 0));
    }

pub edge-over : (σ : Service) (s : List ℕ) (i : ℕ) {r : Option (ℕ × ℕ)} → r ≡ edge_at σ s i → r ≡ None → pieces_at σ s i ≡ []
edge-over σ s i e d = none_from_lem σ s i (drop i s) false i (edge-no σ s (stop_from σ 2 false (drop i s) i) (sym d ∙ e))

past : (k : ℕ) (ps : List Piece) → (k ≡ 5 → ⊥) → after k ps ≡ ps
past k ps h = rw (ne_eqb k 5 h)

-- ---- one cut: the pieces of a segment end where the segment does

-- where the piece ends that ends the segment
abbrev pub last_end : List Piece → Option ℕ
last_end [] = None
last_end (piece x z k ∷ ps) = cond (eqb k 5) (Some z) (last_end ps)

ends-from : (σ : Service) (f : Bool) (a : ℕ) (l : List ℕ) (i : ℕ) → last_end (pieces σ f a l i) ≡ stop_from σ 5 f l i
ends-from σ f a [] i = refl
ends-from σ f a (b ∷ l) i = by (kind σ f b) (most f) (λ c. ends-from σ (eqb (kind σ f b) 0) c l (suc i))
  where
    most : (f : Bool) → kind σ f b ≤ 5
    most true = omega arith
    most false = kind-le σ b

    by : (k : ℕ) → k ≤ 5 → ((c : ℕ) → last_end (pieces σ (eqb k 0) c l (suc i)) ≡ stop_from σ 5 (eqb k 0) l (suc i)) →
        last_end (cond (ltb k 2) (pieces σ (eqb k 0) (cond (ltb k 2) a (suc i)) l (suc i))
        (piece a i k ∷ cond (eqb k 5) [] (pieces σ (eqb k 0) (cond (ltb k 2) a (suc i)) l (suc i))))
        ≡ cond (leb 5 k) (Some i) (stop_from σ 5 (eqb k 0) l (suc i))
    by zero m h = h a
    by (suc zero) m h = h a
    by (suc (suc zero)) m h = h (suc i)
    by (suc (suc (suc zero))) m h = h (suc i)
    by (suc (suc (suc (suc zero)))) m h = h (suc i)
    by (suc (suc (suc (suc (suc zero))))) m h = refl
    by (suc (suc (suc (suc (suc (suc k)))))) m h = absurd (omega (arith, m))

pub pieces_end : (σ : Service) (s : List ℕ) (a : ℕ) → last_end (pieces_at σ s a) ≡ end_at σ s a
pieces_end σ s a = ends-from σ false a (drop a s) a

-- ---- the loops, each with its answer x fixed: what stands from i on gives it

-- on the way to element n from here
pub record Passing (y : Syntax) (x : List Piece) (s : List ℕ) (i n : ℕ) : Type 0 where
  pub left : x ≡ at_element n (pieces_at y.service s i)

module _ {y : Syntax} {x : List Piece} {s : List ℕ} {i n : ℕ} (g : Passing y x s i n) where
  pub passing-there : n ≤ 0 → Reaches y.service s (Some i) x
  passing-there h = let p : n ≡ 0 = omega arith in sym (g.left ∙ rw p)

  none_of : (n : ℕ) → 0 < n → at_element n [] ≡ []
  none_of zero h = let z : ⊥ = omega arith in absurd z
  none_of (suc n) h = refl

  module _ {r : Option (ℕ × ℕ)} (e : r ≡ edge_at y.service s i) where
    pub passing-over : 0 < n → r ≡ None → [] ≡ x
    passing-over h d = sym (g.left ∙ ap (at_element n) (edge-over y.service s i e d) ∙ none_of n h)

    module _ {q k : ℕ} (h : 0 < n) (d : r ≡ Some (q, k)) where
      one_more : (n : ℕ) → 0 < n → (ps : List Piece) → at_element n (piece i q k ∷ ps) ≡ cond (eqb k 4) (at_element (n - 1) ps) (at_element n ps)
      one_more zero h ps = let z : ⊥ = omega arith in absurd z
      one_more (suc n) h ps = rw sub-one

      pub passing-end : k ≡ 5 → [] ≡ x
      passing-end t = sym (g.left ∙ ap (at_element n) (edge-steps y.service s i e d).first ∙ one_more n h _ ∙ rw (t, none_of n h))

      pub passing-next : k ≡ 4 → Passing y x s (q + 1) (n - 1)
      passing-next t = record { left = g.left ∙ ap (at_element n) (edge-steps y.service s i e d).first ∙ one_more n h _ ∙ rw t }

      pub passing-on : (k ≡ 5 → ⊥) → (k ≡ 4 → ⊥) → Passing y x s (q + 1) n
      passing-on u t = record { left = g.left ∙ ap (at_element n) (edge-steps y.service s i e d).first ∙ one_more n h _ ∙ rw (ne_eqb k 4 t, past k _ u) }

-- on the way to component n from here
pub record Nearing (y : Syntax) (x : Option (ℕ × ℕ)) (s : List ℕ) (i n : ℕ) : Type 0 where
  pub left : x ≡ at_component n (pieces_at y.service s i)

module _ {y : Syntax} {x : Option (ℕ × ℕ)} {s : List ℕ} {i n : ℕ} (g : Nearing y x s i n) {r : Option (ℕ × ℕ)} (e : r ≡ edge_at y.service s i) where
  absent-of : (n : ℕ) → at_component n [] ≡ None
  absent-of zero = refl
  absent-of (suc n) = refl

  pub nearing-over : r ≡ None → None ≡ x
  nearing-over d = sym (g.left ∙ ap (at_component n) (edge-over y.service s i e d) ∙ absent-of n)

  module _ {q k : ℕ} (d : r ≡ Some (q, k)) where
    pub nearing-there : n ≡ 0 → Some (i, q) ≡ x
    nearing-there t = sym (g.left ∙ ap (at_component n) (edge-steps y.service s i e d).first ∙ rw t)

    one_less : (n : ℕ) → (n ≡ 0 → ⊥) → (ps : List Piece) → at_component n (piece i q k ∷ ps) ≡ cond (eqb k 2) (at_component (n - 1) ps) None
    one_less zero h ps = absurd (h refl)
    one_less (suc n) h ps = rw sub-one

    pub nearing-gone : (n ≡ 0 → ⊥) → (k ≡ 2 → ⊥) → None ≡ x
    nearing-gone h t = sym (g.left ∙ ap (at_component n) (edge-steps y.service s i e d).first ∙ one_less n h (after k (pieces_at y.service s (q + 1))) ∙ rw (ne_eqb k 2 t))

    pub nearing-on : (n ≡ 0 → ⊥) → k ≡ 2 → Nearing y x s (q + 1) (n - 1)
    nearing-on h t = record { left = g.left ∙ ap (at_component n) (edge-steps y.service s i e d).first ∙ one_less n h (after k (pieces_at y.service s (q + 1))) ∙ rw t }

-- n components counted, and those from here
pub record Counting (y : Syntax) (x : ℕ) (s : List ℕ) (i n : ℕ) : Type 0 where
  pub few : n ≤ i
  pub sums : x ≡ n + components (pieces_at y.service s i)

module _ {y : Syntax} {x : ℕ} {s : List ℕ} {i n : ℕ} (g : Counting y x s i n) {r : Option (ℕ × ℕ)} (e : r ≡ edge_at y.service s i) where
  pub counting-over : r ≡ None → n ≡ x
  counting-over d = let h : x ≡ n + 0 = g.sums ∙ ap (λ (ps : List Piece). n + components ps) (edge-over y.service s i e d) in omega arith

  module _ {q k : ℕ} (d : r ≡ Some (q, k)) where
    pub counting-fits : n < length s
    counting-fits = let w = edge-steps y.service s i e d in let a = w.low in let b = w.high in let f = g.few in omega arith

    summed : x ≡ n + components (piece i q k ∷ after k (pieces_at y.service s (q + 1)))
    summed = g.sums ∙ ap (λ (ps : List Piece). n + components ps) (edge-steps y.service s i e d).first

    pub counting-end : (k ≡ 2 → ⊥) → n + 1 ≡ x
    counting-end t = sym (summed ∙ rw (ne_eqb k 2 t))

    pub counting-on : k ≡ 2 → Counting y x s (q + 1) (n + 1)
    counting-on t =
        let w = edge-steps y.service s i e d in let a = w.low in let f = g.few in
        let h : x ≡ n + suc (components (pieces_at y.service s (q + 1))) = summed ∙ rw t in
        record { few = omega arith; sums = omega arith }

-- does what starts here repeat
pub record Repeating (y : Syntax) (x : Bool) (s : List ℕ) (i : ℕ) : Type 0 where
  pub left : x ≡ repeats (pieces_at y.service s i)

module _ {y : Syntax} {x : Bool} {s : List ℕ} {i : ℕ} (g : Repeating y x s i) {r : Option (ℕ × ℕ)} (e : r ≡ edge_at y.service s i) where
  pub repeating-over : r ≡ None → false ≡ x
  repeating-over d = sym (g.left ∙ ap repeats (edge-over y.service s i e d))

  module _ {q k : ℕ} (d : r ≡ Some (q, k)) where
    pub repeating-yes : k ≡ 3 → true ≡ x
    repeating-yes t = sym (g.left ∙ ap repeats (edge-steps y.service s i e d).first ∙ rw t)

    pub repeating-no : (k ≡ 3 → ⊥) → (k ≡ 2 → ⊥) → false ≡ x
    repeating-no t u = sym (g.left ∙ ap repeats (edge-steps y.service s i e d).first ∙ rw (ne_eqb k 3 t, ne_eqb k 2 u))

    pub repeating-on : (k ≡ 3 → ⊥) → k ≡ 2 → Repeating y x s (q + 1)
    repeating-on t u = record { left = g.left ∙ ap repeats (edge-steps y.service s i e d).first ∙ rw u }

-- n elements counted, and those from here
pub record Numbering (y : Syntax) (x : ℕ) (s : List ℕ) (i n : ℕ) : Type 0 where
  pub few : n ≤ i
  pub sums : x ≡ n + elements (pieces_at y.service s i)

module _ {y : Syntax} {x : ℕ} {s : List ℕ} {i n : ℕ} (g : Numbering y x s i n) {r : Option (ℕ × ℕ)} (e : r ≡ edge_at y.service s i) where
  pub numbering-over : r ≡ None → n ≡ x
  numbering-over d = let h : x ≡ n + 0 = g.sums ∙ ap (λ (ps : List Piece). n + elements ps) (edge-over y.service s i e d) in omega arith

  module _ {q k : ℕ} (d : r ≡ Some (q, k)) where
    pub numbering-fits : n < length s
    numbering-fits = let w = edge-steps y.service s i e d in let a = w.low in let b = w.high in let f = g.few in omega arith

    numbered : x ≡ n + elements (piece i q k ∷ after k (pieces_at y.service s (q + 1)))
    numbered = g.sums ∙ ap (λ (ps : List Piece). n + elements ps) (edge-steps y.service s i e d).first

    pub numbering-end : k ≡ 5 → n ≡ x
    numbering-end t = let h : x ≡ n + 0 = numbered ∙ rw t in omega arith

    pub numbering-next : k ≡ 4 → Numbering y x s (q + 1) (n + 1)
    numbering-next t =
        let w = edge-steps y.service s i e d in let a = w.low in let f = g.few in
        let h : x ≡ n + suc (elements (pieces_at y.service s (q + 1))) = numbered ∙ rw t in
        record { few = omega arith; sums = omega arith }

    pub numbering-on : (k ≡ 5 → ⊥) → (k ≡ 4 → ⊥) → Numbering y x s (q + 1) n
    numbering-on t u =
        let w = edge-steps y.service s i e d in let a = w.low in let f = g.few in
        record { few = omega arith; sums = numbered ∙ rw (ne_eqb k 4 u, past k _ t) }

-- does anything from here to the terminator repeat
pub record Anywhere (y : Syntax) (x : Bool) (s : List ℕ) (i : ℕ) : Type 0 where
  pub left : x ≡ any_repeats (pieces_at y.service s i)

module _ {y : Syntax} {x : Bool} {s : List ℕ} {i : ℕ} (g : Anywhere y x s i) {r : Option (ℕ × ℕ)} (e : r ≡ edge_at y.service s i) where
  pub anywhere-over : r ≡ None → false ≡ x
  anywhere-over d = sym (g.left ∙ ap any_repeats (edge-over y.service s i e d))

  module _ {q k : ℕ} (d : r ≡ Some (q, k)) where
    pub anywhere-yes : k ≡ 3 → true ≡ x
    anywhere-yes t = sym (g.left ∙ ap any_repeats (edge-steps y.service s i e d).first ∙ rw t)

    pub anywhere-end : (k ≡ 3 → ⊥) → k ≡ 5 → false ≡ x
    anywhere-end t u = sym (g.left ∙ ap any_repeats (edge-steps y.service s i e d).first ∙ rw u)

    pub anywhere-on : (k ≡ 3 → ⊥) → (k ≡ 5 → ⊥) → Anywhere y x s (q + 1)
    anywhere-on t u = record { left = g.left ∙ ap any_repeats (edge-steps y.service s i e d).first ∙ rw (ne_eqb k 3 t, past k _ u) }

-- ---- what `element_from` found, put to use

pub reached : (σ : Service) (s : List ℕ) (r : Option ℕ) (x : List Piece) {p : ℕ} → Reaches σ s r x → r ≡ Some p → pieces_at σ s p ≡ x
reached σ s (Some q) x {p} h e = let k : q ≡ p = cc in rw k at h
reached σ s None x h e = cc

pub unreached : (σ : Service) (s : List ℕ) (r : Option ℕ) (x : List Piece) → Reaches σ s r x → r ≡ None → [] ≡ x
unreached σ s (Some q) x h e = cc
unreached σ s None x h e = h

pub no-component : (c : ℕ) → None ≡ at_component c []
no-component zero = refl
no-component (suc c) = refl
