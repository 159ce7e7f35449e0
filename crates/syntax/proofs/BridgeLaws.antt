-- The bridge: on the printing of a tree, each accessor gives what the tree has.
use Rattle.std.specs.Prelude.{ℕ, zero, suc, ◌+◌, ◌-◌, ◌≤◌, ◌<◌, ◌≡◌, Bool, true, cond, ◌&&◌, T, eqb, get_or, take, drop, Option, Some, None}
use Rattle.std.proofs.Common.{arith, sym, ◌∙◌, subst, lit<, lit≤, get_or-drop, drop-drop}
use mathlib.Core.List.{List, [], ◌∷◌, ◌++◌, append_assoc, append-nil}
use Rattle.std.proofs.Math.Option.{Option as Maybe, none, some}
use Rattle.std.proofs.Math.Path.{refl, ap}
use Rattle.std.proofs.Math.Bool.{false}
use borrow.Author.Tests.{ne_eqb, le-leb}
use Rattle.std.proofs.Math.ListN.{length, get_elem?}
use Rattle.std.proofs.Math.Seq.{slice, slice_empty, take-append_seam, drop-append-add, get_or-append_seam}
use Rattle.syntax.specs.Octets.{all_pass}
use Rattle.syntax.specs.Service.{fit, kind_of}
use Rattle.syntax.specs.Cutting.{stop_from, end_at, tag_of}
use Rattle.syntax.proofs.CuttingLaws.{slice-take}
use Rattle.syntax.specs.Content.{content}
use Rattle.syntax.specs.Segment.{Piece, piece, pieces_at, edge_of, edge_at, at_element, at_component, component_at, part_of, components, repeats, elements, any_repeats}
use Rattle.syntax.proofs.SegmentLaws.{after, edge-steps}
use Rattle.syntax.specs.Tree.{Octet, plain, freed, Ne, ne, Component, Repeat, Element, Segment, segment, Symbol, tok, comp, rep, elem, term, each, separated, flat_c, flat_r, flat_e, tag_element, flat_s, spell, spells, print_s, content_in, ok, ok_tag, well, elements_in, first_repeat, components_in, repeats_in, component_of, component_in, content_of, tag_in, count_elements, count_of, repeats_of, any_repeats_in}
use Rattle.syntax.proofs.TreeLaws.{and_right, sym_kind, Reads, All, ok-reads, every-reads, spells-append, all_append, all_left, all_right, all_c, pass, segment-end, content-print, tag-print}
use Rattle.syntax.specs.declared.Service.{Service}

-- ---- a tree as a row of cells: each component with what ends it

pub data Cell : Type 0 where
  cell : Component → ℕ → Cell

-- at least one, each but the last ended by k, the last by n
abbrev pub rows : {A : Type 0} → ℕ → (A → ℕ → List Cell) → A → List A → ℕ → List Cell
rows k row a [] n = row a n
rows k row a (b ∷ r) n = row a k ++ rows k row b r n

abbrev pub row_c : Component → ℕ → List Cell
row_c c n = cell c n ∷ []

abbrev pub row_ne : {A : Type 0} → ℕ → (A → ℕ → List Cell) → Ne A → ℕ → List Cell
row_ne k row (ne a r) n = rows k row a r n

abbrev pub row_r : Repeat → ℕ → List Cell
row_r = row_ne 2 row_c

abbrev pub row_e : Element → ℕ → List Cell
row_e = row_ne 3 row_r

abbrev pub row_s : Segment → List Cell
row_s (segment a b c es) = row_ne 4 row_e (ne (tag_element a b c) es) 5

-- pieces lie on cells: each has its component's octets, all printed well, and is ended by the same
pub data Lies (σ : Service) (s : List ℕ) : List Piece → List Cell → Type 0 where
  no_more : Lies σ s [] []
  one_more : {x z k : ℕ} {c : Component} {ps : List Piece} {cs : List Cell} → slice x z s ≡ spells σ (flat_c c) → All (Reads σ) (flat_c c) → Lies σ s ps cs
      → Lies σ s (piece x z k ∷ ps) (cell c k ∷ cs)

-- ---- the pieces of a printed segment lie on its row

drop_past : (s : List ℕ) (a : ℕ) (u : List ℕ) (b : ℕ) (v : List ℕ) → drop a s ≡ u ++ b ∷ v → drop (a + length u + 1) s ≡ v
drop_past s a u b v e =
    let n : a + length u + 1 ≡ a + (length u + 1) = omega arith in
    rw n (sym (drop-drop (length u + 1) a s) ∙ ap (drop (length u + 1)) e ∙ drop-append-add u (b ∷ v) 1)

octet-at : (s : List ℕ) (a : ℕ) (u : List ℕ) (b : ℕ) (v : List ℕ) → drop a s ≡ u ++ b ∷ v → get_or s (a + length u) 0 ≡ b
octet-at s a u b v e = sym (get_or-drop a s (length u) 0) ∙ ap (λ (l : List ℕ). get_or l (length u) 0) e ∙ get_or-append_seam u b v 0

slice_at : (s : List ℕ) (a : ℕ) (u v : List ℕ) → drop a s ≡ u ++ v → slice a (a + length u) s ≡ u
slice_at s a u v e =
    let n : a + length u - a ≡ length u = omega arith in
    slice-take a (a + length u) s ∙ rw n (ap (take (length u)) e ∙ take-append_seam u v)

module _ (σ : Service) (s : List ℕ) where
  -- what stands at a is printed, then comes an octet that ends it; behind that one the pieces lie on cs
  Covers : {A : Type 0} → (A → List Symbol) → (A → ℕ → List Cell) → Type 0
  Covers {A} flat row =
      (x : A) (a b k : ℕ) (r : List ℕ) (cs : List Cell) → All (Reads σ) (flat x) → kind_of σ b ≡ k → 2 ≤ k → drop a s ≡ spells σ (flat x) ++ b ∷ r
      → ((p : ℕ) → drop p s ≡ r → Lies σ s (after k (pieces_at σ s p)) cs) → Lies σ s (pieces_at σ s a) (row x k ++ cs)

  low : (t : Octet) → sym_kind (tok t) < 2
  low (plain b) = lit< tt
  low (freed b) = lit< tt

  covers-c : Covers flat_c row_c
  unfolding Covers
  covers-c c a b k r cs h e l d rest =
      let f : stop_from σ 2 false (drop a s) a ≡ Some (a + length (spells σ (flat_c c))) =
      ap (λ (o : List ℕ). stop_from σ 2 false o a) d
      ∙ pass σ 2 (lit≤ tt) (flat_c c) (b ∷ r) a h (all_c (λ (y : Symbol). sym_kind y < 2) low c)
      ∙ here (a + length (spells σ (flat_c c))) in
      let w = edge-steps σ s a refl (ap (edge_of σ s) f ∙ ap (λ q. Some ((a + length (spells σ (flat_c c))), q)) (ap (kind_of σ) (octet-at s a (spells σ (flat_c c)) b r d) ∙ e)) in
      rw w.first (one_more (slice_at s a (spells σ (flat_c c)) (b ∷ r) d) h (rest (a + length (spells σ (flat_c c)) + 1) (drop_past s a (spells σ (flat_c c)) b r d)))
    where
      here : (q : ℕ) → stop_from σ 2 false (b ∷ r) q ≡ Some q
      here q = rw (e, le-leb 2 k l)

  -- one level up, where sep is printed as the octet o, of kind n
  module _ {A : Type 0} (flat : A → List Symbol) (row : A → ℕ → List Cell) (cov : Covers flat row) (sep : Symbol) (o n : ℕ)
      (one : spell σ sep ≡ o ∷ []) (kinds : Reads σ sep → kind_of σ o ≡ n) (two : 2 ≤ n) (five : n ≡ 5 → ⊥) where
    covers-rows : (x : A) (xs : List A) (a b k : ℕ) (r : List ℕ) (cs : List Cell) → All (Reads σ) (flat x ++ each sep flat xs) → kind_of σ b ≡ k → 2 ≤ k
        → drop a s ≡ spells σ (flat x ++ each sep flat xs) ++ b ∷ r
        → ((p : ℕ) → drop p s ≡ r → Lies σ s (after k (pieces_at σ s p)) cs) → Lies σ s (pieces_at σ s a) (rows n row x xs k ++ cs)
    unfolding Covers
    covers-rows x [] a b k r cs h e l d rest =
        cov x a b k r cs (all_left (Reads σ) (flat x) [] h) e l (d ∙ ap (λ (ys : List Symbol). spells σ ys ++ b ∷ r) (append-nil (flat x))) rest
    covers-rows x (z ∷ xs) a b k r cs h e l d rest =
        let m = all_right (Reads σ) (flat x) (sep ∷ (flat z ++ each sep flat xs)) h in
        let q : spells σ (flat x ++ sep ∷ (flat z ++ each sep flat xs)) ++ b ∷ r ≡ spells σ (flat x) ++ o ∷ (spells σ (flat z ++ each sep flat xs) ++ b ∷ r) =
        ap (λ (u : List ℕ). u ++ b ∷ r) (spells-append σ (flat x) (sep ∷ (flat z ++ each sep flat xs)))
        ∙ append_assoc (spells σ (flat x)) (spells σ (sep ∷ (flat z ++ each sep flat xs))) (b ∷ r)
        ∙ ap (λ (u : List ℕ). spells σ (flat x) ++ ((u ++ spells σ (flat z ++ each sep flat xs)) ++ b ∷ r)) one in
        rw (append_assoc (row x n) (rows n row z xs k) cs)
        (cov x a o n (spells σ (flat z ++ each sep flat xs) ++ b ∷ r) (rows n row z xs k ++ cs) (all_left (Reads σ) (flat x) _ h) (kinds m.0) two (d ∙ q)
        (λ p f. rw (ne_eqb n 5 five) (covers-rows z xs p b k r cs m.1 e l f rest)))

    covers-ne : Covers (separated sep flat) (row_ne n row)
    unfolding Covers
    covers-ne (ne x xs) = covers-rows x xs

  covers-r : Covers flat_r row_r
  covers-r = covers-ne flat_c row_c covers-c comp σ.component 2 refl (λ h. h) (lit≤ tt) (λ z. omega arith)

  covers-e : Covers flat_e row_e
  covers-e = covers-ne flat_r row_r covers-r rep σ.repetition 3 refl (λ h. h) (lit≤ tt) (λ z. omega arith)

  -- the pieces of a printed segment lie on its row
  pub pieces-lie : T (fit σ) → (g : Segment) → T (all_pass (ok σ) (flat_s g)) → (a : ℕ) (r : List ℕ) → drop a s ≡ print_s σ g ++ r → Lies σ s (pieces_at σ s a) (row_s g)
  unfolding Covers
  pieces-lie f (segment x y z es) w a r d =
      let h : All (Reads σ) (separated elem flat_e (ne (tag_element x y z) es) ++ term ∷ []) = every-reads σ f (flat_s (segment x y z es)) w in
      let q : print_s σ (segment x y z es) ++ r ≡ spells σ (separated elem flat_e (ne (tag_element x y z) es)) ++ σ.terminator ∷ r =
      ap (λ (u : List ℕ). u ++ r) (spells-append σ (separated elem flat_e (ne (tag_element x y z) es)) (term ∷ []))
      ∙ append_assoc (spells σ (separated elem flat_e (ne (tag_element x y z) es))) (σ.terminator ∷ []) r in
      rw append-nil at
      (covers-ne flat_e row_e covers-e elem σ.element 4 refl (λ h. h) (lit≤ tt) (λ z. omega arith) (ne (tag_element x y z) es) a σ.terminator 5 r []
      (all_left (Reads σ) (separated elem flat_e (ne (tag_element x y z) es)) (term ∷ []) h) (ok-reads σ f term tt) (lit≤ tt) (d ∙ q) (λ p e. no_more))

-- ---- the accessors on cells

abbrev element_at_c : ℕ → List Cell → List Cell
element_at_c zero cs = cs
element_at_c (suc e) [] = []
element_at_c (suc e) (cell c k ∷ cs) = cond (eqb k 4) (element_at_c e cs) (element_at_c (suc e) cs)

abbrev component_at_c : ℕ → List Cell → Maybe Component
component_at_c n [] = none
component_at_c zero (cell c k ∷ cs) = some c
component_at_c (suc n) (cell c k ∷ cs) = cond (eqb k 2) (component_at_c n cs) none

abbrev components_c : List Cell → ℕ
components_c [] = 0
components_c (cell c k ∷ cs) = let r : ℕ = components_c cs in cond (eqb k 2) (suc r) 1

abbrev repeats_c : List Cell → Bool
repeats_c [] = false
repeats_c (cell c k ∷ cs) = cond (eqb k 3) true (cond (eqb k 2) (repeats_c cs) false)

abbrev elements_c : List Cell → ℕ
elements_c [] = 0
elements_c (cell c k ∷ cs) = let r : ℕ = elements_c cs in cond (eqb k 4) (suc r) r

abbrev any_repeats_c : List Cell → Bool
any_repeats_c [] = false
any_repeats_c (cell c k ∷ cs) = cond (eqb k 3) true (any_repeats_c cs)

-- a span has the octets of the component that is there, printed well; or there is none
pub data SpanIs (σ : Service) (s : List ℕ) : Option (ℕ × ℕ) → Maybe Component → Type 0 where
  no_span : SpanIs σ s None none
  that-span : {x z : ℕ} {c : Component} → slice x z s ≡ spells σ (flat_c c) → All (Reads σ) (flat_c c) → SpanIs σ s (Some (x, z)) (some c)

-- ---- pieces that lie on cells answer as these do

module _ (σ : Service) (s : List ℕ) where
  lie-element : (e : ℕ) {ps : List Piece} {cs : List Cell} → Lies σ s ps cs → Lies σ s (at_element e ps) (element_at_c e cs)
  lie-element zero l = l
  lie-element (suc e) no_more = no_more
  lie-element (suc e) (one_more {k = k} {ps = ps} {cs = cs} h w l) = by (eqb k 4) (lie-element e l) (lie-element (suc e) l)
    where
      by : (t : Bool) → Lies σ s (at_element e ps) (element_at_c e cs) → Lies σ s (at_element (suc e) ps) (element_at_c (suc e) cs)
          → Lies σ s (cond t (at_element e ps) (at_element (suc e) ps)) (cond t (element_at_c e cs) (element_at_c (suc e) cs))
      by true a b = a
      by false a b = b

  lie-component : (n : ℕ) {ps : List Piece} {cs : List Cell} → Lies σ s ps cs → SpanIs σ s (at_component n ps) (component_at_c n cs)
  lie-component zero no_more = no_span
  lie-component (suc n) no_more = no_span
  lie-component zero (one_more h w l) = that-span h w
  lie-component (suc n) (one_more {k = k} {ps = ps} {cs = cs} h w l) = by (eqb k 2) (lie-component n l)
    where
      by : (t : Bool) → SpanIs σ s (at_component n ps) (component_at_c n cs) → SpanIs σ s (cond t (at_component n ps) None) (cond t (component_at_c n cs) none)
      by true a = a
      by false a = no_span

  lie-components : {ps : List Piece} {cs : List Cell} → Lies σ s ps cs → components ps ≡ components_c cs
  lie-components no_more = refl
  lie-components (one_more {k = k} h w l) = ap (λ (n : ℕ). cond (eqb k 2) (suc n) 1) (lie-components l)

  lie-repeats : {ps : List Piece} {cs : List Cell} → Lies σ s ps cs → repeats ps ≡ repeats_c cs
  lie-repeats no_more = refl
  lie-repeats (one_more {k = k} h w l) = ap (λ (t : Bool). cond (eqb k 3) true (cond (eqb k 2) t false)) (lie-repeats l)

  lie-elements : {ps : List Piece} {cs : List Cell} → Lies σ s ps cs → elements ps ≡ elements_c cs
  lie-elements no_more = refl
  lie-elements (one_more {k = k} h w l) = ap (λ (n : ℕ). cond (eqb k 4) (suc n) n) (lie-elements l)

  lie-any : {ps : List Piece} {cs : List Cell} → Lies σ s ps cs → any_repeats ps ≡ any_repeats_c cs
  lie-any no_more = refl
  lie-any (one_more {k = k} h w l) = ap (λ (t : Bool). cond (eqb k 3) true t) (lie-any l)

-- ---- and cells as the tree does

-- an answer that goes over a row as over its last cell
module _ {B : Type 0} (ask : List Cell → B) (step : ℕ → List Cell → B) where
  abbrev Over : {A : Type 0} → (A → ℕ → List Cell) → Type 0
  Over {A} row = (x : A) (n : ℕ) (cs : List Cell) → ask (row x n ++ cs) ≡ step n cs

  over-rows : {A : Type 0} (row : A → ℕ → List Cell) → Over row → (k : ℕ) → ((cs : List Cell) → step k cs ≡ ask cs) → (x : A) (xs : List A) (n : ℕ) (cs : List Cell)
      → ask (rows k row x xs n ++ cs) ≡ step n cs
  over-rows row h k i x [] n cs = h x n cs
  over-rows row h k i x (z ∷ xs) n cs =
      ap ask (append_assoc (row x k) (rows k row z xs n) cs) ∙ h x k (rows k row z xs n ++ cs) ∙ i (rows k row z xs n ++ cs) ∙ over-rows row h k i z xs n cs

  over-ne : {A : Type 0} (row : A → ℕ → List Cell) → Over row → (k : ℕ) → ((cs : List Cell) → step k cs ≡ ask cs) → Over (row_ne k row)
  over-ne row h k i (ne x xs) n cs = over-rows row h k i x xs n cs

  over-e : Over row_c → ((cs : List Cell) → step 2 cs ≡ ask cs) → ((cs : List Cell) → step 3 cs ≡ ask cs) → Over row_e
  over-e h i j = over-ne row_r (over-ne row_c h 2 i) 3 j

-- how many elements
elements-over : (x : Element) (n : ℕ) (cs : List Cell) → elements_c (row_e x n ++ cs) ≡ cond (eqb n 4) (suc (elements_c cs)) (elements_c cs)
elements-over = over-e elements_c (λ n cs. cond (eqb n 4) (suc (elements_c cs)) (elements_c cs)) (λ x n cs. refl) (λ cs. refl) (λ cs. refl)

elements-tree : (x : Element) (es : List Element) → elements_c (rows 4 row_e x es 5) ≡ length es
elements-tree x [] = ap elements_c (sym (append-nil (row_e x 5))) ∙ elements-over x 5 []
elements-tree x (z ∷ es) = elements-over x 4 (rows 4 row_e z es 5) ∙ ap suc (elements-tree z es)

-- the cells from element e on
element-over : (e : ℕ) (x : Element) (n : ℕ) (cs : List Cell) → element_at_c (suc e) (row_e x n ++ cs) ≡ cond (eqb n 4) (element_at_c e cs) (element_at_c (suc e) cs)
element-over e =
    over-e (element_at_c (suc e)) (λ n cs. cond (eqb n 4) (element_at_c e cs) (element_at_c (suc e) cs)) (λ x n cs. refl) (λ cs. refl) (λ cs. refl)

-- an answer that is read off the element that starts here
module _ {B : Type 0} (ask : List Cell → B) (told : Maybe Element → B) (empty : ask [] ≡ told none)
    (starts : (x : Element) (n : ℕ) (cs : List Cell) → 4 ≤ n → ask (row_e x n ++ cs) ≡ told (some x)) where
  element-tree : (e : ℕ) (x : Element) (es : List Element) → ask (element_at_c e (rows 4 row_e x es 5)) ≡ told (get_elem? (x ∷ es) e)
  element-tree zero x [] = ap ask (sym (append-nil (row_e x 5))) ∙ starts x 5 [] (lit≤ tt)
  element-tree zero x (z ∷ es) = starts x 4 (rows 4 row_e z es 5) (lit≤ tt)
  element-tree (suc e) x [] = ap (λ (cs : List Cell). ask (element_at_c (suc e) cs)) (sym (append-nil (row_e x 5))) ∙ ap ask (element-over e x 5 []) ∙ empty
  element-tree (suc e) x (z ∷ es) = ap ask (element-over e x 4 (rows 4 row_e z es 5)) ∙ element-tree e z es

-- what is read off an element's first repeat: that one is ended by no component separator
module _ {B : Type 0} (ask : List Cell → B) (told : Repeat → B)
    (first : (c : Component) (ds : List Component) (n : ℕ) (cs : List Cell) → (n ≡ 2 → ⊥) → ask (rows 2 row_c c ds n ++ cs) ≡ told (ne c ds)) where
  repeat-starts : (x : Element) (n : ℕ) (cs : List Cell) → 4 ≤ n → ask (row_e x n ++ cs) ≡ told (first_repeat x)
  repeat-starts (ne (ne c ds) []) n cs h = first c ds n cs (λ z. omega arith)
  repeat-starts (ne (ne c ds) (q ∷ qs)) n cs h =
      ap ask (append_assoc (rows 2 row_c c ds 3) (rows 3 row_r q qs n) cs) ∙ first c ds 3 (rows 3 row_r q qs n ++ cs) (λ z. omega arith)

components-first : (c : Component) (ds : List Component) (n : ℕ) (cs : List Cell) → (n ≡ 2 → ⊥) → components_c (rows 2 row_c c ds n ++ cs) ≡ length (components_in (ne c ds))
components-first c [] n cs h = rw (ne_eqb n 2 h)
components-first c (d ∷ ds) n cs h = ap suc (components-first d ds n cs h)

component-first : (m : ℕ) (c : Component) (ds : List Component) (n : ℕ) (cs : List Cell) → (n ≡ 2 → ⊥)
    → component_at_c m (rows 2 row_c c ds n ++ cs) ≡ get_elem? (components_in (ne c ds)) m
component-first zero c [] n cs h = refl
component-first zero c (d ∷ ds) n cs h = refl
component-first (suc m) c [] n cs h = rw (ne_eqb n 2 h)
component-first (suc m) c (d ∷ ds) n cs h = component-first m d ds n cs h

repeats-first : (c : Component) (ds : List Component) (n : ℕ) (cs : List Cell) → (n ≡ 2 → ⊥) → repeats_c (rows 2 row_c c ds n ++ cs) ≡ cond (eqb n 3) true false
repeats-first c [] n cs h = rw (ne_eqb n 2 h)
repeats-first c (d ∷ ds) n cs h = repeats-first d ds n cs h

repeats-starts : (x : Element) (n : ℕ) (cs : List Cell) → 4 ≤ n → repeats_c (row_e x n ++ cs) ≡ repeats_in x
repeats-starts (ne (ne c ds) []) n cs h = repeats-first c ds n cs (λ z. omega arith) ∙ rw (ne_eqb n 3 (λ z. omega arith))
repeats-starts (ne (ne c ds) (q ∷ qs)) n cs h =
    ap repeats_c (append_assoc (rows 2 row_c c ds 3) (rows 3 row_r q qs n) cs) ∙ repeats-first c ds 3 (rows 3 row_r q qs n ++ cs) (λ z. omega arith)

any-repeat : (r : Repeat) (n : ℕ) (cs : List Cell) → any_repeats_c (row_r r n ++ cs) ≡ cond (eqb n 3) true (any_repeats_c cs)
any-repeat = over-ne any_repeats_c (λ n cs. cond (eqb n 3) true (any_repeats_c cs)) row_c (λ x n cs. refl) 2 (λ cs. refl)

any-starts : (x : Element) (n : ℕ) (cs : List Cell) → 4 ≤ n → any_repeats_c (row_e x n ++ cs) ≡ cond (repeats_in x) true (any_repeats_c cs)
any-starts (ne r []) n cs h = any-repeat r n cs ∙ rw (ne_eqb n 3 (λ z. omega arith))
any-starts (ne r (q ∷ qs)) n cs h = ap any_repeats_c (append_assoc (row_r r 3) (rows 3 row_r q qs n) cs) ∙ any-repeat r 3 (rows 3 row_r q qs n ++ cs)

any-tree : (x : Element) (es : List Element) → any_repeats_c (rows 4 row_e x es 5) ≡ any_repeats_in (x ∷ es)
any-tree x [] = ap any_repeats_c (sym (append-nil (row_e x 5))) ∙ any-starts x 5 [] (lit≤ tt)
any-tree x (z ∷ es) = any-starts x 4 (rows 4 row_e z es 5) (lit≤ tt) ∙ ap (λ (t : Bool). cond (repeats_in x) true t) (any-tree z es)

-- ---- (c): where a segment's printing stands at a, everything that is asked of the octets there has the tree's answer

pub record Agrees (σ : Service) (s : List ℕ) (a : ℕ) (g : Segment) : Type 0 where
  pub end : end_at σ s a ≡ Some (a + (length (print_s σ g) - 1))
  pub tag : tag_of σ (drop a s) ≡ tag_in g
  pub element-count : elements (pieces_at σ s a) ≡ count_elements g
  pub component-count : (e : ℕ) → components (at_element e (pieces_at σ s a)) ≡ count_of (get_elem? (elements_in g) e)
  pub element-repeats : (e : ℕ) → repeats (at_element e (pieces_at σ s a)) ≡ repeats_of (get_elem? (elements_in g) e)
  pub any-repeats : any_repeats (pieces_at σ s a) ≡ any_repeats_in (elements_in g)
  pub component : (e c : ℕ) → SpanIs σ s (component_at σ s a e c) (component_in g e c)
  pub component-content : (e c : ℕ) → content σ.release (part_of s (component_at σ s a e c)) ≡ content_of (component_in g e c)

span-content : (σ : Service) (s : List ℕ) {x : Option (ℕ × ℕ)} {o : Maybe Component} → SpanIs σ s x o → content σ.release (part_of s x) ≡ content_of o
span-content σ s no_span = ap (content σ.release) (slice_empty 0 s)
span-content σ s (that-span {c = c} h w) = ap (content σ.release) h ∙ content-print σ c w

-- one segment's symbols may all be written
pub alone : (σ : Service) (g : Segment) → T (well σ (g ∷ [])) → T (all_pass (ok σ) (flat_s g))
alone σ g w = subst (λ (ys : List Symbol). T (all_pass (ok σ) ys)) (append-nil (flat_s g)) (and_right (all_pass ok_tag (g ∷ [])) (all_pass (ok σ) (flat_s g ++ [])) w)

pub bridge : (σ : Service) → T (fit σ) → (s : List ℕ) (a : ℕ) (g : Segment) (r : List ℕ) → T (well σ (g ∷ [])) → drop a s ≡ print_s σ g ++ r → Agrees σ s a g
bridge σ f s a (segment x y z es) r w d =
    let o : T (all_pass (ok σ) (flat_s (segment x y z es))) = alone σ (segment x y z es) w in
    let l : Lies σ s (pieces_at σ s a) (row_s (segment x y z es)) = pieces-lie σ s f (segment x y z es) o a r d in
    let part : (e c : ℕ) → SpanIs σ s (component_at σ s a e c) (component_in (segment x y z es) e c) =
    λ e c. rw (parts e c) at (lie-component σ s c (lie-element σ s e l)) in
    record {
      end = ap (λ (u : List ℕ). stop_from σ 5 false u a) d ∙ segment-end σ f (segment x y z es) o r a;
      tag = ap (tag_of σ) d ∙ tag-print σ f x y z es w r;
      element-count = lie-elements σ s l ∙ elements-tree (tag_element x y z) es;
      component-count = λ e. lie-components σ s (lie-element σ s e l)
          ∙ element-tree components_c count_of refl (repeat-starts components_c (λ q. length (components_in q)) components-first) e (tag_element x y z) es;
      element-repeats = λ e. lie-repeats σ s (lie-element σ s e l) ∙ element-tree repeats_c repeats_of refl repeats-starts e (tag_element x y z) es;
      any-repeats = lie-any σ s l ∙ any-tree (tag_element x y z) es;
      component = part;
      component-content = λ e c. span-content σ s (part e c);
    }
  where
    parts : (e c : ℕ) → component_at_c c (element_at_c e (rows 4 row_e (tag_element x y z) es 5)) ≡ component_of (get_elem? (tag_element x y z ∷ es) e) c
    parts e c = element-tree (component_at_c c) (λ q. component_of q c) (none-there c) (repeat-starts (component_at_c c) (λ q. get_elem? (components_in q) c) (component-first c)) e (tag_element x y z) es
      where
        none-there : (c : ℕ) → component_at_c c [] ≡ none
        none-there zero = refl
        none-there (suc c) = refl
