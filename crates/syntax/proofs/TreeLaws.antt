-- Laws of printed trees: a well-formed symbol reads as itself; the scanner, the content and the tag of what is printed.
use Rattle.std.specs.Prelude.{ℕ, ◌+◌, ◌-◌, ◌≤◌, ◌<◌, List, [], ◌∷◌, ◌++◌, ◌≡◌, refl, Bool, true, false, cond, not, ◌&&◌, ◌||◌, T, eqb, leb, length, Some}
use Rattle.std.proofs.Common.{add-one, arith, append_assoc, ap, sym, ◌∙◌, eq-eqb, ne_eqb, leb→le, eqb→eq, lit<, lit≤, length-append}
use Rattle.std.proofs.Math.Numerals.{add-two}
use Rattle.std.proofs.lemmas.Bool.{false≢true, lt-leb}
use Rattle.syntax.specs.Octets.{within, all_pass}
use Rattle.syntax.specs.Service.{servant, repetition_differs, differ, fit, kind_of}
use Rattle.syntax.specs.Repertoire.{tag_octet}
use Rattle.syntax.specs.Cutting.{stop_from, tag_of}
use Rattle.syntax.specs.Content.{releases, content}
use Rattle.syntax.specs.Tree.{Octet, plain, freed, ne, Component, Repeat, Element, Segment, segment, Symbol, tok, comp, rep, elem, term, each, separated, flat_c, flat_r, flat_e, tag_element, flat_s, flat, spell, spells, print_s, print, octet_in, content_in, ok, ok_tag, well}
use Rattle.syntax.specs.declared.Service.{Service}

-- ---- tests

-- of two tests passed, the first
pub and_left : (a b : Bool) → T (a && b) → T a
and_left true b h = tt
and_left false b h = h

-- of two tests passed, the second
pub and_right : (a b : Bool) → T (a && b) → T b
and_right true b h = h
and_right false b h = absurd h

-- two tests passed, passed together
pub and_both : (a b : Bool) → T a → T b → T (a && b)
and_both true b h k = k
and_both false b h k = absurd h

-- a test that is not passed
pub is_true : (b : Bool) → T b → b ≡ true
is_true true h = refl
is_true false h = absurd h

pub off : (a : Bool) → T (not a) → a ≡ false
off true h = absurd h
off false h = refl

other : (a b : ℕ) → T (not (eqb a b)) → eqb a b ≡ false
other a b h = off (eqb a b) h

self : (n : ℕ) → eqb n n ≡ true
self n = eq-eqb n n refl

unless : (a b : Bool) → T (cond a true b) → T (not a) → T b
unless true b h n = absurd n
unless false b h n = h

twice : (a : Bool) → T (not (not a)) → T a
twice true h = tt
twice false h = h

-- ---- a symbol that may be written reads as itself

-- the kind that a symbol is printed as
abbrev pub sym_kind : Symbol → ℕ
sym_kind (tok (plain b)) = 1
sym_kind (tok (freed b)) = 0
sym_kind comp = 2
sym_kind rep = 3
sym_kind elem = 4
sym_kind term = 5

-- the first octet of a symbol
abbrev pub lead : Service → Symbol → ℕ
lead σ (tok (plain b)) = b
lead σ (tok (freed b)) = σ.release
lead σ comp = σ.component
lead σ rep = σ.repetition
lead σ elem = σ.element
lead σ term = σ.terminator

-- the first octet of a symbol is of the symbol's kind
abbrev pub Reads : Service → Symbol → Type 0
Reads σ y = kind_of σ (lead σ y) ≡ sym_kind y

-- each element of a list has the property
abbrev pub All : {A : Type 0} → (A → Type 0) → List A → Type 0
All P [] = Unit {0}
All P (a ∷ r) = P a × All P r

servant-space : (b : ℕ) → T (servant b) → eqb b 32 ≡ false
servant-space b h =
    let k : T (within 33 126 b) = search (and_left, and_right) in
    let l : 33 ≤ b = leb→le 33 b (and_left (leb 33 b) (leb b 126) k) in
    ne_eqb b 32 (λ e. omega (arith, l, e))

module _ (σ : Service) (d : T (fit σ)) where
  -- a symbol that may be written reads as itself
  pub ok-reads : (y : Symbol) → T (ok σ y) → Reads σ y
  ok-reads (tok (plain b)) h = eqb→eq (kind_of σ b) 1 (twice (eqb (kind_of σ b) 1) h)
  ok-reads (tok (freed b)) h = search (other, self)
  ok-reads comp h = let k : T (differ σ) = search (and_left, and_right) in search (other, self, servant-space, and_left, and_right)
  ok-reads rep h =
      let k : T (repetition_differs σ) = unless (eqb σ.repetition 32) (repetition_differs σ) (search (and_left, and_right)) h in
      search (other, self, and_left, and_right)
  ok-reads elem h =
      let k : T (differ σ) = search (and_left, and_right) in
      let r : T (not (eqb σ.terminator σ.release) && not (eqb σ.element σ.release)) = search (and_left, and_right) in
      search (other, self, servant-space, and_left, and_right)
  ok-reads term h = let k : T (differ σ) = search (and_left, and_right) in search (other, self, servant-space, and_left, and_right)

  -- so do symbols that may be written
  pub every-reads : (ys : List Symbol) → T (all_pass (ok σ) ys) → All (Reads σ) ys
  every-reads [] h = tt
  every-reads (y ∷ ys) h =
      (ok-reads y (and_left (ok σ y) (all_pass (ok σ) ys) h), every-reads ys (and_right (ok σ y) (all_pass (ok σ) ys) h))

  -- and all symbols of well-formed segments
  pub well-reads : (gs : List Segment) → T (well σ gs) → All (Reads σ) (flat gs)
  well-reads gs h = every-reads (flat gs) (and_right (all_pass ok_tag gs) (all_pass (ok σ) (flat gs)) h)

-- ---- lists of symbols

-- symbols one after the other are spelled one after the other
pub spells-append : (σ : Service) (xs ys : List Symbol) → spells σ (xs ++ ys) ≡ spells σ xs ++ spells σ ys
spells-append σ [] ys = refl
spells-append σ (x ∷ xs) ys =
    ap (λ (o : List ℕ). spell σ x ++ o) (spells-append σ xs ys) ∙ sym (append_assoc (spell σ x) (spells σ xs) (spells σ ys))

-- a segment before others is printed before them
pub print-cons : (σ : Service) (g : Segment) (gs : List Segment) → print σ (g ∷ gs) ≡ print_s σ g ++ print σ gs
print-cons σ g gs = spells-append σ (flat_s g) (flat gs)

module _ {A : Type 0} (P : A → Type 0) where
  -- what holds of two lists holds of them joined
  pub all_append : (xs ys : List A) → All P xs → All P ys → All P (xs ++ ys)
  all_append [] ys h k = k
  all_append (x ∷ xs) ys h k = (h.0, all_append xs ys h.1 k)

  -- what holds of a joined list holds of its left part
  pub all_left : (xs ys : List A) → All P (xs ++ ys) → All P xs
  all_left [] ys h = tt
  all_left (x ∷ xs) ys h = (h.0, all_left xs ys h.1)

  -- and of its right part
  pub all_right : (xs ys : List A) → All P (xs ++ ys) → All P ys
  all_right [] ys h = h
  all_right (x ∷ xs) ys h = all_right xs ys h.1

module _ (P : Symbol → Type 0) where
  all-each : {A : Type 0} (sep : Symbol) (flat : A → List Symbol) → P sep → ((a : A) → All P (flat a)) → (l : List A) → All P (each sep flat l)
  all-each sep flat p h [] = tt
  all-each sep flat p h (a ∷ l) = (p, all_append P (flat a) (each sep flat l) (h a) (all-each sep flat p h l))

  -- what holds of every data octet holds of a component's symbols
  pub all_c : ((t : Octet) → P (tok t)) → (c : Component) → All P (flat_c c)
  all_c p [] = tt
  all_c p (t ∷ c) = (p t, all_c p c)

  -- if it holds of `comp` too, of a repeat's
  pub all_r : ((t : Octet) → P (tok t)) → P comp → (r : Repeat) → All P (flat_r r)
  all_r p q (ne c cs) = all_append P (flat_c c) (each comp flat_c cs) (all_c p c) (all-each comp flat_c q (all_c p) cs)

  -- if of `rep` too, of an element's
  pub all_e : ((t : Octet) → P (tok t)) → P comp → P rep → (e : Element) → All P (flat_e e)
  all_e p q r (ne x xs) = all_append P (flat_r x) (each rep flat_r xs) (all_r p q x) (all-each rep flat_r r (all_r p q) xs)

  -- if of `elem` too, of the elements of a segment
  pub all_es : ((t : Octet) → P (tok t)) → P comp → P rep → P elem → (es : List Element) → All P (each elem flat_e es)
  all_es p q r s = all-each elem flat_e s (all_e p q r)

-- ---- the scanner on printed symbols

module _ (σ : Service) (n : ℕ) (two : 2 ≤ n) where
  pass-sym : (y : Symbol) (s : List ℕ) (i : ℕ) → Reads σ y → sym_kind y < n →
      stop_from σ n false (spell σ y ++ s) i ≡ stop_from σ n false s (i + length (spell σ y))
  pass-sym (tok (plain b)) s i h l = rw (add-one, h, lt-leb n 1 l)
  pass-sym (tok (freed b)) s i h l = rw (add-two, h, lt-leb n 0 l, lt-leb n 1 two)
  pass-sym comp s i h l = rw (add-one, h, lt-leb n 2 l)
  pass-sym rep s i h l = rw (add-one, h, lt-leb n 3 l)
  pass-sym elem s i h l = rw (add-one, h, lt-leb n 4 l)
  pass-sym term s i h l = rw (add-one, h, lt-leb n 5 l)

  -- the scanner for kind n passes symbols below n
  pub pass : (ys : List Symbol) (s : List ℕ) (i : ℕ) → All (Reads σ) ys → All (λ y. sym_kind y < n) ys →
      stop_from σ n false (spells σ ys ++ s) i ≡ stop_from σ n false s (i + length (spells σ ys))
  pass [] s i h l = ap (stop_from σ n false s) (omega arith)
  pass (y ∷ ys) s i h l =
      ap (λ (o : List ℕ). stop_from σ n false o i) (append_assoc (spell σ y) (spells σ ys) s)
      ∙ pass-sym y (spells σ ys ++ s) i h.0 l.0 ∙ pass ys s (i + length (spell σ y)) h.1 l.1
      ∙ ap (stop_from σ n false s) (omega (arith, length-append (spell σ y) (spells σ ys)))

abbrev body : Segment → List Symbol
body (segment a b c es) = separated elem flat_e (ne (tag_element a b c) es)

body-flat : (g : Segment) → flat_s g ≡ body g ++ term ∷ []
body-flat (segment a b c es) = refl

tok-low : (t : Octet) → sym_kind (tok t) < 5
tok-low (plain b) = lit< tt
tok-low (freed b) = lit< tt

body-low : (g : Segment) → All (λ y. sym_kind y < 5) (body g)
body-low (segment a b c es) = (lit< tt, (lit< tt, (lit< tt, all_es (λ y. sym_kind y < 5) tok-low (lit< tt) (lit< tt) (lit< tt) es)))

-- the first unreleased terminator in a printed segment, whatever follows, is its last octet
pub segment-end : (σ : Service) → T (fit σ) → (g : Segment) → T (all_pass (ok σ) (flat_s g)) → (s : List ℕ) (i : ℕ) →
    stop_from σ 5 false (print_s σ g ++ s) i ≡ Some (i + (length (print_s σ g) - 1))
segment-end σ d g w s i =
    let k : All (Reads σ) (body g ++ term ∷ []) = every-reads σ d (body g ++ term ∷ []) (rw body-flat at w) in
    let b : All (Reads σ) (body g) = all_left (Reads σ) (body g) (term ∷ []) k in
    let e : print_s σ g ≡ spells σ (body g) ++ (σ.terminator ∷ []) = ap (spells σ) (body-flat g) ∙ spells-append σ (body g) (term ∷ []) in
    let n : length (print_s σ g) ≡ length (spells σ (body g)) + 1 = ap length e ∙ length-append (spells σ (body g)) (σ.terminator ∷ []) in
    ap (λ (o : List ℕ). stop_from σ 5 false (o ++ s) i) e
    ∙ ap (λ (o : List ℕ). stop_from σ 5 false o i) (append_assoc (spells σ (body g)) (σ.terminator ∷ []) s)
    ∙ pass σ 5 (lit≤ tt) (body g) (σ.terminator ∷ s) i b (body-low g)
    ∙ stop-term (i + length (spells σ (body g)))
    ∙ ap Some (omega arith)
  where
    stop-term : (j : ℕ) → stop_from σ 5 false (σ.terminator ∷ s) j ≡ Some j
    stop-term j = rw (ok-reads σ d term tt)

-- ---- the content of a printed component

releases-level : (z r t e c p : Bool) → cond z false r ≡ eqb (cond z 1 (cond r 0 (cond t 5 (cond e 4 (cond c 2 (cond p 3 1)))))) 0
releases-level true r t e c p = refl
releases-level false true t e c p = refl
releases-level false false true e c p = refl
releases-level false false false true c p = refl
releases-level false false false false true p = refl
releases-level false false false false false true = refl
releases-level false false false false false false = refl

-- an octet releases just where its kind is 0
pub releases-kind : (σ : Service) (b : ℕ) → releases σ.release b ≡ eqb (kind_of σ b) 0
releases-kind σ b =
    releases-level (eqb b 32) (eqb b σ.release) (eqb b σ.terminator) (eqb b σ.element) (eqb b σ.component) (eqb b σ.repetition)

content-tok : (σ : Service) (t : Octet) (s : List ℕ) → Reads σ (tok t) → content σ.release (spell σ (tok t) ++ s) ≡ octet_in t ∷ content σ.release s
content-tok σ (plain b) s h = rw (releases-kind σ b ∙ ap (λ (k : ℕ). eqb k 0) h)
content-tok σ (freed b) s h = rw (releases-kind σ σ.release ∙ ap (λ (k : ℕ). eqb k 0) h)

-- the content of a printed component is what stands in it
pub content-print : (σ : Service) (c : Component) → All (Reads σ) (flat_c c) → content σ.release (spells σ (flat_c c)) ≡ content_in c
content-print σ [] h = refl
content-print σ (t ∷ c) h = content-tok σ t (spells σ (flat_c c)) h.0 ∙ ap (λ (r : List ℕ). octet_in t ∷ r) (content-print σ c h.1)

-- ---- the tag of a printed segment

tag-good : (p q r x : Bool) → T (p && q && r) → T x → (p && q && r && x) ≡ true
tag-good true true true true h k = refl
tag-good true true true false h k = absurd k
tag-good true true false x h k = absurd h
tag-good true false r x h k = absurd h
tag-good false q r x h k = absurd h

or_left : (x y : Bool) → x ≡ true → T (x || y)
or_left true y e = tt
or_left false y e = absurd (false≢true e)

or_right : (x y : Bool) → y ≡ true → T (x || y)
or_right true y e = tt
or_right false true e = tt
or_right false false e = absurd (false≢true e)

-- the tag of a printed segment, whatever follows, is its tag
pub tag-print : (σ : Service) → T (fit σ) → (a b c : ℕ) (es : List Element) → T (well σ (segment a b c es ∷ [])) → (s : List ℕ) →
    tag_of σ (print_s σ (segment a b c es) ++ s) ≡ Some (a, b, c)
tag-print σ d a b c es w s = by es
  where
    good : T (tag_octet a && tag_octet b && tag_octet c)
    good = and_left (ok_tag (segment a b c es)) true (and_left (ok_tag (segment a b c es) && true) (all_pass (ok σ) (flat (segment a b c es ∷ []))) w)

    by : (es : List Element) → tag_of σ (print_s σ (segment a b c es) ++ s) ≡ Some (a, b, c)
    by [] =
        rw (tag-good (tag_octet a) (tag_octet b) (tag_octet c) (eqb σ.terminator σ.element || eqb σ.terminator σ.terminator) good
        (or_right (eqb σ.terminator σ.element) (eqb σ.terminator σ.terminator) (self σ.terminator)))
    by (e ∷ es) =
        rw (tag-good (tag_octet a) (tag_octet b) (tag_octet c) (eqb σ.element σ.element || eqb σ.element σ.terminator) good
        (or_left (eqb σ.element σ.element) (eqb σ.element σ.terminator) (self σ.element)))
