-- The reader reads just the printings of well-formed segments; and every stretch that is cut with a good tag is such a printing.
use Rattle.std.specs.Prelude.{ℕ, zero, suc, ◌+◌, ◌-◌, ◌≤◌, ◌<◌, List, [], ◌∷◌, ◌++◌, ◌↔◌, ◌⊎◌, ◌≡◌, refl, Bool, true, false, cond, not, ◌&&◌, ◌||◌, T, eqb, leb, length, take, drop, Some, None, Option}
use Rattle.std.proofs.Common.{arith, append_assoc, append-nil, inl, inr, ⊎_elim, ap, sym, ◌∙◌, subst, true≢false, eqb-true, leb-true, leb-false, lit<, take-append-drop, drop_of_length-le}
use Rattle.std.proofs.Math.Option.{Option as Maybe, none, some, none-ne-some}
use Rattle.std.proofs.lemmas.Bool.{false≢true}
use Rattle.std.proofs.Math.Dec.{eqb-suc-zero}
use Rattle.std.proofs.lemmas.Option.{none-some, same_Some}
use Rattle.syntax.specs.Octets.{within, digit, capital, small, all_pass}
use Rattle.syntax.specs.Service.{servant, fit, kind_of, kind}
use Rattle.syntax.specs.Repertoire.{tag_octet}
use Rattle.syntax.specs.Cutting.{stop_from, end_at, tag_of}
use Rattle.syntax.specs.Tree.{plain, freed, ne, Component, Repeat, Element, Segment, segment, Symbol, tok, comp, rep, elem, term, each, flat_c, flat_r, flat_e, flat_s, flat, spell, spells, print_s, print, ok, ok_tag, well}
use Rattle.syntax.proofs.TreeLaws.{and_left, and_right, and_both, is_true, sym_kind, Reads, All, ok-reads, well-reads, print-cons, segment-end, tag-print}
use Rattle.syntax.specs.Reader.{Chain, over, left, open', push, emit, chain, cut, before, gathered, segments_of}
use Rattle.syntax.specs.declared.Service.{Service}

-- ---- what is printed is read

-- the chain of symbols
abbrev links : List Symbol → Chain
links [] = over
links (y ∷ ys) = push y (links ys)

chain-sym : (σ : Service) (y : Symbol) (s : List ℕ) → Reads σ y → chain σ false (spell σ y ++ s) ≡ push y (chain σ false s)
chain-sym σ (tok (plain b)) s h = rw h
chain-sym σ (tok (freed b)) s h = rw h
chain-sym σ comp s h = rw h
chain-sym σ rep s h = rw h
chain-sym σ elem s h = rw h
chain-sym σ term s h = rw h

chain-spells : (σ : Service) (ys : List Symbol) → All (Reads σ) ys → chain σ false (spells σ ys) ≡ links ys
chain-spells σ [] h = refl
chain-spells σ (y ∷ ys) h = chain-sym σ y (spells σ ys) h.0 ∙ ap (push y) (chain-spells σ ys h.1)

-- where the rest is a chain that is open at a level, a tree of that level before it is put there
link_c : (c : Component) (s : List Symbol) {cs : List Component} {rs : List Repeat} {es : List Element} {n : Chain}
    → links s ≡ open' [] cs rs es n → links (flat_c c ++ s) ≡ open' c cs rs es n
link_c [] s h = h
link_c (t ∷ c) s h = ap (push (tok t)) (link_c c s h)

link_cs : (cs : List Component) (s : List Symbol) {rs : List Repeat} {es : List Element} {n : Chain}
    → links s ≡ open' [] [] rs es n → links (each comp flat_c cs ++ s) ≡ open' [] cs rs es n
link_cs [] s h = h
link_cs (c ∷ cs) s h = ap (push comp) (ap links (append_assoc (flat_c c) _ s) ∙ link_c c _ (link_cs cs s h))

link_r : (c : Component) (cs : List Component) (s : List Symbol) {rs : List Repeat} {es : List Element} {n : Chain}
    → links s ≡ open' [] [] rs es n → links (flat_r (ne c cs) ++ s) ≡ open' c cs rs es n
link_r c cs s h = ap links (append_assoc (flat_c c) (each comp flat_c cs) s) ∙ link_c c _ (link_cs cs s h)

link_rs : (rs : List Repeat) (s : List Symbol) {es : List Element} {n : Chain}
    → links s ≡ open' [] [] [] es n → links (each rep flat_r rs ++ s) ≡ open' [] [] rs es n
link_rs [] s h = h
link_rs (ne c cs ∷ rs) s h = ap (push rep) (ap links (append_assoc (flat_r (ne c cs)) _ s) ∙ link_r c cs _ (link_rs rs s h))

link_e : (c : Component) (cs : List Component) (rs : List Repeat) (s : List Symbol) {es : List Element} {n : Chain}
    → links s ≡ open' [] [] [] es n → links (flat_e (ne (ne c cs) rs) ++ s) ≡ open' c cs rs es n
link_e c cs rs s h = ap links (append_assoc (flat_r (ne c cs)) (each rep flat_r rs) s) ∙ link_r c cs _ (link_rs rs s h)

link_es : (es : List Element) (s : List Symbol) {n : Chain}
    → links s ≡ open' [] [] [] [] n → links (each elem flat_e es ++ s) ≡ open' [] [] [] es n
link_es [] s h = h
link_es (ne (ne c cs) rs ∷ es) s h = ap (push elem) (ap links (append_assoc (flat_e (ne (ne c cs) rs)) _ s) ∙ link_e c cs rs _ (link_es es s h))

push-term : (n : Chain) → push term n ≡ open' [] [] [] [] n
push-term over = refl
push-term left = refl
push-term (open' c cs rs es n) = refl

-- the chain of segments
abbrev tree : List Segment → Chain
tree [] = over
tree (segment a b c es ∷ gs) = open' (plain a ∷ plain b ∷ plain c ∷ []) [] [] es (tree gs)

links-flat : (gs : List Segment) → links (flat gs) ≡ tree gs
links-flat [] = refl
links-flat (segment a b c es ∷ gs) =
    ap (λ (r : Chain). push (tok (plain a)) (push (tok (plain b)) (push (tok (plain c)) r)))
    (ap links (append_assoc (each elem flat_e es) (term ∷ []) (flat gs)) ∙ link_es es _ (ap (push term) (links-flat gs) ∙ push-term (tree gs)))

gathered-tree : (gs : List Segment) → T (all_pass ok_tag gs) → gathered (tree gs) ≡ some gs
gathered-tree [] h = refl
gathered-tree (segment a b c es ∷ gs) h =
    let t : (tag_octet a && tag_octet b && tag_octet c) ≡ true = is_true (ok_tag (segment a b c es)) (and_left (ok_tag (segment a b c es)) (all_pass ok_tag gs) h) in
    rw (t, gathered-tree gs (and_right (ok_tag (segment a b c es)) (all_pass ok_tag gs) h))

-- the reader reads the printing of well-formed segments as those segments
pub chain-print : (σ : Service) → T (fit σ) → (gs : List Segment) → T (well σ gs) → segments_of σ (print σ gs) ≡ some gs
chain-print σ d gs w =
    ap gathered (chain-spells σ (flat gs) (well-reads σ d gs w) ∙ links-flat gs)
    ∙ gathered-tree gs (and_left (all_pass ok_tag gs) (all_pass (ok σ) (flat gs)) w)

-- equal octets are equal segments: no input is the printing of two lists of well-formed segments
pub print-injective : (σ : Service) → T (fit σ) → (gs hs : List Segment) → T (well σ gs) → T (well σ hs) → print σ gs ≡ print σ hs → gs ≡ hs
print-injective σ d gs hs v w e =
    let k : some gs ≡ some hs = sym (chain-print σ d gs v) ∙ ap (segments_of σ) e ∙ chain-print σ d hs w in
    cc k

-- ---- what is read was printed

-- the octet that stands for a kind
abbrev octet_of : Service → ℕ → ℕ → ℕ
octet_of σ b zero = σ.release
octet_of σ b (suc zero) = b
octet_of σ b (suc (suc zero)) = σ.component
octet_of σ b (suc (suc (suc zero))) = σ.repetition
octet_of σ b (suc (suc (suc (suc zero)))) = σ.element
octet_of σ b (suc (suc (suc (suc (suc n))))) = σ.terminator

octet-of : (σ : Service) (b : ℕ) → octet_of σ b (kind_of σ b) ≡ b
octet-of σ b =
    go (eqb b 32) (eqb b σ.release) (eqb b σ.terminator) (eqb b σ.element) (eqb b σ.component) (eqb b σ.repetition) refl refl refl refl refl
  where
    go : (z r t e c p : Bool) → eqb b σ.release ≡ r → eqb b σ.terminator ≡ t → eqb b σ.element ≡ e → eqb b σ.component ≡ c → eqb b σ.repetition ≡ p
        → octet_of σ b (cond z 1 (cond r 0 (cond t 5 (cond e 4 (cond c 2 (cond p 3 1)))))) ≡ b
    go true r t e c p h h₁ h₂ h₃ h₄ = refl
    go false true t e c p h h₁ h₂ h₃ h₄ = sym (eqb-true _ _ h)
    go false false true e c p h h₁ h₂ h₃ h₄ = sym (eqb-true _ _ h₁)
    go false false false true c p h h₁ h₂ h₃ h₄ = sym (eqb-true _ _ h₂)
    go false false false false true p h h₁ h₂ h₃ h₄ = sym (eqb-true _ _ h₃)
    go false false false false false true h h₁ h₂ h₃ h₄ = sym (eqb-true _ _ h₄)
    go false false false false false false h h₁ h₂ h₃ h₄ = refl

-- a release and a repetition are no spaces
space-level : (z : Bool) (k : ℕ) → cond z 1 k ≡ 0 → z ≡ false
space-level true k h = absurd (omega arith)
space-level false k h = refl

space-level-3 : (z : Bool) (k : ℕ) → cond z 1 k ≡ 3 → z ≡ false
space-level-3 true k h = absurd (omega arith)
space-level-3 false k h = refl

up : (a : Bool) → a ≡ false → T (not a)
up true h = absurd (true≢false h)
up false h = tt

module _ (σ : Service) (b : ℕ) where
  release-there : kind_of σ b ≡ 0 → T (not (eqb σ.release 32))
  release-there h =
      let o : σ.release ≡ b = sym (ap (octet_of σ b) h) ∙ octet-of σ b in
      up (eqb σ.release 32) (ap (λ (x : ℕ). eqb x 32) o ∙ space-level (eqb b 32) _ h)

  repetition-there : kind_of σ b ≡ 3 → T (not (eqb σ.repetition 32))
  repetition-there h =
      let o : σ.repetition ≡ b = sym (ap (octet_of σ b) h) ∙ octet-of σ b in
      up (eqb σ.repetition 32) (ap (λ (x : ℕ). eqb x 32) o ∙ space-level-3 (eqb b 32) _ h)

-- nothing is left behind the last terminator
abbrev clean : Chain → Bool
clean over = true
clean left = false
clean (open' c cs rs es n) = clean n

-- the symbols of a chain
abbrev flat_n : Chain → List Symbol
flat_n over = []
flat_n left = []
flat_n (open' c cs rs es n) = flat_c c ++ (each comp flat_c cs ++ (each rep flat_r rs ++ (each elem flat_e es ++ term ∷ flat_n n)))

push-clean : (y : Symbol) (x : Chain) → T (clean (push y x)) → T (clean x) × (flat_n (push y x) ≡ y ∷ flat_n x)
push-clean (tok t) over h = absurd h
push-clean comp over h = absurd h
push-clean rep over h = absurd h
push-clean elem over h = absurd h
push-clean term over h = (tt, refl)
push-clean (tok t) left h = absurd h
push-clean comp left h = absurd h
push-clean rep left h = absurd h
push-clean elem left h = absurd h
push-clean term left h = absurd h
push-clean (tok t) (open' c cs rs es n) h = (h, refl)
push-clean comp (open' c cs rs es n) h = (h, simp append_assoc)
push-clean rep (open' c cs rs es n) h = (h, simp append_assoc)
push-clean elem (open' c cs rs es n) h = (h, simp append_assoc)
push-clean term (open' c cs rs es n) h = (h, refl)

-- a chain is well-formed and spelled by these octets
abbrev Spelled : Service → Chain → List ℕ → Type 0
Spelled σ x s = T (all_pass (ok σ) (flat_n x)) × (spells σ (flat_n x) ≡ s)

push-back : (σ : Service) (y : Symbol) (x : Chain) (s : List ℕ) → T (ok σ y) → T (clean (push y x)) → (T (clean x) → Spelled σ x s) → Spelled σ (push y x) (spell σ y ++ s)
push-back σ y x s o h k =
    let p = push-clean y x h in
    let q = k p.0 in
    (rw p.1 (and_both (ok σ y) (all_pass (ok σ) (flat_n x)) o q.0), ap (spells σ) p.1 ∙ ap (λ (l : List ℕ). spell σ y ++ l) q.1)

-- the octets, with the release before them where they start released
abbrev behind : Service → Bool → List ℕ → List ℕ
behind σ true s = σ.release ∷ s
behind σ false s = s

module _ (σ : Service) (b : ℕ) (s : List ℕ) (x : Chain) where
  emit-back : (k : ℕ) → kind_of σ b ≡ k → octet_of σ b k ≡ b → T (clean (emit false k b x)) → (T (clean x) → Spelled σ x (behind σ (eqb k 0) s))
      → Spelled σ (emit false k b x) (b ∷ s)
  emit-back zero e o h k = let q = k h in (q.0, q.1 ∙ ap (λ (a : ℕ). a ∷ s) o)
  emit-back (suc zero) e o h k = push-back σ (tok (plain b)) x s (rw e tt) h k
  emit-back (suc (suc zero)) e o h k = let q = push-back σ comp x s tt h k in (q.0, q.1 ∙ ap (λ (a : ℕ). a ∷ s) o)
  emit-back (suc (suc (suc zero))) e o h k = let q = push-back σ rep x s (repetition-there σ b e) h k in (q.0, q.1 ∙ ap (λ (a : ℕ). a ∷ s) o)
  emit-back (suc (suc (suc (suc zero)))) e o h k = let q = push-back σ elem x s tt h k in (q.0, q.1 ∙ ap (λ (a : ℕ). a ∷ s) o)
  emit-back (suc (suc (suc (suc (suc n))))) e o h k =
      let q = push-back σ term x s tt h (λ c. rw eqb-suc-zero at (k c)) in (q.0, q.1 ∙ ap (λ (a : ℕ). a ∷ s) o)

chain_back : (σ : Service) (f : Bool) (s : List ℕ) → (f ≡ true → T (not (eqb σ.release 32))) → T (clean (chain σ f s)) → Spelled σ (chain σ f s) (behind σ f s)
chain_back σ true [] r h = absurd h
chain_back σ false [] r h = (tt, refl)
chain_back σ true (b ∷ s) r h = push-back σ (tok (freed b)) (chain σ false s) s (r refl) h (chain_back σ false s (λ e. r refl))
chain_back σ false (b ∷ s) r h =
    emit-back σ b s (chain σ (eqb (kind_of σ b) 0) s) (kind_of σ b) refl (octet-of σ b) h
    (chain_back σ (eqb (kind_of σ b) 0) s (λ e. release-there σ b (eqb-true (kind_of σ b) 0 e)))

-- a segment that was cut is written as it stood
cond-some : (t : Bool) (g h : Segment) → cond t (some g) none ≡ some h → T t × (g ≡ h)
cond-some true g h e = (tt, cc)
cond-some false g h e = absurd (none-ne-some h e)

cut-flat : (c : Component) (cs : List Component) (rs : List Repeat) (es : List Element) (g : Segment) → cut c cs rs es ≡ some g
    → T (ok_tag g) × (flat_c c ++ (each comp flat_c cs ++ (each rep flat_r rs ++ (each elem flat_e es ++ term ∷ []))) ≡ flat_s g)
cut-flat c (d ∷ cs) rs es g e = absurd (none-ne-some g e)
cut-flat c [] (r ∷ rs) es g e = absurd (none-ne-some g e)
cut-flat [] [] [] es g e = absurd (none-ne-some g e)
cut-flat (t ∷ []) [] [] es g e = absurd (none-ne-some g e)
cut-flat (t ∷ u ∷ []) [] [] es g e = absurd (none-ne-some g e)
cut-flat (plain a ∷ plain b ∷ plain c ∷ []) [] [] es g e =
    let k = cond-some (tag_octet a && tag_octet b && tag_octet c) (segment a b c es) g e in (subst (λ (x : Segment). T (ok_tag x)) k.1 k.0, ap flat_s k.1)
cut-flat (plain a ∷ plain b ∷ freed c ∷ []) [] [] es g e = absurd (none-ne-some g e)
cut-flat (plain a ∷ freed b ∷ v ∷ []) [] [] es g e = absurd (none-ne-some g e)
cut-flat (freed a ∷ u ∷ v ∷ []) [] [] es g e = absurd (none-ne-some g e)
cut-flat (t ∷ u ∷ v ∷ w ∷ r) [] [] es g e = absurd (none-ne-some g e)

-- what is gathered from a chain is its symbols, and has good tags
abbrev Gathers : Chain → List Segment → Type 0
Gathers x gs = T (clean x) × (flat_n x ≡ flat gs) × T (all_pass ok_tag gs)

gather-back : (x : Chain) (gs : List Segment) → gathered x ≡ some gs → Gathers x gs
gather-back over gs e = let h : [] ≡ gs = cc in subst (λ (l : List Segment). Gathers over l) h (tt, refl, tt)
gather-back left gs e = absurd (none-ne-some gs e)
gather-back (open' c cs rs es n) gs e = by (cut c cs rs es) (gathered n) refl e (gather-back n)
  where
    by : (o : Maybe Segment) (q : Maybe (List Segment)) → cut c cs rs es ≡ o → before o q ≡ some gs → ((hs : List Segment) → q ≡ some hs → Gathers n hs)
        → Gathers (open' c cs rs es n) gs
    by none q h e ih = absurd (none-ne-some gs e)
    by (some g) none h e ih = absurd (none-ne-some gs e)
    by (some g) (some hs) h e ih =
        let l : g ∷ hs ≡ gs = cc in
        let r = ih hs refl in
        let k = cut-flat c cs rs es g h in
        let w : (flat_c c ++ (each comp flat_c cs ++ (each rep flat_r rs ++ (each elem flat_e es ++ term ∷ [])))) ++ flat hs ≡ flat_s g ++ flat hs
        = ap (λ (l : List Symbol). l ++ flat hs) k.1 in
        subst (λ (l : List Segment). Gathers (open' c cs rs es n) l) l
        (r.0, rw r.1 (simp append_assoc at w), and_both (ok_tag g) (all_pass ok_tag hs) k.0 r.2)

-- what the reader reads is well-formed, and its printing is the input
pub read_back : (σ : Service) → T (fit σ) → (s : List ℕ) (gs : List Segment) → segments_of σ s ≡ some gs → T (well σ gs) × (print σ gs ≡ s)
read_back σ d s gs e =
    let g = gather-back (chain σ false s) gs e in
    let k = chain_back σ false s (λ q. absurd (false≢true q)) g.0 in
    (and_both (all_pass ok_tag gs) (all_pass (ok σ) (flat gs)) g.2 (subst (λ (l : List Symbol). T (all_pass (ok σ) l)) g.1 k.0), sym (ap (spells σ) g.1) ∙ k.1)

-- an input is read as these segments just where they are well-formed and their printing is the input
pub segments-exact : (σ : Service) → T (fit σ) → (s : List ℕ) (gs : List Segment) → (segments_of σ s ≡ some gs) ↔ (T (well σ gs) × (print σ gs ≡ s))
segments-exact σ d s gs = (read_back σ d s gs, back)
  where
    back : T (well σ gs) × (print σ gs ≡ s) → segments_of σ s ≡ some gs
    back h = ap (segments_of σ) (sym h.1) ∙ chain-print σ d gs h.0

-- ---- what is cut was printed

clash : (w d c s : Bool) → T (d || c) → T (w && not d && not c && not s) → ⊥
clash true true c s h k = k
clash true false true s h k = k
clash true false false s h k = h
clash false d c s h k = k

-- a letter or digit is no service character
pub tag-data : (σ : Service) → T (fit σ) → (b : ℕ) → T (tag_octet b) → kind_of σ b ≡ 1
tag-data σ d b t =
    go (eqb b 32) (eqb b σ.release) (eqb b σ.terminator) (eqb b σ.element) (eqb b σ.component) (eqb b σ.repetition) refl refl refl refl refl refl
  where
    unlike : (x : ℕ) → T (servant x) → eqb b x ≡ true → ⊥
    unlike x h e =
        clash (within 33 126 b) (digit b) (capital b) (small b) t (subst (λ (y : ℕ). T (servant y)) (sym (eqb-true b x e)) h)

    in-force : (x : ℕ) → T (cond (eqb x 32) true (servant x)) → eqb b 32 ≡ false → eqb b x ≡ true → ⊥
    in-force x h z e =
        let f : eqb x 32 ≡ false = ap (λ (y : ℕ). eqb y 32) (sym (eqb-true b x e)) ∙ z in
        unlike x (rw f at h) e

    go : (z r t e c p : Bool) → eqb b 32 ≡ z → eqb b σ.release ≡ r → eqb b σ.terminator ≡ t → eqb b σ.element ≡ e → eqb b σ.component ≡ c → eqb b σ.repetition ≡ p
        → ◌≡◌ {A = ℕ} (cond z 1 (cond r 0 (cond t 5 (cond e 4 (cond c 2 (cond p 3 1)))))) 1
    go true r t e c p hz hr ht he hc hp = refl
    go false true t e c p hz hr ht he hc hp = absurd (in-force σ.release (search (and_left, and_right)) hz hr)
    go false false true e c p hz hr ht he hc hp = absurd (unlike σ.terminator (search (and_left, and_right)) ht)
    go false false false true c p hz hr ht he hc hp = absurd (unlike σ.element (search (and_left, and_right)) he)
    go false false false false true p hz hr ht he hc hp = absurd (unlike σ.component (search (and_left, and_right)) hc)
    go false false false false false true hz hr ht he hc hp = absurd (in-force σ.repetition (search (and_left, and_right)) hz hp)
    go false false false false false false hz hr ht he hc hp = refl

-- one segment, and nothing behind it
abbrev is_over : Chain → Bool
is_over over = true
is_over left = false
is_over (open' c cs rs es n) = false

abbrev single : Chain → Bool
single over = false
single left = false
single (open' c cs rs es n) = is_over n

push-single : (y : Symbol) (x : Chain) → sym_kind y < 5 → T (single x) → T (single (push y x))
push-single y over l h = absurd h
push-single y left l h = absurd h
push-single (tok t) (open' c cs rs es n) l h = h
push-single comp (open' c cs rs es n) l h = h
push-single rep (open' c cs rs es n) l h = h
push-single elem (open' c cs rs es n) l h = h
push-single term (open' c cs rs es n) l h = absurd (omega (arith, l))

emit-single : (f : Bool) (k b : ℕ) (x : Chain) → k < 5 → T (single x) → T (single (emit f k b x))
emit-single true k b x l h = push-single (tok (freed b)) x (lit< tt) h
emit-single false zero b x l h = h
emit-single false (suc zero) b x l h = push-single (tok (plain b)) x (lit< tt) h
emit-single false (suc (suc zero)) b x l h = push-single comp x (lit< tt) h
emit-single false (suc (suc (suc zero))) b x l h = push-single rep x (lit< tt) h
emit-single false (suc (suc (suc (suc zero)))) b x l h = push-single elem x (lit< tt) h
emit-single false (suc (suc (suc (suc (suc k))))) b x l h = absurd (omega (arith, l))

pub no_place : (e : ℕ) → None ≡ Some e → ⊥
no_place e h = let z : ◌≡◌ {A = ℕ} 0 1 = cc in omega arith

pub same_place : (i e : ℕ) → Some i ≡ Some e → i ≡ e
same_place i e h = cc

module _ (σ : Service) where
  -- the terminator opens a segment before what follows
  pub ends-here : (k b : ℕ) (s : List ℕ) → 5 ≤ k → emit false k b (chain σ (eqb k 0) s) ≡ open' [] [] [] [] (chain σ false s)
  ends-here zero b s l = absurd (omega (arith, l))
  ends-here (suc zero) b s l = absurd (omega (arith, l))
  ends-here (suc (suc zero)) b s l = absurd (omega (arith, l))
  ends-here (suc (suc (suc zero))) b s l = absurd (omega (arith, l))
  ends-here (suc (suc (suc (suc zero)))) b s l = absurd (omega (arith, l))
  ends-here (suc (suc (suc (suc (suc k))))) b s l = rw eqb-suc-zero (push-term (chain σ false s))

  last-single : (f : Bool) (b : ℕ) (s : List ℕ) → length s ≡ 0 → 5 ≤ kind σ f b → T (single (chain σ f (b ∷ s)))
  last-single f b (x ∷ s) l k = absurd (omega (arith, l))
  last-single true b [] l k = absurd (omega (arith, k))
  last-single false b [] l k = subst (λ (x : Chain). T (single x)) (sym (ends-here (kind_of σ b) b [] k)) tt

  -- octets that end in their first unreleased terminator are one segment
  stop-single : (f : Bool) (s : List ℕ) (i e : ℕ) → stop_from σ 5 f s i ≡ Some e → i + length s ≡ suc e → T (single (chain σ f s))
  stop-single f [] i e h l = absurd (no_place e h)
  stop-single f (b ∷ s) i e h l = by (leb 5 (kind σ f b)) refl h (stop-single (eqb (kind σ f b) 0) s (suc i) e)
    where
      by : (t : Bool) → leb 5 (kind σ f b) ≡ t → cond t (Some i) (stop_from σ 5 (eqb (kind σ f b) 0) s (suc i)) ≡ Some e
          → (stop_from σ 5 (eqb (kind σ f b) 0) s (suc i) ≡ Some e → suc i + length s ≡ suc e → T (single (chain σ (eqb (kind σ f b) 0) s)))
          → T (single (chain σ f (b ∷ s)))
      by true q h ih = let p : i ≡ e = same_place i e h in last-single f b s (omega (arith, l, p)) (leb-true 5 (kind σ f b) q)
      by false q h ih = emit-single f (kind σ f b) b (chain σ (eqb (kind σ f b) 0) s) (leb-false 5 (kind σ f b) q) (ih h (omega (arith, l)))

  -- the scanner stops at its place in the octets up to there as well
  stop-at : (n : ℕ) (f : Bool) (s : List ℕ) (i e : ℕ) → stop_from σ n f s i ≡ Some e
      → (k : ℕ) × (e ≡ i + k) × (stop_from σ n f (take (suc k) s) i ≡ Some e) × (length (take (suc k) s) ≡ suc k)
  stop-at n f [] i e h = absurd (no_place e h)
  stop-at n f (b ∷ s) i e h = by (leb n (kind σ f b)) refl h (stop-at n (eqb (kind σ f b) 0) s (suc i) e)
    where
      by : (t : Bool) → leb n (kind σ f b) ≡ t → cond t (Some i) (stop_from σ n (eqb (kind σ f b) 0) s (suc i)) ≡ Some e
          → (stop_from σ n (eqb (kind σ f b) 0) s (suc i) ≡ Some e
          → (k : ℕ) × (e ≡ suc i + k) × (stop_from σ n (eqb (kind σ f b) 0) (take (suc k) s) (suc i) ≡ Some e) × (length (take (suc k) s) ≡ suc k))
          → (k : ℕ) × (e ≡ i + k) × (stop_from σ n f (take (suc k) (b ∷ s)) i ≡ Some e) × (length (take (suc k) (b ∷ s)) ≡ suc k)
      by true q h ih = let p : i ≡ e = same_place i e h in (0, omega (arith, p), rw q h, refl)
      by false q h ih = let r = ih h in (suc r.0, omega (arith, r.1), rw q r.2, ap suc r.3)

-- a good tag: three letters or digits, then an element separator or the terminator
tag_is : (t : Bool) (x y z a b c : ℕ) → cond {A = Option (ℕ × ℕ × ℕ)} t (Some (x, y, z)) None ≡ Some (a, b, c) → T t × (x ≡ a) × (y ≡ b) × (z ≡ c)
tag_is true x y z a b c h = let w = same_Some (x, y, z) (a, b, c) h in (tt, ap (λ q. q.0) w, ap (λ q. q.1) w, ap (λ q. q.2) w)
tag_is false x y z a b c h = absurd (none-some _ h)

abbrev pub Tagged : Service → List ℕ → ℕ → ℕ → ℕ → Type 0
Tagged σ s a b c =
    (d : ℕ) × (r : List ℕ) × (a ∷ b ∷ c ∷ d ∷ r ≡ s) × T (tag_octet a && tag_octet b && tag_octet c && (eqb d σ.element || eqb d σ.terminator))

pub tag_split : (σ : Service) (s : List ℕ) (a b c : ℕ) → tag_of σ s ≡ Some (a, b, c) → Tagged σ s a b c
tag_split σ [] a b c h = absurd (tag_is false 0 0 0 a b c h).0
tag_split σ (x ∷ []) a b c h = absurd (tag_is false 0 0 0 a b c h).0
tag_split σ (x ∷ y ∷ []) a b c h = absurd (tag_is false 0 0 0 a b c h).0
tag_split σ (x ∷ y ∷ z ∷ []) a b c h = absurd (tag_is false 0 0 0 a b c h).0
tag_split σ (x ∷ y ∷ z ∷ d ∷ r) a b c h =
    let k = tag_is (tag_octet x && tag_octet y && tag_octet z && (eqb d σ.element || eqb d σ.terminator)) x y z a b c h in
    (d, r, cc (k.1, k.2, k.3), rw (← k.1, ← k.2, ← k.3) k.0)

elem-single : (x : Chain) → T (single x) → (es : List Element) × (push elem x ≡ open' [] [] [] es over)
elem-single over h = absurd h
elem-single left h = absurd h
elem-single (open' c cs rs es over) h = (ne (ne c cs) rs ∷ es, refl)
elem-single (open' c cs rs es left) h = absurd h
elem-single (open' c cs rs es (open' c' cs' rs' es' n)) h = absurd h

either : (x y : Bool) → T (x || y) → (x ≡ true) ⊎ (y ≡ true)
either true y h = inl refl
either false true h = inr refl
either false false h = absurd h

-- these octets are the printing of a well-formed segment with this tag
abbrev pub Printed : Service → ℕ → ℕ → ℕ → List ℕ → Type 0
Printed σ a b c s = (es : List Element) × T (well σ (segment a b c es ∷ [])) × (print_s σ (segment a b c es) ≡ s)

module _ (σ : Service) (fits : T (fit σ)) where
  -- a good tag before the elements of one segment
  tag-there : (a b c : ℕ) (s : List ℕ) → T (tag_octet a && tag_octet b && tag_octet c) → (es : List Element) × (chain σ false s ≡ open' [] [] [] es over)
      → Printed σ a b c (a ∷ b ∷ c ∷ s)
  tag-there a b c s t (es, h) =
      let ab : T (tag_octet a && tag_octet b) = and_left (tag_octet a && tag_octet b) (tag_octet c) t in
      let ka : kind_of σ a ≡ 1 = tag-data σ fits a (and_left (tag_octet a) (tag_octet b) ab) in
      let kb : kind_of σ b ≡ 1 = tag-data σ fits b (and_right (tag_octet a) (tag_octet b) ab) in
      let kc : kind_of σ c ≡ 1 = tag-data σ fits c (and_right (tag_octet a && tag_octet b) (tag_octet c) t) in
      let g : Segment = segment a b c es in
      let m : chain σ false (a ∷ b ∷ c ∷ s) ≡ tree (g ∷ []) = rw (ka, kb, kc, h) in
      let w = read_back σ fits (a ∷ b ∷ c ∷ s) (g ∷ []) (ap gathered m ∙ gathered-tree (g ∷ []) (and_both (ok_tag g) true t tt)) in
      (es, w.0, sym (ap (spells σ) (append-nil (flat_s g))) ∙ w.1)

  tag-passed : (a b c : ℕ) (s : List ℕ) (i : ℕ) → T (tag_octet a && tag_octet b && tag_octet c)
      → stop_from σ 5 false (a ∷ b ∷ c ∷ s) i ≡ stop_from σ 5 false s (suc (suc (suc i)))
  tag-passed a b c s i t =
      let ab : T (tag_octet a && tag_octet b) = and_left (tag_octet a && tag_octet b) (tag_octet c) t in
      let ka : kind_of σ a ≡ 1 = tag-data σ fits a (and_left (tag_octet a) (tag_octet b) ab) in
      let kb : kind_of σ b ≡ 1 = tag-data σ fits b (and_right (tag_octet a) (tag_octet b) ab) in
      let kc : kind_of σ c ≡ 1 = tag-data σ fits c (and_right (tag_octet a && tag_octet b) (tag_octet c) t) in
      rw (ka, kb, kc)

  -- from the octet after the tag
  from-tag : (d : ℕ) (r : List ℕ) (i e : ℕ) → stop_from σ 5 false (d ∷ r) i ≡ Some e → i + length (d ∷ r) ≡ suc e → T (eqb d σ.element || eqb d σ.terminator)
      → (es : List Element) × (chain σ false (d ∷ r) ≡ open' [] [] [] es over)
  from-tag d r i e h l t = ⊎_elim separated ended (either (eqb d σ.element) (eqb d σ.terminator) t)
    where
      separated : eqb d σ.element ≡ true → (es : List Element) × (chain σ false (d ∷ r) ≡ open' [] [] [] es over)
      separated q =
          let k : kind_of σ d ≡ 4 = ap (kind_of σ) (eqb-true d σ.element q) ∙ ok-reads σ fits elem tt in
          let g : stop_from σ 5 false r (suc i) ≡ Some e = rw k at h in
          let x = elem-single (chain σ false r) (stop-single σ false r (suc i) e g (omega (arith, l))) in
          let n : chain σ false (d ∷ r) ≡ push elem (chain σ false r) = rw k in
          (x.0, n ∙ x.1)

      ended : eqb d σ.terminator ≡ true → (es : List Element) × (chain σ false (d ∷ r) ≡ open' [] [] [] es over)
      ended q = by r h l
        where
          k : kind_of σ d ≡ 5
          k = ap (kind_of σ) (eqb-true d σ.terminator q) ∙ ok-reads σ fits term tt

          by : (r : List ℕ) → stop_from σ 5 false (d ∷ r) i ≡ Some e → i + length (d ∷ r) ≡ suc e → (es : List Element) × (chain σ false (d ∷ r) ≡ open' [] [] [] es over)
          by [] h l = ([], rw k refl)
          by (x ∷ r) h l = let p : i ≡ e = same_place i e (rw k at h) in absurd (omega (arith, l, p))

  -- the octets up to the first unreleased terminator, where the tag is good, are a printed segment
  pub first-there : (s : List ℕ) (e a b c : ℕ) → end_at σ s 0 ≡ Some e → tag_of σ s ≡ Some (a, b, c) → Printed σ a b c (take (suc e) s)
  first-there s e a b c h t = split (tag_split σ s a b c t)
    where
      upto : (d : ℕ) (r : List ℕ) → T (tag_octet a && tag_octet b && tag_octet c) → T (eqb d σ.element || eqb d σ.terminator)
          → (k : ℕ) × (e ≡ 3 + k) × (stop_from σ 5 false (take (suc k) (d ∷ r)) 3 ≡ Some e) × (length (take (suc k) (d ∷ r)) ≡ suc k)
          → Printed σ a b c (take (suc e) (a ∷ b ∷ c ∷ d ∷ r))
      upto d r t u (k, p, h, l) =
          let q : suc (suc (suc k)) ≡ e = omega (arith, p) in
          subst (λ (n : ℕ). Printed σ a b c (take (suc n) (a ∷ b ∷ c ∷ d ∷ r))) q
          (tag-there a b c (d ∷ take k r) t (from-tag d (take k r) 3 e h (omega (arith, p, l)) u))

      split : Tagged σ s a b c → Printed σ a b c (take (suc e) s)
      split (d, r, p, t) =
          let good : T (tag_octet a && tag_octet b && tag_octet c)
          = and_left (tag_octet a && tag_octet b && tag_octet c) (eqb d σ.element || eqb d σ.terminator) t in
          let u : T (eqb d σ.element || eqb d σ.terminator)
          = and_right (tag_octet a && tag_octet b && tag_octet c) (eqb d σ.element || eqb d σ.terminator) t in
          let stops : stop_from σ 5 false (d ∷ r) 3 ≡ Some e
          = sym (tag-passed a b c (d ∷ r) 0 good) ∙ ap (λ (s : List ℕ). stop_from σ 5 false s 0) p ∙ h in
          subst (λ (s : List ℕ). Printed σ a b c (take (suc e) s)) p (upto d r good u (stop-at σ 5 false (d ∷ r) 3 e stops))

take_all : (i : ℕ) (s : List ℕ) → length s ≤ i → take i s ≡ s
take_all i s l = sym (append-nil (take i s)) ∙ ap (λ (r : List ℕ). take i s ++ r) (sym (drop_of_length-le s l)) ∙ take-append-drop i s

-- every stretch of octets that ends in its first unreleased terminator and has a good tag is the printing of a well-formed segment
pub segment-there : (σ : Service) → T (fit σ) → (s : List ℕ) (e a b c : ℕ) → end_at σ s 0 ≡ Some e → length s ≡ suc e → tag_of σ s ≡ Some (a, b, c)
    → (es : List Element) × T (well σ (segment a b c es ∷ [])) × (print_s σ (segment a b c es) ≡ s)
segment-there σ fits s e a b c h l t =
    let k = first-there σ fits s e a b c h t in
    (k.0, k.1, k.2 ∙ take_all (suc e) s (omega (arith, l)))

-- an input is cut: it is over, or its first segment ends and has a good tag, and what is behind it is cut
pub data Cuts (σ : Service) : List ℕ → Type 0 where
  cut-over : Cuts σ []
  cut_on : {s : List ℕ} {e a b c : ℕ} → end_at σ s 0 ≡ Some e → tag_of σ s ≡ Some (a, b, c) → Cuts σ (drop (suc e) s) → Cuts σ s

every_append : (σ : Service) (xs ys : List Symbol) → T (all_pass (ok σ) xs) → T (all_pass (ok σ) ys) → T (all_pass (ok σ) (xs ++ ys))
every_append σ [] ys h k = k
every_append σ (x ∷ xs) ys h k =
    and_both (ok σ x) (all_pass (ok σ) (xs ++ ys)) (and_left (ok σ x) (all_pass (ok σ) xs) h) (every_append σ xs ys (and_right (ok σ x) (all_pass (ok σ) xs) h) k)

-- a well-formed segment before well-formed segments
pub well-cons : (σ : Service) (g : Segment) (gs : List Segment) → T (well σ (g ∷ [])) → T (well σ gs) → T (well σ (g ∷ gs))
well-cons σ g gs h k =
    let t : T (ok_tag g) = and_left (ok_tag g) true (and_left (ok_tag g && true) (all_pass (ok σ) (flat (g ∷ []))) h) in
    let o : T (all_pass (ok σ) (flat_s g)) = subst (λ (l : List Symbol). T (all_pass (ok σ) l)) (append-nil (flat_s g)) (and_right (ok_tag g && true) (all_pass (ok σ) (flat (g ∷ []))) h) in
    and_both (all_pass ok_tag (g ∷ gs)) (all_pass (ok σ) (flat (g ∷ gs)))
    (and_both (ok_tag g) (all_pass ok_tag gs) t (and_left (all_pass ok_tag gs) (all_pass (ok σ) (flat gs)) k))
    (every_append σ (flat_s g) (flat gs) o (and_right (all_pass ok_tag gs) (all_pass (ok σ) (flat gs)) k))

-- an input that is cut is the printing of well-formed segments
pub cut-there : (σ : Service) → T (fit σ) → (s : List ℕ) → Cuts σ s → (gs : List Segment) × T (well σ gs) × (print σ gs ≡ s)
cut-there σ fits [] cut-over = ([], tt, refl)
cut-there σ fits s (cut_on {e = e} {a = a} {b = b} {c = c} h t k) =
    let x = first-there σ fits s e a b c h t in
    let r = cut-there σ fits (drop (suc e) s) k in
    let g : Segment = segment a b c x.0 in (
      g ∷ r.0,
      well-cons σ g r.0 x.1 r.1,
      print-cons σ g r.0 ∙ ap (λ (l : List ℕ). l ++ print σ r.0) x.2 ∙ ap (λ (l : List ℕ). take (suc e) s ++ l) r.2 ∙ take-append-drop (suc e) s,
    )

every-left : (σ : Service) (xs ys : List Symbol) → T (all_pass (ok σ) (xs ++ ys)) → T (all_pass (ok σ) xs)
every-left σ [] ys h = tt
every-left σ (x ∷ xs) ys h =
    and_both (ok σ x) (all_pass (ok σ) xs) (and_left (ok σ x) (all_pass (ok σ) (xs ++ ys)) h) (every-left σ xs ys (and_right (ok σ x) (all_pass (ok σ) (xs ++ ys)) h))

every-right : (σ : Service) (xs ys : List Symbol) → T (all_pass (ok σ) (xs ++ ys)) → T (all_pass (ok σ) ys)
every-right σ [] ys h = h
every-right σ (x ∷ xs) ys h = every-right σ xs ys (and_right (ok σ x) (all_pass (ok σ) (xs ++ ys)) h)

-- the first of well-formed segments is well-formed, and so are those behind it
pub well-uncons : (σ : Service) (g : Segment) (gs : List Segment) → T (well σ (g ∷ gs)) → T (well σ (g ∷ [])) × T (well σ gs)
well-uncons σ g gs h =
    let t = and_left (all_pass ok_tag (g ∷ gs)) (all_pass (ok σ) (flat (g ∷ gs))) h in
    let o = and_right (all_pass ok_tag (g ∷ gs)) (all_pass (ok σ) (flat (g ∷ gs))) h in (
      and_both (ok_tag g && true) (all_pass (ok σ) (flat (g ∷ []))) (and_both (ok_tag g) true (and_left (ok_tag g) (all_pass ok_tag gs) t) tt)
          (every_append σ (flat_s g) [] (every-left σ (flat_s g) (flat gs) o) tt),
      and_both (all_pass ok_tag gs) (all_pass (ok σ) (flat gs)) (and_right (ok_tag g) (all_pass ok_tag gs) t) (every-right σ (flat_s g) (flat gs) o),
    )

drop-append : (xs ys : List ℕ) → drop (length xs) (xs ++ ys) ≡ ys
drop-append [] ys = refl
drop-append (x ∷ xs) ys = drop-append xs ys

-- the printing of well-formed segments is cut
pub print-cut : (σ : Service) → T (fit σ) → (gs : List Segment) → T (well σ gs) → Cuts σ (print σ gs)
print-cut σ fits [] w = cut-over
print-cut σ fits (segment a b c es ∷ gs) w =
    let g : Segment = segment a b c es in
    let u = well-uncons σ g gs w in
    let o : T (all_pass (ok σ) (flat_s g)) = every-left σ (flat_s g) [] (and_right (ok_tag g && true) (all_pass (ok σ) (flat (g ∷ []))) u.0) in
    let n : length (print_s σ g) ≡ suc (0 + (length (print_s σ g) - 1)) = omega arith in
    let r : drop (suc (0 + (length (print_s σ g) - 1))) (print_s σ g ++ print σ gs) ≡ print σ gs
    = ap (λ (n : ℕ). drop n (print_s σ g ++ print σ gs)) (sym n) ∙ drop-append (print_s σ g) (print σ gs) in
    subst (λ (s : List ℕ). Cuts σ s) (sym (print-cons σ g gs))
    (cut_on (segment-end σ fits g o (print σ gs) 0) (tag-print σ fits a b c es u.0 (print σ gs))
    (subst (λ (s : List ℕ). Cuts σ s) (sym r) (print-cut σ fits gs u.1)))

-- an input is cut just where it is the printing of well-formed segments
pub cut-exact : (σ : Service) → T (fit σ) → (s : List ℕ) → Cuts σ s ↔ ((gs : List Segment) × T (well σ gs) × (print σ gs ≡ s))
cut-exact σ fits s = (cut-there σ fits s, back)
  where
    back : (gs : List Segment) × T (well σ gs) × (print σ gs ≡ s) → Cuts σ s
    back h = subst (λ (s : List ℕ). Cuts σ s) h.2 (print-cut σ fits h.0 h.1)
