-- Each range has one reading: tags decide where a segment goes, so a list of segments is shown by one tree only.
use Rattle.std.specs.Prelude.{ℕ, ◌≡◌, refl, List, [], ◌∷◌, ◌++◌, false, T}
use Rattle.std.proofs.Common.{arith, ap, ◌∙◌, sym, subst, append_assoc, append-nil, leb→le, le→leb}
use Rattle.std.proofs.Math.Option.{Option, some}
use Rattle.syntax.specs.Service.{fit}
use Rattle.syntax.specs.Tree.{Segment, print, well}
use Rattle.syntax.proofs.ReaderLaws.{print-injective}
use Rattle.syntax.specs.declared.Service.{Service}
use Rattle.grammar.specs.Lists.{Snoc, nil, ◌▷◌, ◌+++◌, joined, list, size, holds, every, few}
use Rattle.grammar.specs.SnocLaws.{onto, not-nil}
use Rattle.grammar.specs.Segments.{Unb, Unh, seg}
use Rattle.grammar.specs.Interchange.{Header, Trailer, plain, msg, Message, Reading, start, idle, busy, shown, show_message}
use Rattle.grammar.specs.Rules.{order, ok_header, ok_item, ok_body, ok_trailers}
use Rattle.grammar.specs.RuleLaws.{free-heads}
use Rattle.grammar.specs.Placing.{place}
use Rattle.grammar.proofs.PlacingLaws.{shows, Back, first, from, last-free, back, Before, shut-order}
use Rattle.groups.specs.StandLaws.{list-join}
use Rattle.demands.specs.Range.{Grammar, Reads, Range1, range1, scope1, Range2, range2, scope2, f01, scope3}
use Rattle.grammar.proofs.ListsLaws.{size-join, joined-join, every-join}

-- ---- lists that grow at the end, as plain lists

module _ {A : Type 0} where
  onto-append : (s : Snoc A) (l k : List A) → onto s (l ++ k) ≡ onto (onto s l) k
  onto-append s [] k = refl
  onto-append s (a ∷ l) k = onto-append (s ▷ a) l k

  onto-list : (a : Snoc A) → onto nil (list a) ≡ a
  onto-list nil = refl
  onto-list (a ▷ x) = onto-append nil (list a) (x ∷ []) ∙ ap (λ (s : Snoc A). s ▷ x) (onto-list a)

  list-one : (a b : Snoc A) → list a ≡ list b → a ≡ b
  list-one a b e = sym (onto-list a) ∙ ap (onto nil) e ∙ onto-list b

-- ---- segments are shown by one reading only

nil-one : {w : Reading} → Back w → shown w ≡ nil → w ≡ start
nil-one first e = refl
nil-one (from x g q) e = absurd (not-nil (shown x) g (sym e ∙ shows x g q))

-- what stood before the last segment, and where that was put
pub record Last (s : Snoc Segment) (g : Segment) (w : Reading) : Type 0 where
  pub x : Reading
  pub ordered : holds (order x)
  pub before : shown x ≡ s
  pub placed : place x g ≡ some w

last-so : {w : Reading} (s : Snoc Segment) (g : Segment) (b : Back w) → Before order b → shown w ≡ s ▷ g → Last s g w
last-so s g first k e = absurd (not-nil s g e)
last-so s g (from x f q) k e =
    let p = shows x f q in
    let i : shown x ≡ s = cc in
    let j : f ≡ g = cc in
    record { x = x; ordered = k; before = i; placed = ap (place x) (sym j) ∙ q }

some_one : {A : Type 0} {o : Option A} {w v : A} → o ≡ some w → o ≡ some v → w ≡ v
some_one a b = cc

shown-one : (s : Snoc Segment) (w v : Reading) → holds (order w) → holds (order v) → shown w ≡ s → shown v ≡ s → w ≡ v
shown-one nil w v o p d e = nil-one (back w (last-free w o)) d ∙ sym (nil-one (back v (last-free v p)) e)
shown-one (s ▷ g) w v o p d e =
    let f = last-free w o in
    let h = last-free v p in
    let a = last-so s g (back w f) (shut-order w f o) d in
    let b = last-so s g (back v h) (shut-order v h p) e in
    let k : a.x ≡ b.x = shown-one s a.x b.x a.ordered b.ordered a.before b.before in
    some_one a.placed (ap (λ (z : Reading). place z g) k ∙ b.placed)

-- ---- so a range has one reading, where its tree is part of a reading of an interchange: behind segments that are always the same

pub record Stands {A : Type 0} (g : Grammar A) : Type 0 where
  pub within : A → Reading
  pub front : List Segment
  pub behind : (t : A) → list (shown (within t)) ≡ front ++ list (g.segments t)
  pub ordered : (t : A) → holds (g.rule t) → holds (order (within t))
  pub one : (t v : A) → within t ≡ within v → t ≡ v

pub reads-one : {A : Type 0} (g : Grammar A) → Stands g → (σ : Service) → T (fit σ) → (o : List ℕ) (t v : A) → Reads g σ o t → Reads g σ o v → t ≡ v
reads-one g k σ f o t v a b =
    let e : list (g.segments t) ≡ list (g.segments v) = print-injective σ f (list (g.segments t)) (list (g.segments v)) a.written b.written (a.printed ∙ sym b.printed) in
    k.one t v (shown-one (shown (k.within v)) (k.within t) (k.within v) (k.ordered t a.ordered) (k.ordered v b.ordered)
    (list-one (shown (k.within t)) (shown (k.within v)) (k.behind t ∙ ap (λ (l : List Segment). k.front ++ l) e ∙ sym (k.behind v))) refl)

-- a body that may stand in a message that is no AUTACK
items-ok : (hs : Snoc Header) (b : Snoc Segment) → holds (every ok_item b) → holds (ok_body false hs (plain b))
items-ok hs nil h = tt
items-ok hs (b ▷ i) h = (tt, h)

-- ---- scope 1: in a message with that header group and that body

abbrev within1 : Range1 → Reading
within1 (range1 h b) = busy [] nil (msg [] (nil ▷ h) (plain b) nil)

behind1 : (t : Range1) → list (shown (within1 t)) ≡ (seg Unb [] ∷ seg Unh [] ∷ []) ++ list (scope1.segments t)
behind1 (range1 h b) = simp (list-join, append_assoc, append-nil)

ordered1 : (t : Range1) → holds (scope1.rule t) → holds (order (within1 t))
ordered1 (range1 h b) k = (tt, (tt, ((tt, k.0), (items-ok (nil ▷ h) b k.1, (tt, tt)))))

one1 : (t v : Range1) → within1 t ≡ within1 v → t ≡ v
one1 (range1 h b) (range1 i c) e =
    let p : h ≡ i = cc in
    let q : b ≡ c = cc in
    ap (λ (x : Header). range1 x b) p ∙ ap (range1 i) q

stands1 : Stands scope1
stands1 = record { within = within1; front = seg Unb [] ∷ seg Unh [] ∷ []; behind = behind1; ordered = ordered1; one = one1 }

pub one-reading-1 : (σ : Service) → T (fit σ) → (o : List ℕ) (t v : Range1) → Reads scope1 σ o t → Reads scope1 σ o v → t ≡ v
one-reading-1 = reads-one scope1 stands1

-- ---- scope 2: in a message with these headers, that body and these trailers

module _ {A : Type 0} where
  few-front : (x : A) (s : Snoc A) → holds (few 8 s) → holds (few 9 (nil ▷ x +++ s))
  few-front x s k = le→leb (size (nil ▷ x +++ s)) 9 (omega (arith, size-join (nil ▷ x) s, leb→le (size s) 8 k))

  -- equal rows have an equal first, and equal ones behind it
  front-one : (x z : A) (s t : Snoc A) → nil ▷ x +++ s ≡ nil ▷ z +++ t → (x ≡ z) × (s ≡ t)
  front-one x z nil nil e = let p : x ≡ z = cc in (p, refl)
  front-one x z nil (t ▷ b) e = let p : size (nil ▷ x) ≡ size (nil ▷ z +++ (t ▷ b)) = ap size e in absurd (omega (arith, p, size-join (nil ▷ z) t))
  front-one x z (s ▷ a) nil e = let p : size (nil ▷ x +++ (s ▷ a)) ≡ size (nil ▷ z) = ap size e in absurd (omega (arith, p, size-join (nil ▷ x) s))
  front-one x z (s ▷ a) (t ▷ b) e =
      let p : a ≡ b = cc in
      let q : nil ▷ x +++ s ≡ nil ▷ z +++ t = cc in
      let k = front-one x z s t q in
      (k.0, ap (λ (l : Snoc A). l ▷ a) k.1 ∙ ap (λ (y : A). t ▷ y) p)

trailers-ok : (b : Snoc Segment) (ts : Snoc Trailer) → holds (ok_trailers false (plain b) ts)
trailers-ok b nil = tt
trailers-ok b (ts ▷ t) = tt

abbrev within2 : Range2 → Reading
within2 (range2 h hs b ts) = busy [] nil (msg [] (nil ▷ h +++ hs) (plain b) ts)

behind2 : (t : Range2) → list (shown (within2 t)) ≡ (seg Unb [] ∷ seg Unh [] ∷ []) ++ list (scope2.segments t)
behind2 (range2 h hs b ts) = simp (joined-join, list-join, append_assoc)

ordered2 : (t : Range2) → holds (scope2.rule t) → holds (order (within2 t))
ordered2 (range2 h hs b ts) k =
    (tt, (few-front h hs k.1.0, (every-join ok_header (nil ▷ h) hs (tt, k.0) k.1.1.0, (items-ok (nil ▷ h +++ hs) b k.1.1.1, (trailers-ok b ts, free-heads [] refl (nil ▷ h +++ hs) (plain b))))))

one2 : (t v : Range2) → within2 t ≡ within2 v → t ≡ v
one2 (range2 h hs b ts) (range2 i is c us) e =
    let p : nil ▷ h +++ hs ≡ nil ▷ i +++ is = cc in
    let q : b ≡ c = cc in
    let r : ts ≡ us = cc in
    let k = front-one h i hs is p in
    ap (λ (x : Header). range2 x hs b ts) k.0 ∙ ap (λ (x : Snoc Header). range2 i x b ts) k.1 ∙ ap (λ (x : Snoc Segment). range2 i is x ts) q ∙ ap (range2 i is c) r

stands2 : Stands scope2
stands2 = record { within = within2; front = seg Unb [] ∷ seg Unh [] ∷ []; behind = behind2; ordered = ordered2; one = one2 }

pub one-reading-2 : (σ : Service) → T (fit σ) → (o : List ℕ) (t v : Range2) → Reads scope2 σ o t → Reads scope2 σ o v → t ≡ v
one-reading-2 = reads-one scope2 stands2

-- ---- F01: in an interchange with these messages

behind_f : (ms : Snoc Message) → list (shown (idle [] ms)) ≡ (seg Unb [] ∷ []) ++ list (f01.segments ms)
behind_f ms = list-join (nil ▷ seg Unb []) (joined show_message ms)

stands_f : Stands f01
stands_f = record {
  within = idle [];
  front = seg Unb [] ∷ [];
  behind = behind_f;
  ordered = λ ms k. k.1.1;
  one = λ t v e. idle-one t v e;
}
  where
    idle-one : (t v : Snoc Message) → ◌≡◌ {A = Reading} (idle [] t) (idle [] v) → t ≡ v
    idle-one t v e = cc

pub one-reading-f01 : (σ : Service) → T (fit σ) → (o : List ℕ) (t v : Snoc Message) → Reads f01 σ o t → Reads f01 σ o v → t ≡ v
one-reading-f01 = reads-one f01 stands_f

-- ---- scope 3: a run of one message

-- a reading of one message is one of the run that it is
one-run : (σ : Service) (o : List ℕ) (t : Message) → Reads scope3 σ o t → Reads f01 σ o (nil ▷ t)
one-run σ o t k = record {
  ordered = (tt, ((tt, k.ordered.0), (tt, k.ordered.1)));
  written = subst (λ (l : List Segment). T (well σ l)) (sym (list-join nil (show_message t))) k.written;
  printed = ap (print σ) (list-join nil (show_message t)) ∙ k.printed;
}

pub one-reading-3 : (σ : Service) → T (fit σ) → (o : List ℕ) (t v : Message) → Reads scope3 σ o t → Reads scope3 σ o v → t ≡ v
one-reading-3 σ f o t v a b = last_one (one-reading-f01 σ f o (nil ▷ t) (nil ▷ v) (one-run σ o t a) (one-run σ o v b))
  where
    last_one : ◌≡◌ {A = Snoc Message} (nil ▷ t) (nil ▷ v) → t ≡ v
    last_one e = cc
