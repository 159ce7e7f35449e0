-- UNB, UNH, UNT and UNZ, a path at a time: the step that the rules ask, and everything still in its room.
use Rattle.grammar.specs.declared.Subset.{Subset}
use Rattle.syntax.specs.declared.Breach.{Breach}
use Rattle.std.specs.Prelude.{ℕ, zero, suc, ◌+◌, ◌*◌, ◌≤◌, ◌<◌, ◌≡◌, refl, Bool, true, false, cond, not, ◌&&◌, List, [], ◌∷◌, T, eqb, leb, length, Option, Result, Some, None, Ok, Err}
use Rattle.std.proofs.Common.{add-one, arith, ap, sym, ◌∙◌, subst, eq-eqb, ne_eqb, leb-true}
use Rattle.std.proofs.lemmas.Bool.{false≢true}
use Rattle.std.proofs.Math.Bool.{and-true}
use Rattle.std.proofs.Math.Seq.{slice}
use Rattle.syntax.specs.Octets.{octets, same, within}
use Rattle.syntax.specs.Content.{content, value_from, compared, blank}
use Rattle.syntax.proofs.BareLaws.{compared-short}
use Rattle.syntax.specs.RepertoireLaws.{and_l, and_r}
use Rattle.syntax.specs.Segment.{component_at, part_of}
use Rattle.syntax.specs.declared.Service.{Service}
use Rattle.syntax.specs.declared.Syntax.{Syntax}
use Rattle.syntax.specs.declared.Version.{Version}
use Rattle.grammar.specs.declared.Subset.TheVariants.{F01, Gs1}
use Rattle.grammar.specs.Lists.{Snoc, nil, ◌▷◌, size, any, among}
use Rattle.grammar.specs.Rules.{subset_of}
use Rattle.grammar.specs.Segments.{Asked}
use Rattle.grammar.specs.Segments as named
use Rattle.grammar.specs.Elements.{any_text, digits, reference, simple, composite, row, in_range, formed_as, formed_row, formed}
use Rattle.grammar.specs.Loads.{load_right}
use Rattle.grammar.specs.Verdict.{tested}
use Rattle.grammar.proofs.PlacingLaws.{same-eq}
use Rattle.elements.specs.Kinds.{tag_kind}
use Rattle.elements.specs.Octets.{text_at, asked_at}
use Rattle.elements.specs.Fields.{Marked, start_in, end_in}
use Rattle.elements.specs.Formed.{formed_by}
use Rattle.elements.specs.FormedLaws.{and-stop, and-go, formed-by}
use Rattle.references.specs.Refs.{refs_in, Indexed, Offered, Fitting, OfferIs}
use Rattle.message.specs.Heads.{head_flags}
use Rattle.message.specs.Summary.{Summary, StateS, start_s, idle_s, busy_s, at_start, at_idle, at_busy, may_come, all_named, pairs_counted, total_right, number_at, order_k, subset_k, refs_k, counts_k, scope_k, next_k, order_s, subset_s, refs_s, counts_s, scope_s, next_s, opened, fresh, AnswerS, read_s, refused_s, decided_s}
use Rattle.message.specs.Steps.{summary_in, Roomy}
use Rattle.message.specs.StepsLaws.{marked-between, closed-range, unt-digits, unz-digits}
use Rattle.turns.specs.Held.{phased, state_in, stretch_in, repeated_ref, after_unb, after_unh, after_other, open_size, Held, decided_from, StepIs, Ready}
use Rattle.message.specs.ItemsLaws.{not-true, not-false}
use Rattle.elements.specs.declared.fields.Shape.{Shape}
use Rattle.message.specs.declared.Message.{Message}
use Rattle.turns.specs.declared.state.Phase.{Phase}
use Rattle.turns.specs.declared.state.Phase.TheVariants.{Start, Idle, Busy, Done}
use Rattle.turns.specs.declared.state.Stretch.{Stretch}
use Rattle.turns.specs.declared.state.State.{State}
use Rattle.elements.specs.declared.Kind.{Kind}
use Rattle.elements.specs.declared.Kind.TheVariants.{Unb, Unh, Unt, Unz, Qty}

-- ---- the tests of a state, by the kind

by : {A : Type 0} (F : StateS → Kind → A) {S S' : StateS} → S ≡ S' → {j k : Kind} → j ≡ k → F S k ≡ F S' j
by F {S} {S'} g {j} {k} e = ap (λ (x : StateS). F x k) g ∙ ap (λ (x : Kind). F S' x) (sym e)

-- a load is a QTY
pub free-load : (a : Asked) → (tag_kind a.tag ≡ Qty → ⊥) → load_right a ≡ true
free-load a n = test (same a.tag (octets "QTY")) refl
  where
    test : (b : Bool) → same a.tag (octets "QTY") ≡ b → load_right a ≡ true
    test true e = absurd (n (ap tag_kind (same-eq a.tag (octets "QTY") (subst T (sym e) tt))))
    test false e = rw e

module _ (a : Asked) where
  unb-load : Unb ≡ tag_kind a.tag → load_right a ≡ true
  unb-load e = free-load a (λ q. false≢true (sym (ap (λ (k : Kind). at_start true false k) (e ∙ q))))

  unh-load : Unh ≡ tag_kind a.tag → load_right a ≡ true
  unh-load e = free-load a (λ q. false≢true (sym (ap (λ (k : Kind). at_idle true false false k) (e ∙ q))))

  unz-load : Unz ≡ tag_kind a.tag → load_right a ≡ true
  unz-load e = free-load a (λ q. false≢true (sym (ap (λ (k : Kind). at_idle false true false k) (e ∙ q))))

  unt-load : Unt ≡ tag_kind a.tag → load_right a ≡ true
  unt-load e = free-load a (λ q. false≢true (sym (ap (λ (k : Kind). at_busy false false false true false k) (e ∙ q))))

-- the subset, as its type and its code are compared
module _ (σ : Service) (s : List ℕ) (a : ℕ) {x : List ℕ} (e : x ≡ part_of s (component_at σ s a 2 0)) {b : Bool} (d : b ≡ same (content σ.release x) (octets "AUTACK")) where
  typed : (c : Bool) → b ≡ c → same (text_at σ s a 2 0) (octets "AUTACK") ≡ c
  typed c h = sym (ap (λ (z : List ℕ). same (content σ.release z) (octets "AUTACK")) e) ∙ sym d ∙ h

  pub no-subset : b ≡ false → None ≡ subset_of (text_at σ s a 2 0) (text_at σ s a 2 4)
  no-subset h = sym (ap (λ (z : Bool). cond z (cond (same (text_at σ s a 2 4) (octets "EAN001")) (Some Gs1) (Some F01)) None) (typed false h))

  pub subset-by : b ≡ true → {z : List ℕ} → z ≡ part_of s (component_at σ s a 2 4) → {q : Bool} → q ≡ same (content σ.release z) (octets "EAN001") → (c : Bool) → q ≡ c →
      cond c (Some Gs1) (Some F01) ≡ subset_of (text_at σ s a 2 0) (text_at σ s a 2 4)
  subset-by h {z} f k c t =
      ap (λ (w : Bool). cond w (Some Gs1) (Some F01)) (sym t ∙ k ∙ ap (λ (w : List ℕ). same (content σ.release w) (octets "EAN001")) f)
      ∙ sym (ap (λ (w : Bool). cond w (cond (same (text_at σ s a 2 4) (octets "EAN001")) (Some Gs1) (Some F01)) None) (typed true h))

-- ---- the first test that fails tells the number

abbrev six : ℕ → Bool → Bool → Bool → Bool → Bool → Bool → StateS → AnswerS
six p o f r c g l x = decided_s (tested 7 p o ∷ tested 8 p f ∷ tested 9 p r ∷ tested 10 p c ∷ tested 11 p g ∷ tested 12 p l ∷ []) x

module _ (p : ℕ) (o f r c g l : Bool) (x : StateS) where
  six-7 : o ≡ false → six p o f r c g l x ≡ refused_s 7 p
  six-7 e = rw e

  six-8 : o ≡ true → f ≡ false → six p o f r c g l x ≡ refused_s 8 p
  six-8 e d = rw (e, d)

  six-9 : o ≡ true → f ≡ true → r ≡ false → six p o f r c g l x ≡ refused_s 9 p
  six-9 e d h = rw (e, d, h)

  six-10 : o ≡ true → f ≡ true → r ≡ true → c ≡ false → six p o f r c g l x ≡ refused_s 10 p
  six-10 e d h k = rw (e, d, h, k)

  six-on : o ≡ true → f ≡ true → r ≡ true → c ≡ true → g ≡ true → l ≡ true → six p o f r c g l x ≡ read_s x
  six-on e d h k i j = rw (e, d, h, k, i, j)

module _ (v : Version) (S : StateS) (a : Asked) (p : ℕ) where
  pub at_7 : order_s S a ≡ false → decided_from v S a p ≡ refused_s 7 p
  at_7 = six-7 p (order_s S a) (formed v a && subset_s S a) (refs_s S a) (counts_s v S a) (scope_s S a) (load_right a) (next_s S a)

  pub at_8 : order_s S a ≡ true → (formed v a && subset_s S a) ≡ false → decided_from v S a p ≡ refused_s 8 p
  at_8 = six-8 p (order_s S a) (formed v a && subset_s S a) (refs_s S a) (counts_s v S a) (scope_s S a) (load_right a) (next_s S a)

  at_9 : order_s S a ≡ true → (formed v a && subset_s S a) ≡ true → refs_s S a ≡ false → decided_from v S a p ≡ refused_s 9 p
  at_9 = six-9 p (order_s S a) (formed v a && subset_s S a) (refs_s S a) (counts_s v S a) (scope_s S a) (load_right a) (next_s S a)

  at-10 : order_s S a ≡ true → (formed v a && subset_s S a) ≡ true → refs_s S a ≡ true → counts_s v S a ≡ false → decided_from v S a p ≡ refused_s 10 p
  at-10 = six-10 p (order_s S a) (formed v a && subset_s S a) (refs_s S a) (counts_s v S a) (scope_s S a) (load_right a) (next_s S a)

  at-end : order_s S a ≡ true → (formed v a && subset_s S a) ≡ true → refs_s S a ≡ true → counts_s v S a ≡ true → scope_s S a ≡ true → load_right a ≡ true →
      decided_from v S a p ≡ read_s (next_s S a)
  at-end = six-on p (order_s S a) (formed v a && subset_s S a) (refs_s S a) (counts_s v S a) (scope_s S a) (load_right a) (next_s S a)

module _ {A : AnswerS} (ρ : ℕ) (s h l b : List ℕ) (i : ℕ) where
  pub stop : {r : Result State Breach} {n p : ℕ} → A ≡ refused_s n p → r ≡ Err (record { number = n; place = p }) → StepIs A r ρ s h l b i
  stop {r} {n} {p} e d =
      subst (λ (x : AnswerS). StepIs x r ρ s h l b i) (sym e) (subst (λ (x : Result State Breach). StepIs (refused_s n p) x ρ s h l b i) (sym d) (refl, refl))

  go : {S : StateS} {x z : State} → A ≡ read_s S → z ≡ x → state_in ρ s x h l ≡ S → Held ρ s x h l b i → StepIs A (Ok z) ρ s h l b i
  go {S} {x} {z} e d q w =
      subst (λ (A : AnswerS). StepIs A (Ok z) ρ s h l b i) (sym e) (subst (λ (x : State). StepIs (read_s S) (Ok x) ρ s h l b i) (sym d) (q, w))

-- ---- the references so far

module _ (l : List ℕ) where
  any-refs : (n : ℕ) → (n ≡ 0 → ⊥) → any (refs_in l n) ≡ true
  any-refs zero h = absurd (h refl)
  any-refs (suc n) h = refl

  size-refs : (n : ℕ) → size (refs_in l n) ≡ n
  size-refs zero = refl
  size-refs (suc n) = ap (λ (k : ℕ). suc k) (size-refs n)

-- ---- a message just begun

-- its reference has at most 14 octets
unh-short : (v : Version) (a : Asked) → formed_row (row v named.Unh) a 1 ≡ true → length (a.text 1 0) ≤ 14
unh-short v a e =
    let r = closed-range (reference 1 14) a 1 (and_l (formed_as (simple (reference 1 14 ∷ [])) a 1) (formed_row (composite (any_text 1 6 ∷ []) ∷ []) a 2) e) in
    let k = and_l (within 1 14 (length (a.text 1 0))) (not (blank (a.text 1 0))) r in
    leb-true (length (a.text 1 0)) 14 (and_r (leb 1 (length (a.text 1 0))) (leb (length (a.text 1 0)) 14) k)

-- a slot was offered
pub offer-at : {l b t l' : List ℕ} {n : ℕ} (r : Option ℕ) → OfferIs l b n t r l' → {i : ℕ} → r ≡ Some i → Fitting l b n t i l'
offer-at {l} {b} {t} {l'} {n} r o e = subst (λ (z : Option ℕ). OfferIs l b n t z l') e o

-- nothing is offered outside a message
abbrev is_open : Phase → Bool
is_open Start = false
is_open Idle = false
is_open Busy = true
is_open Done = false

idle-shut : {A : Type 0} → Idle ≡ Busy → A
idle-shut e = absurd (false≢true (ap is_open e))

done-shut : {A : Type 0} → Done ≡ Busy → A
done-shut e = absurd (false≢true (ap is_open e))

least : (n : ℕ) → 0 ≤ n
least n = omega arith

roomy-fresh : (b : Option Subset) (h : List ℕ) → Roomy (fresh b) h
roomy-fresh b h = record {
  headers = least 9;
  loads = least 1;
  grams = least (1 * 1000000000000);
  back = least (1 * 1000000000000);
  base = least 1;
  own = least 1;
  sizes = λ i u. let w : i < 0 = u in absurd (omega arith);
}

module _ (ρ : ℕ) (s h : List ℕ) where
  fresh-summary : {m : Message} {b : Option Subset} (i j : ℕ) (a : Asked) → m ≡ fresh b → b ≡ subset_of (a.text 2 0) (a.text 2 4) → compared (content ρ (slice i j s)) ≡ compared (a.text 1 0) →
      summary_in ρ s m i j h ≡ opened a
  fresh-summary {m} {b} i j a e d q =
      ap (λ (x : Message). summary_in ρ s x i j h) (e ∙ ap fresh d) ∙ named_by q
    where
      named_by : {t : List ℕ} → t ≡ compared (a.text 1 0) →
          ◌≡◌ {A = Summary} (record { m = fresh (subset_of (a.text 2 0) (a.text 2 4)); ref = t; refs = nil; sizes = nil; flags = nil }) (opened a)
      named_by q = rw q

-- ---- the steps

module _ (y : Syntax) (s : List ℕ) (st : State) (h l b : List ℕ) (at next : ℕ) (f : Shape) (marks : List ℕ) where
  abbrev ask : Asked
  ask = asked_at y.service s at

  abbrev here : StateS
  here = state_in y.service.release s st h l

  abbrev unbs : List ℕ
  unbs = compared (content y.service.release (slice st.unb.start st.unb.end s))

  abbrev refs : Snoc (List ℕ)
  refs = refs_in l st.count

  abbrev kept : Summary
  kept = summary_in y.service.release s st.message st.unh.start st.unh.end h

  abbrev Told : Result State Breach → Type 0
  Told r = StepIs (decided_from y.version (state_in y.service.release s st h l) (asked_at y.service s at) at) r y.service.release s h l b next

  -- with the names as they are left
  abbrev Left : List ℕ → Result State Breach → Type 0
  Left l' r = StepIs (decided_from y.version (state_in y.service.release s st h l) (asked_at y.service s at) at) r y.service.release s h l' b next

  -- the octets of a field between two of the marks
  between : Marked y.service s at marks → (p : ℕ) {w : Stretch} → 1 ≤ p → p ≤ 5 → w ≡ stretch_in marks p →
      slice w.start w.end s ≡ part_of s (component_at y.service s at p 0)
  between g p u v e = marked-between g {p = p} {c = 0} u v (least 2) (ap (λ (w : Stretch). w.start) e) (ap (λ (w : Stretch). w.end) e)

  -- of a kind of which a subset checks nothing, 8 is its row alone
  alone : {S : StateS} {k : Kind} → here ≡ S → k ≡ tag_kind ask.tag → subset_k S k ask ≡ true → {q : Bool} → q ≡ formed y.version ask →
      (formed y.version ask && subset_s here ask) ≡ q
  alone h k t e =
      ap (λ (u : Bool). formed y.version ask && u) (by (λ (x : StateS) (j : Kind). subset_k x j ask) h k ∙ t) ∙ and-true (formed y.version ask) ∙ sym e

  module _ (g : Ready y s st h l b at next Unb f marks) (ph : (st.phase ≡ Start) × (st.count ≡ 0)) {q : Bool} (e : q ≡ formed y.version ask) where
    unb-here : here ≡ start_s
    unb-here = ap (λ (z : Phase). phased z unbs refs kept) ph.0

    unb-order : order_s here ask ≡ true
    unb-order = by order_k unb-here g.kind

    pub unb-bad : not q ≡ true → {r : Result State Breach} → r ≡ Err (record { number = 8; place = at }) → Told r
    unb-bad n d = stop y.service.release s h l b next (at_8 y.version here ask at unb-order (alone unb-here g.kind refl e ∙ not-true q n)) d

    module _ {z : Stretch} (u : z ≡ stretch_in marks 5) where
      unb-held : Held y.service.release s (after_unb st z) h l b next
      unb-held = record {
        indexed = subst (λ (n : ℕ). Indexed l b n) ph.1 g.held.indexed;
        roomy = g.held.roomy;
        begun = g.held.begun;
        long = g.held.long;
        taken = least next;
        offered = λ c. idle-shut c;
      }

      unb-is : state_in y.service.release s (after_unb st z) h l ≡ next_s here ask
      unb-is =
          ap (λ (t : List ℕ). idle_s (compared (content y.service.release t)) nil) (between (g.noted refl).marks 5 (omega arith) (omega arith) u)
          ∙ sym (by (λ (x : StateS) (k : Kind). next_k x k ask) unb-here g.kind)

      pub unb-read : not q ≡ false → {x : State} → x ≡ after_unb st z → Told (Ok x)
      unb-read n d =
          go y.service.release s h l b next
          (at-end y.version here ask at unb-order (alone unb-here g.kind refl e ∙ not-false q n) (by (λ (x : StateS) (k : Kind). refs_k x k ask) unb-here g.kind)
          (by (λ (x : StateS) (k : Kind). counts_k y.version x k ask) unb-here g.kind) (by (λ (x : StateS) (k : Kind). scope_k x k ask) unb-here g.kind) (unb-load ask g.kind))
          d unb-is unb-held

  idle-here : st.phase ≡ Idle → here ≡ idle_s unbs refs
  idle-here ph = ap (λ (z : Phase). phased z unbs refs kept) ph

  idle-taken : {k : Kind} → Ready y s st h l b at next k f marks → st.phase ≡ Idle → 8 * st.count + 4 ≤ next
  idle-taken g ph =
      let t : 8 * st.count + 4 * 0 ≤ g.before = subst (λ (z : Phase). 8 * st.count + 4 * open_size z st.message ≤ g.before) ph g.held.taken in
      let n = g.ends in
      omega (arith, t, n)

  module _ (g : Ready y s st h l b at next Unh f marks) (ph : st.phase ≡ Idle) {q : Bool} (e : q ≡ formed y.version ask) where
    unh-order : order_s here ask ≡ true
    unh-order = by order_k (idle-here ph) g.kind

    pub unh-bad : not q ≡ true → {r : Result State Breach} → r ≡ Err (record { number = 8; place = at }) → Told r
    unh-bad n d = stop y.service.release s h l b next (at_8 y.version here ask at unh-order (alone (idle-here ph) g.kind refl e ∙ not-true q n)) d

    -- z is the part of the field that is compared
    module _ (n : not q ≡ false) {x : List ℕ} (z : List ℕ) (field : x ≡ part_of s (component_at y.service s at 1 0)) (bared : content y.service.release z ≡ compared (content y.service.release x)) where
      pub unh-name : length (content y.service.release z) ≤ 14
      unh-name =
          let short = unh-short y.version ask (ap (λ (k : Kind). formed_by y.version k ask) g.kind ∙ sym (formed-by y.version ask) ∙ sym e ∙ not-false q n) in
          let less = compared-short (content y.service.release x) in
          let most : length (content y.service.release x) ≤ 14 = rw field short in
          rw bared (omega (arith, less, most))

      unh-refs : {a : Bool} → among (refs_in l st.count) (content y.service.release z) ≡ a → refs_s here ask ≡ not a
      unh-refs used =
          by (λ (z : StateS) (k : Kind). refs_k z k ask) (idle-here ph) g.kind
          ∙ ap not (sym (ap (among refs) bared ∙ ap (λ (t : List ℕ). among refs (compared (content y.service.release t))) field) ∙ used)

      pub unh-again : (l' : List ℕ) (a : Option ℕ) → OfferIs l b st.count (content y.service.release z) a l' → a ≡ None →
          {r : Result State Breach} → r ≡ Err (record { number = 9; place = at }) → Left l' r
      unh-again l' a o v d =
          let used = (subst (λ (w : Option ℕ). OfferIs l b st.count (content y.service.release z) w l') v o).0 in
          stop y.service.release s h l' b next (at_9 y.version here ask at unh-order (alone (idle-here ph) g.kind refl e ∙ not-false q n) (unh-refs used)) d

      module _ {l' : List ℕ} {k : ℕ} (o : Fitting l b st.count (content y.service.release z) k l') {c : Option Subset} (autack : c ≡ subset_of (text_at y.service s at 2 0) (text_at y.service s at 2 4)) {m : Message} (new : m ≡ fresh c)
          {w : Stretch} (u : w ≡ stretch_in marks 1) where
        unh-part : slice w.start w.end s ≡ x
        unh-part = between (g.noted refl).marks 1 (omega arith) (omega arith) u ∙ sym field

        unh-held : Held y.service.release s (after_unh st k w m) h l' b next
        unh-held =
            let one : m.segments ≡ 1 = ap (λ (x : Message). x.segments) new in
            let t = idle-taken g ph in
            let taken : 8 * st.count + 4 * m.segments ≤ next = omega (arith, one, t) in
            let begun : 1 ≤ m.segments = omega (arith, one) in
            record {
              indexed = o.indexed;
              roomy = subst (λ (x : Message). Roomy x h) (sym new) (roomy-fresh c h);
              begun = begun;
              long = g.held.long;
              taken = taken;
              offered = λ _ r. ((o.next r).0 ∙ bared ∙ sym (ap (λ (v : List ℕ). compared (content y.service.release v)) unh-part), (o.next r).1);
            }

        unh-is : state_in y.service.release s (after_unh st k w m) h l' ≡ next_s here ask
        unh-is =
            ap (λ (x : Summary). busy_s unbs (refs_in l' st.count) x)
            (fresh-summary y.service.release s h w.start w.end ask new autack
            (ap (λ (v : List ℕ). compared (content y.service.release v)) (between (g.noted refl).marks 1 (omega arith) (omega arith) u)))
            ∙ ap (λ (rs : Snoc (List ℕ)). busy_s unbs rs (opened ask)) o.same
            ∙ sym (by (λ (x : StateS) (k : Kind). next_k x k ask) (idle-here ph) g.kind)

        pub unh-read : {x : State} → x ≡ after_unh st k w m → Left l' (Ok x)
        unh-read d =
            go y.service.release s h l' b next
            (at-end y.version here ask at unh-order (alone (idle-here ph) g.kind refl e ∙ not-false q n) (unh-refs o.new)
            (by (λ (x : StateS) (k : Kind). counts_k y.version x k ask) (idle-here ph) g.kind) (by (λ (x : StateS) (k : Kind). scope_k x k ask) (idle-here ph) g.kind) (unh-load ask g.kind))
            d unh-is unh-held

  module _ (g : Ready y s st h l b at next Unz f marks) (ph : st.phase ≡ Idle) where
    unz-order : order_s here ask ≡ any refs
    unz-order = by order_k (idle-here ph) g.kind

    pub unz-none : st.count ≡ 0 → {r : Result State Breach} → r ≡ Err (record { number = 7; place = at }) → Told r
    unz-none z d = stop y.service.release s h l b next (at_7 y.version here ask at (unz-order ∙ ap (λ (n : ℕ). any (refs_in l n)) z)) d

    module _ (some : st.count ≡ 0 → ⊥) {q : Bool} (e : q ≡ formed y.version ask) where
      unz-may : order_s here ask ≡ true
      unz-may = unz-order ∙ any-refs l st.count some

      pub unz-bad : not q ≡ true → {r : Result State Breach} → r ≡ Err (record { number = 8; place = at }) → Told r
      unz-bad n d = stop y.service.release s h l b next (at_8 y.version here ask at unz-may (alone (idle-here ph) g.kind refl e ∙ not-true q n)) d

      module _ (n : not q ≡ false) where
        pub unz-six : in_range (digits 1 6) (text_at y.service s at 1 0) ≡ true
        unz-six = unz-digits y.version ask (ap (λ (k : Kind). formed_by y.version k ask) g.kind ∙ sym (formed-by y.version ask) ∙ sym e ∙ not-false q n)

        module _ {a : Bool} (is : a ≡ repeated_ref y.service s at st.unb) where
          unz-refs : refs_s here ask ≡ a
          unz-refs = by (λ (z : StateS) (k : Kind). refs_k z k ask) (idle-here ph) g.kind ∙ sym is

          pub unz-other : not a ≡ true → {r : Result State Breach} → r ≡ Err (record { number = 9; place = at }) → Told r
          unz-other v d = stop y.service.release s h l b next (at_9 y.version here ask at unz-may (alone (idle-here ph) g.kind refl e ∙ not-false q n) (unz-refs ∙ not-true a v)) d

          module _ (v : not a ≡ false) {k w : ℕ} (number : k ≡ value_from 0 (text_at y.service s at 1 0)) (count : w ≡ st.count) where
            unz-counts : counts_s y.version here ask ≡ eqb (number_at ask 1) (size refs)
            unz-counts = by (λ (z : StateS) (k : Kind). counts_k y.version z k ask) (idle-here ph) g.kind

            pub unz-wrong : (k ≡ w → ⊥) → {r : Result State Breach} → r ≡ Err (record { number = 10; place = at }) → Told r
            unz-wrong c d =
                stop y.service.release s h l b next
                (at-10 y.version here ask at unz-may (alone (idle-here ph) g.kind refl e ∙ not-false q n) (unz-refs ∙ not-false a v)
                (unz-counts ∙ ne_eqb (number_at ask 1) (size refs) (λ i. c (number ∙ i ∙ size-refs l st.count ∙ sym count)))) d

            unz-held : Held y.service.release s (after_other st Done st.count st.message) h l b next
            unz-held =
                let t = idle-taken g ph in
                let taken : 8 * st.count + 4 * 0 ≤ next = omega (arith, t) in
                record {
                  indexed = g.held.indexed;
                  roomy = g.held.roomy;
                  begun = g.held.begun;
                  long = g.held.long;
                  taken = taken;
                  offered = λ c. done-shut c;
                }

            pub unz-read : k ≡ w → {x : State} → x ≡ after_other st Done st.count st.message → Told (Ok x)
            unz-read c d =
                go y.service.release s h l b next
                (at-end y.version here ask at unz-may (alone (idle-here ph) g.kind refl e ∙ not-false q n) (unz-refs ∙ not-false a v)
                (unz-counts ∙ eq-eqb (number_at ask 1) (size refs) (sym number ∙ c ∙ count ∙ sym (size-refs l st.count)))
                (by (λ (x : StateS) (k : Kind). scope_k x k ask) (idle-here ph) g.kind) (unz-load ask g.kind))
                d (sym (by (λ (x : StateS) (k : Kind). next_k x k ask) (idle-here ph) g.kind)) unz-held

  busy-here : st.phase ≡ Busy → here ≡ busy_s unbs refs kept
  busy-here ph = ap (λ (z : Phase). phased z unbs refs kept) ph

  module _ (g : Ready y s st h l b at next Unt f marks) (ph : st.phase ≡ Busy) where
    unt-taken : 8 * st.count + 4 * st.message.segments ≤ g.before
    unt-taken = subst (λ (z : Phase). 8 * st.count + 4 * open_size z st.message ≤ g.before) ph g.held.taken

    unt-room : 2 * st.count + 2 ≤ length l
    unt-room = g.room ph

    pub unt-offered : Offered l b st.count st.slot × (st.count < 65535)
    unt-offered =
        let t = unt-taken in
        let n = g.ends in
        let z = g.short in
        ((g.held.offered ph unt-room).1, omega (arith, t, n, z))

    pub unt-sums : (st.message.segments < 65535) × (st.message.pair.base < 65536) × (st.message.pair.own < 65536)
    unt-sums =
        let t = unt-taken in
        let n = g.ends in
        let z = g.short in
        let i = g.held.roomy.base in
        let j = g.held.roomy.own in
        (omega (arith, t, n, z), omega (arith, t, n, z, i), omega (arith, t, n, z, j))

    module _ {m : Bool} (may : m ≡ may_come Unt st.message) where
      unt-order : order_s here ask ≡ m
      unt-order = by order_k (busy-here ph) g.kind ∙ sym may

      pub unt-none : not m ≡ true → {r : Result State Breach} → r ≡ Err (record { number = 7; place = at }) → Told r
      unt-none z d = stop y.service.release s h l b next (at_7 y.version here ask at (unt-order ∙ not-true m z)) d

      module _ (some : not m ≡ false) {q : Bool} (e : q ≡ formed y.version ask) where
        unt-may : order_s here ask ≡ true
        unt-may = unt-order ∙ not-false m some

        pub unt-bad : not q ≡ true → {r : Result State Breach} → r ≡ Err (record { number = 8; place = at }) → Told r
        unt-bad n d = stop y.service.release s h l b next (at_8 y.version here ask at unt-may (alone (busy-here ph) g.kind refl e ∙ not-true q n)) d

        module _ (n : not q ≡ false) where
          pub unt-six : in_range (digits 1 6) (text_at y.service s at 1 0) ≡ true
          unt-six = unt-digits y.version ask (ap (λ (k : Kind). formed_by y.version k ask) g.kind ∙ sym (formed-by y.version ask) ∙ sym e ∙ not-false q n)

          module _ {a : Bool} (is : a ≡ (repeated_ref y.service s at st.unh && all_named (head_flags h st.message.headers))) where
            unt-refs : refs_s here ask ≡ a
            unt-refs = by (λ (z : StateS) (k : Kind). refs_k z k ask) (busy-here ph) g.kind ∙ sym is

            pub unt-other : not a ≡ true → {r : Result State Breach} → r ≡ Err (record { number = 9; place = at }) → Told r
            unt-other v d = stop y.service.release s h l b next (at_9 y.version here ask at unt-may (alone (busy-here ph) g.kind refl e ∙ not-false q n) (unt-refs ∙ not-true a v)) d

            module _ (v : not a ≡ false) {c : Bool}
                (counts : c ≡ (eqb (number_at ask 1) (st.message.segments + 1) && (pairs_counted y.version st.message.pair && total_right st.message.sums))) where
              unt-counts : counts_s y.version here ask ≡ c
              unt-counts =
                  let i : suc st.message.segments ≡ st.message.segments + 1 = omega arith in
                  by (λ (z : StateS) (k : Kind). counts_k y.version z k ask) (busy-here ph) g.kind
                  ∙ ap (λ (k : ℕ). eqb (number_at ask 1) k && (pairs_counted y.version st.message.pair && total_right st.message.sums)) i ∙ sym counts

              pub unt-wrong : not c ≡ true → {r : Result State Breach} → r ≡ Err (record { number = 10; place = at }) → Told r
              unt-wrong w d =
                  stop y.service.release s h l b next
                  (at-10 y.version here ask at unt-may (alone (busy-here ph) g.kind refl e ∙ not-false q n) (unt-refs ∙ not-false a v) (unt-counts ∙ not-true c w)) d

              module _ (w : not c ≡ false) (b' : List ℕ) (chain : Indexed l b' (st.count + 1)) where
                unt-held : Held y.service.release s (after_other st Idle (st.count + 1) st.message) h l b' next
                unt-held =
                    let t = unt-taken in
                    let i = g.held.begun in
                    let j = g.ends in
                    let taken : 8 * (st.count + 1) + 4 * 0 ≤ next = omega (arith, t, i, j) in
                    record {
                      indexed = chain;
                      roomy = g.held.roomy;
                      begun = g.held.begun;
                      long = g.held.long;
                      taken = taken;
                      offered = λ c. idle-shut c;
                    }

                -- the reference behind the others is the message's
                unt-more : refs_in l (st.count + 1) ≡ refs_in l st.count ▷ compared (content y.service.release (slice st.unh.start st.unh.end s))
                unt-more = ap (refs_in l) (add-one st.count) ∙ ap (λ (t : List ℕ). refs_in l st.count ▷ t) (g.held.offered ph unt-room).0

                unt-is : state_in y.service.release s (after_other st Idle (st.count + 1) st.message) h l ≡ next_s here ask
                unt-is = ap (λ (x : Snoc (List ℕ)). idle_s unbs x) unt-more ∙ sym (by (λ (x : StateS) (k : Kind). next_k x k ask) (busy-here ph) g.kind)

                pub unt-read : {x : State} → x ≡ after_other st Idle (st.count + 1) st.message →
                    StepIs (decided_from y.version (state_in y.service.release s st h l) (asked_at y.service s at) at) (Ok x) y.service.release s h l b' next
                unt-read d =
                    go y.service.release s h l b' next
                    (at-end y.version here ask at unt-may (alone (busy-here ph) g.kind refl e ∙ not-false q n) (unt-refs ∙ not-false a v) (unt-counts ∙ not-false c w)
                    (by (λ (x : StateS) (k : Kind). scope_k x k ask) (busy-here ph) g.kind) (unt-load ask g.kind))
                    d unt-is unt-held

-- ---- UNT's numbers and references, one test after the other

module _ {v k n w : ℕ} (e : n ≡ v) (d : w ≡ k) where
  pub counts-wrong : (b : Bool) → (n ≡ w → ⊥) → false ≡ (eqb v k && b)
  counts-wrong b h = and-stop (sym (ne_eqb v k (λ i. h (e ∙ i ∙ sym d)))) b refl

  module _ (h : n ≡ w) {a p : Bool} (pairs : a ≡ p) where
    pub counts-pairs-wrong : (t : Bool) → not a ≡ true → false ≡ (eqb v k && (p && t))
    counts-pairs-wrong t i = and-go (sym (eq-eqb v k (sym e ∙ h ∙ d))) refl (and-stop pairs t (not-true a i))

    pub counts-pairs-right : {t u : Bool} → not a ≡ false → t ≡ u → t ≡ (eqb v k && (p && u))
    counts-pairs-right i j = and-go (sym (eq-eqb v k (sym e ∙ h ∙ d))) refl (and-go pairs (not-false a i) j)

pub stretch-is : {a b : ℕ} (m : List ℕ) (p : ℕ) → a ≡ start_in m p 0 → b ≡ end_in m p 0 → ◌≡◌ {A = Stretch} (record { start = a; end = b }) (stretch_in m p)
stretch-is m p e d = rw (e, d)

-- a reference compared by content
pub ref-same : (y : Syntax) (s : List ℕ) (at : ℕ) (w : Stretch) {x z : List ℕ} {a : Bool} → x ≡ part_of s (component_at y.service s at 2 0) →
    z ≡ slice w.start w.end s → a ≡ same (compared (content y.service.release x)) (compared (content y.service.release z)) → a ≡ repeated_ref y.service s at w
ref-same y s at w {x} {z} field part is =
    is ∙ ap (λ (t : List ℕ). same (compared (content y.service.release t)) (compared (content y.service.release z))) field
    ∙ ap (λ (t : List ℕ). same (compared (text_at y.service s at 2 0)) (compared (content y.service.release t))) part
