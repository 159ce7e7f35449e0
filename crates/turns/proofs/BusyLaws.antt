-- A segment in an open message: what its kind does (StepsLaws, ItemsLaws), and from that the step's answer and the state after it.
use Rattle.syntax.specs.declared.Breach.{Breach}
use Rattle.std.specs.Prelude.{ℕ, suc, ◌+◌, ◌*◌, ◌≤◌, ◌<◌, ◌≡◌, refl, Bool, true, false, cond, not, ◌&&◌, List, length, Result, Ok, Err}
use Rattle.std.proofs.Common.{arith, ap, sym, subst, ◌∙◌}
use Rattle.std.proofs.lemmas.Bool.{false≢true}
use Rattle.std.proofs.Math.Option.{Option, none, some}
use Rattle.std.proofs.Math.Seq.{slice}
use Rattle.syntax.specs.Content.{content, compared}
use Rattle.syntax.specs.RepertoireLaws.{and_l, and_r}
use Rattle.syntax.specs.declared.Service.{Service}
use Rattle.syntax.specs.declared.Syntax.{Syntax}
use Rattle.syntax.specs.declared.Version.{Version}
use Rattle.grammar.specs.Lists.{Snoc, any, among}
use Rattle.grammar.specs.Segments.{Asked}
use Rattle.grammar.specs.Elements.{formed, in_range, digits}
use Rattle.grammar.specs.Rules.{scope_code}
use Rattle.grammar.specs.Loads.{load_in, load_right, control_right}
use Rattle.elements.specs.Kinds.{tag_kind}
use Rattle.elements.specs.Octets.{asked_at}
use Rattle.elements.specs.Formed.{control_of, formed_by, subset_by}
use Rattle.elements.specs.FormedLaws.{formed-by}
use Rattle.message.specs.Heads.{head_sizes}
use Rattle.message.specs.HeadsLaws.{small-more}
use Rattle.references.specs.Refs.{refs_in}
use Rattle.message.specs.Summary.{Summary, StateS, busy_s, order_s, subset_s, refs_k, counts_k, scope_k, is_found, free_at, more_in_last, at_start, at_idle, at_busy, may_come, usr_may, usa_group, usc_group, grown, grown_by, ush_next, usr_next, ust_next, item_next, loaded, busy_next, AnswerS, read_s, refused_s, ref_in}
use Rattle.message.specs.Steps.{AnswerM, to_m, bad_m, ust_m, step_m, summary_in, Roomy, MovedIs}
use Rattle.message.specs.StepsLaws.{moved_to, roomy-small, roomy-grown}
use Rattle.message.specs.ItemsLaws.{cnt-tag, not-true, not-false}
use Rattle.turns.proofs.WalkingLaws.{free-load, at_7, at_8, stop}
use Rattle.turns.specs.Held.{phased, state_in, after_other, open_size, Held, Ready, decided_from, StepIs}
use Rattle.elements.specs.declared.Kind.{Kind}
use Rattle.elements.specs.declared.Kind.TheVariants.{Unb, Unh, Unt, Unz, Ush, Usa, Usc, Usr, Ust, Usb, Usx, Usy, Reserved, Qty, Cnt, Other}
use Rattle.message.specs.declared.Group.{Group}
use Rattle.message.specs.declared.Group.TheVariants.{Opened, Header, Certificate, Body, Ack, Trailer}
use Rattle.message.specs.declared.Message.{Message}
use Rattle.elements.specs.declared.fields.Shape.{Shape}
use Rattle.turns.specs.declared.state.Phase.{Phase}
use Rattle.turns.specs.declared.state.Phase.TheVariants.{Start, Idle, Busy, Done}
use Rattle.turns.specs.declared.state.State.{State}

-- ---- an arm of a match on the kind

pub may-to : {k : Kind} (m : Message) (j : Kind) → k ≡ j → may_come k m ≡ true → may_come j m ≡ true
may-to m j f h = ap (λ (x : Kind). may_come x m) (sym f) ∙ h

formed-to : (v : Version) (a : Asked) {k : Kind} → k ≡ tag_kind a.tag → (j : Kind) → k ≡ j → formed v a ≡ true → formed_by v j a ≡ true
formed-to v a e j f h = ap (λ (x : Kind). formed_by v x a) (sym f ∙ e) ∙ sym (formed-by v a) ∙ h

pub cnt-right : (v : Version) (a : Asked) {k : Kind} → k ≡ tag_kind a.tag → k ≡ Cnt → formed v a ≡ true → control_right a ≡ true
cnt-right v a e f h = let w = and_r (not a.any_repeated) (control_of a) (formed-to v a e Cnt f h) in rw (cnt-tag a.tag (sym e ∙ f)) w

module _ (σ : Service) (s : List ℕ) (at : ℕ) (m : Message) (h : List ℕ) (r : Result Message ℕ) (h' : List ℕ) {k : Kind} where
  pub step-arm : (j : Kind) → k ≡ j → ((u w : ℕ) → MovedIs (step_m j (summary_in σ.release s m u w h) (asked_at σ s at)) r σ.release s u w h') →
      (u w : ℕ) → MovedIs (step_m k (summary_in σ.release s m u w h) (asked_at σ s at)) r σ.release s u w h'
  step-arm j f g u w = subst (λ (x : Kind). MovedIs (step_m x (summary_in σ.release s m u w h) (asked_at σ s at)) r σ.release s u w h') (sym f) (g u w)

-- USA and USC, by the group after them
module _ (σ : Service) (s : List ℕ) (at : ℕ) (m : Message) (h : List ℕ) (r : Result Message ℕ) (h' : List ℕ) {q : Group}
    (g : (ρ : ℕ) (t : List ℕ) (u w : ℕ) → MovedIs (to_m (grown_by (summary_in ρ t m u w h) q (more_in_last (head_sizes h m.headers)))) r ρ t u w h') where
  header-by : (d : Group) → q ≡ d → (u w : ℕ) → MovedIs (to_m (grown_by (summary_in σ.release s m u w h) d (more_in_last (head_sizes h m.headers)))) r σ.release s u w h'
  header-by d e u w =
      subst (λ (x : Group). MovedIs (to_m (grown_by (summary_in σ.release s m u w h) x (more_in_last (head_sizes h m.headers)))) r σ.release s u w h') e (g σ.release s u w)

  pub usa-arm : {k : Kind} → k ≡ Usa → q ≡ usa_group m.group → (u w : ℕ) → MovedIs (step_m k (summary_in σ.release s m u w h) (asked_at σ s at)) r σ.release s u w h'
  usa-arm f e = step-arm σ s at m h r h' Usa f (header-by (usa_group m.group) e)

  pub usc-arm : {k : Kind} → k ≡ Usc → q ≡ usc_group m.group → (u w : ℕ) → MovedIs (step_m k (summary_in σ.release s m u w h) (asked_at σ s at)) r σ.release s u w h'
  usc-arm f e = step-arm σ s at m h r h' Usc f (header-by (usc_group m.group) e)

-- a USX leaves the headers as they are
pub usx-arm : (σ : Service) (s : List ℕ) (at : ℕ) (m : Message) (h : List ℕ) (n : Message) {k : Kind} → k ≡ Usx → Roomy m h → n ≡ grown m (Ack true false) →
    (u w : ℕ) → MovedIs (step_m k (summary_in σ.release s m u w h) (asked_at σ s at)) (Ok n) σ.release s u w h
usx-arm σ s at m h n f g e =
    step-arm σ s at m h (Ok n) h Usx f
    (λ u w. moved_to σ.release s u w h _ e refl (roomy-grown (Ack true false) g (small-more (roomy-small g) (suc m.segments) (omega arith))))

-- ---- 12 is QTY's alone

abbrev is_qty : Kind → Bool
is_qty Unb = false
is_qty Unh = false
is_qty Unt = false
is_qty Unz = false
is_qty Ush = false
is_qty Usa = false
is_qty Usc = false
is_qty Usr = false
is_qty Ust = false
is_qty Usb = false
is_qty Usx = false
is_qty Usy = false
is_qty Reserved = false
is_qty Qty = true
is_qty Cnt = false
is_qty Other = false

load-right : (a : Asked) (k : Kind) → k ≡ tag_kind a.tag → is_qty k ≡ false → load_right a ≡ true
load-right a k e n = free-load a (λ q. false≢true (sym n ∙ ap is_qty (e ∙ q)))

-- ---- the answer of a segment that may come and is well formed

abbrev pub from_m : List ℕ → Snoc (List ℕ) → ℕ → AnswerM → AnswerS
from_m u rs p (to_m S) = read_s (busy_s u rs S)
from_m u rs p (bad_m n) = refused_s n p

-- 9 to 12
abbrev busy_rest : Version → List ℕ → Snoc (List ℕ) → Summary → Asked → ℕ → Kind → AnswerS
busy_rest v u rs S a p k =
    cond (refs_k (busy_s u rs S) k a)
    (cond (counts_k v (busy_s u rs S) k a)
    (cond (scope_k (busy_s u rs S) k a) (cond (load_right a) (read_s (busy_next k u rs S a)) (refused_s 12 p)) (refused_s 11 p)) (refused_s 10 p)) (refused_s 9 p)

abbrev GrowsM : ℕ → AnswerM → Type 0
GrowsM n (to_m S) = S.m.segments ≡ suc n
GrowsM n (bad_m k) = n ≡ n

module _ (u : List ℕ) (rs : Snoc (List ℕ)) (S : Summary) (a : Asked) (p : ℕ) where
  load-go : load_right a ≡ true → (A : AnswerS) → cond (load_right a) A (refused_s 12 p) ≡ A
  load-go l A = ap (λ (b : Bool). cond b A (refused_s 12 p)) l

  ush-rest : (x z : Bool) → load_right a ≡ true →
      cond x (cond z (cond (load_right a) (read_s (busy_s u rs (ush_next S a))) (refused_s 12 p)) (refused_s 11 p)) (refused_s 9 p)
      ≡ from_m u rs p (cond x (cond z (to_m (ush_next S a)) (bad_m 11)) (bad_m 9))
  ush-rest true true l = load-go l _
  ush-rest true false l = refl
  ush-rest false z l = refl

  ust-rest : (o : Option ℕ) → load_right a ≡ true →
      cond (is_found o) (cond (load_right a) (read_s (busy_s u rs (ust_next S a o))) (refused_s 12 p)) (refused_s 9 p) ≡ from_m u rs p (ust_m S a o)
  ust-rest none l = refl
  ust-rest (some i) l = load-go l _

  one-rest : (x : Bool) (n : ℕ) (T : Summary) → cond x (read_s (busy_s u rs T)) (refused_s n p) ≡ from_m u rs p (cond x (to_m T) (bad_m n))
  one-rest true n T = refl
  one-rest false n T = refl

  usy-rest : (x : Bool) (T : Summary) → load_right a ≡ true →
      cond x (cond (load_right a) (read_s (busy_s u rs T)) (refused_s 12 p)) (refused_s 9 p) ≡ from_m u rs p (cond x (to_m T) (bad_m 9))
  usy-rest true T l = load-go l _
  usy-rest false T l = refl

  rest-is : (v : Version) (k : Kind) → at_busy false false false true false k ≡ false → may_come k S.m ≡ true → (is_qty k ≡ false → load_right a ≡ true) →
      busy_rest v u rs S a p k ≡ from_m u rs p (step_m k S a)
  rest-is v Unb n m l = absurd (false≢true m)
  rest-is v Unh n m l = absurd (false≢true m)
  rest-is v Unt n m l = absurd (false≢true (sym n))
  rest-is v Unz n m l = absurd (false≢true m)
  rest-is v Ush n m l = ush-rest (not (among S.refs (ref_in a 2))) (scope_code S.m.autack (a.text 3 0)) (l refl)
  rest-is v Usa n m l = load-go (l refl) _
  rest-is v Usc n m l = load-go (l refl) _
  rest-is v Usr n m l = load-go (l refl) _
  rest-is v Ust n m l = ust-rest (free_at (ref_in a 1) S.refs S.flags) (l refl)
  rest-is v Usb n m l = load-go (l refl) _
  rest-is v Usx n m l = load-go (l refl) _
  rest-is v Usy n m l = usy-rest (among S.refs (ref_in a 1)) (grown_by S (Ack true true) S.sizes) (l refl)
  rest-is v Reserved n m l = absurd (false≢true m)
  rest-is v Qty n m l = one-rest (load_right a) 12 (item_next S (loaded S.m.sums (load_in a)))
  rest-is v Cnt n m l = load-go (l refl) _
  rest-is v Other n m l = load-go (l refl) _

  pub busy-by : (v : Version) {k : Kind} → k ≡ tag_kind a.tag → at_busy false false false true false k ≡ false → may_come k S.m ≡ true →
      (formed v a && subset_by k S.m.autack a) ≡ true → decided_from v (busy_s u rs S) a p ≡ from_m u rs p (step_m k S a)
  busy-by v {k} e n m f =
      ap (λ (z : Kind). cond (may_come z S.m) (cond (formed v a && subset_by z S.m.autack a) (busy_rest v u rs S a p z) (refused_s 8 p)) (refused_s 7 p)) (sym e)
      ∙ ap (λ (c : Bool). cond c (cond (formed v a && subset_by k S.m.autack a) (busy_rest v u rs S a p k) (refused_s 8 p)) (refused_s 7 p)) m
      ∙ ap (λ (c : Bool). cond c (busy_rest v u rs S a p k) (refused_s 8 p)) f ∙ rest-is v k n m (load-right a k e)

-- it is one segment more
module _ (S : Summary) (a : Asked) where
  ush-grows : (x z : Bool) → GrowsM S.m.segments (cond x (cond z (to_m (ush_next S a)) (bad_m 11)) (bad_m 9))
  ush-grows true true = refl
  ush-grows true false = refl
  ush-grows false z = refl

  usr-grows : (g : Group) → usr_may g ≡ true → GrowsM S.m.segments (to_m (usr_next S g))
  usr-grows Opened h = absurd (false≢true h)
  usr-grows (Header n) h = absurd (false≢true h)
  usr-grows (Certificate n m r) h = refl
  usr-grows Body h = absurd (false≢true h)
  usr-grows (Ack l y) h = absurd (false≢true h)
  usr-grows (Trailer r) h = refl

  ust-grows : (o : Option ℕ) → GrowsM S.m.segments (ust_m S a o)
  ust-grows none = refl
  ust-grows (some i) = refl

  one_grows : (x : Bool) (n : ℕ) (T : Summary) → T.m.segments ≡ suc S.m.segments → GrowsM S.m.segments (cond x (to_m T) (bad_m n))
  one_grows true n T e = e
  one_grows false n T e = refl

  step-grows : (k : Kind) → may_come k S.m ≡ true → GrowsM S.m.segments (step_m k S a)
  step-grows Unb h = refl
  step-grows Unh h = refl
  step-grows Unt h = refl
  step-grows Unz h = refl
  step-grows Ush h = ush-grows (not (among S.refs (ref_in a 2))) (scope_code S.m.autack (a.text 3 0))
  step-grows Usa h = refl
  step-grows Usc h = refl
  step-grows Usr h = usr-grows S.m.group h
  step-grows Ust h = ust-grows (free_at (ref_in a 1) S.refs S.flags)
  step-grows Usb h = refl
  step-grows Usx h = refl
  step-grows Usy h = one_grows (among S.refs (ref_in a 1)) 9 (grown_by S (Ack true true) S.sizes) refl
  step-grows Reserved h = refl
  step-grows Qty h = one_grows (load_right a) 12 (item_next S (loaded S.m.sums (load_in a))) refl
  step-grows Cnt h = refl
  step-grows Other h = refl

-- ---- the step in an open message

-- UNB's 0020, and the open message
abbrev unb_in : ℕ → List ℕ → State → List ℕ
unb_in ρ s st = compared (content ρ (slice st.unb.start st.unb.end s))

abbrev open_in : ℕ → List ℕ → State → List ℕ → Summary
open_in ρ s st h = summary_in ρ s st.message st.unh.start st.unh.end h

-- the answers on the segment at p, of the rules and of what its kind does
abbrev pub decided_at : Syntax → List ℕ → State → List ℕ → List ℕ → ℕ → AnswerS
decided_at y s st h l p = decided_from y.version (state_in y.service.release s st h l) (asked_at y.service s p) p

abbrev moved_at : Syntax → List ℕ → State → List ℕ → ℕ → Kind → AnswerM
moved_at y s st h p k = step_m k (summary_in y.service.release s st.message st.unh.start st.unh.end h) (asked_at y.service s p)

refused-by : (U : List ℕ) (RS : Snoc (List ℕ)) (p : ℕ) (A : AnswerM) (n ρ : ℕ) (s h l b : List ℕ) (i u w : ℕ) → MovedIs A (Err n) ρ s u w h →
    StepIs (from_m U RS p A) (Err (record { number = n; place = p })) ρ s h l b i
refused-by U RS p (to_m S) n ρ s h l b i u w g = absurd g
refused-by U RS p (bad_m k) n ρ s h l b i u w g = (g, refl)

module _ (ρ : ℕ) (s : List ℕ) (st : State) (h l b : List ℕ) (p i q : ℕ) (g : Held ρ s st h l b i) (e : st.phase ≡ Busy) (d : i + 4 ≤ q) where
  held_on : {z : Message} {h' : List ℕ} → Roomy z h' → length h' ≡ 36 → z.segments ≡ suc st.message.segments →
      Held ρ s (after_other st Busy st.count z) h' l b q
  held_on {z} f o n = record {
    indexed = g.indexed;
    roomy = f;
    begun = omega (arith, n);
    long = o;
    taken =
        let t : 8 * st.count + 4 * st.message.segments ≤ i = subst (λ (x : Phase). 8 * st.count + 4 * open_size x st.message ≤ i) e g.taken in
        omega (arith, t, n, d);
    offered = λ _ r. g.offered e r;
  }

  read_by : (A : AnswerM) (z : Message) (h' : List ℕ) → length h' ≡ 36 → GrowsM st.message.segments A → MovedIs A (Ok z) ρ s st.unh.start st.unh.end h' →
      StepIs (from_m (unb_in ρ s st) (refs_in l st.count) p A)
      (Ok (after_other st Busy st.count z)) ρ s h' l b q
  read_by (to_m S) z h' o n f = (
    ap (busy_s (unb_in ρ s st) (refs_in l st.count)) f.0,
    held_on f.1 o (ap (λ (T : Summary). T.m.segments) f.0 ∙ n),
  )
  read_by (bad_m k) z h' o n f = absurd f

module _ {y : Syntax} {s : List ℕ} {st : State} {h l b : List ℕ} {p q : ℕ} {k : Kind} {f : Shape} {marks : List ℕ} (g : Ready y s st h l b p q k f marks)
    (busy : st.phase ≡ Busy) where
  pub busy-room : st.message.segments < 65535
  busy-room =
      let t : 8 * st.count + 4 * st.message.segments ≤ g.before
      = subst (λ (x : Phase). 8 * st.count + 4 * open_size x st.message ≤ g.before) busy g.held.taken in
      omega (arith, t, g.ends, g.short)

  busy-state : state_in y.service.release s st h l
      ≡ busy_s (unb_in y.service.release s st) (refs_in l st.count)
      (open_in y.service.release s st h)
  busy-state =
      ap (λ (x : Phase). phased x (unb_in y.service.release s st) (refs_in l st.count)
      (open_in y.service.release s st h)) busy

  module _ {c : Bool} (may : c ≡ may_come k st.message) where
    order_is : order_s (state_in y.service.release s st h l) (asked_at y.service s p) ≡ c
    order_is = ap (λ (X : StateS). order_s X (asked_at y.service s p)) busy-state ∙ ap (λ (x : Kind). may_come x st.message) (sym g.kind) ∙ sym may

    pub busy-7 : not c ≡ true → {r : Result State Breach} → r ≡ Err (record { number = 7; place = p }) →
        StepIs (decided_at y s st h l p) r y.service.release s h l b q
    busy-7 o d = stop y.service.release s h l b q (at_7 y.version (state_in y.service.release s st h l) (asked_at y.service s p) p (order_is ∙ not-true c o)) d

    module _ (o : not c ≡ false) {x : Bool} (form : x ≡ (formed y.version (asked_at y.service s p) && subset_by k st.message.autack (asked_at y.service s p))) where
      form-is : (formed y.version (asked_at y.service s p) && subset_s (state_in y.service.release s st h l) (asked_at y.service s p)) ≡ x
      form-is =
          ap (λ (X : StateS). formed y.version (asked_at y.service s p) && subset_s X (asked_at y.service s p)) busy-state
          ∙ ap (λ (j : Kind). formed y.version (asked_at y.service s p) && subset_by j st.message.autack (asked_at y.service s p)) (sym g.kind) ∙ sym form

      pub busy-8 : not x ≡ true → {r : Result State Breach} → r ≡ Err (record { number = 8; place = p }) →
          StepIs (decided_at y s st h l p) r y.service.release s h l b q
      busy-8 t d =
          stop y.service.release s h l b q (at_8 y.version (state_in y.service.release s st h l) (asked_at y.service s p) p (order_is ∙ not-false c o) (form-is ∙ not-true x t)) d

      module _ (t : not x ≡ false) where
        pub busy-passed : (may_come k st.message ≡ true) × (formed y.version (asked_at y.service s p) ≡ true)
        busy-passed = (sym may ∙ not-false c o, and_l (formed y.version (asked_at y.service s p)) (subset_by k st.message.autack (asked_at y.service s p)) (sym form ∙ not-false x t))

        module _ (n : at_busy false false false true false k ≡ false) where
          decided-is : decided_at y s st h l p
              ≡ from_m (unb_in y.service.release s st) (refs_in l st.count) p
              (moved_at y s st h p k)
          decided-is =
              ap (λ (X : StateS). decided_from y.version X (asked_at y.service s p) p) busy-state
              ∙ busy-by _ _ (open_in y.service.release s st h) (asked_at y.service s p) p y.version g.kind n busy-passed.0 (sym form ∙ not-false x t)

          module _ (x' : Result Message ℕ) (h' : List ℕ)
              (moved : (u w : ℕ) → MovedIs (step_m k (summary_in y.service.release s st.message u w h) (asked_at y.service s p)) x' y.service.release s u w h') where
            moved_here : MovedIs (moved_at y s st h p k) x' y.service.release s st.unh.start st.unh.end h'
            moved_here = moved st.unh.start st.unh.end

            pub busy-bad : {i : ℕ} → x' ≡ Err i → {r : Result State Breach} → r ≡ Err (record { number = i; place = p }) →
                StepIs (decided_at y s st h l p) r y.service.release s h' l b q
            busy-bad {i} e {r} d =
                subst (λ (A : AnswerS). StepIs A r y.service.release s h' l b q) (sym decided-is)
                (subst (λ (z : Result State Breach). StepIs (from_m (unb_in y.service.release s st) (refs_in l st.count) p (moved_at y s st h p k)) z y.service.release s h' l b q) (sym d)
                (refused-by (unb_in y.service.release s st) (refs_in l st.count) p (moved_at y s st h p k) i y.service.release s h' l b q st.unh.start st.unh.end
                (subst (λ (z : Result Message ℕ). MovedIs (moved_at y s st h p k) z y.service.release s st.unh.start st.unh.end h') e moved_here)))

            pub busy-on : {z : Message} → x' ≡ Ok z → length h' ≡ 36 → {v : State} → v ≡ after_other st Busy st.count z →
                StepIs (decided_at y s st h l p) (Ok v) y.service.release s h' l b q
            busy-on {z} e o {v} d =
                subst (λ (A : AnswerS). StepIs A (Ok v) y.service.release s h' l b q) (sym decided-is)
                (subst (λ (w : State). StepIs (from_m (unb_in y.service.release s st) (refs_in l st.count) p (moved_at y s st h p k)) (Ok w) y.service.release s h' l b q) (sym d)
                (read_by y.service.release s st h l b p g.before q g.held busy g.ends
                (moved_at y s st h p k) z h' o
                (step-grows (open_in y.service.release s st h) (asked_at y.service s p) k busy-passed.0)
                (subst (λ (i : Result Message ℕ). MovedIs (moved_at y s st h p k) i y.service.release s st.unh.start st.unh.end h') e moved_here)))

-- ---- a segment by its kind; one that has no place outside a message

module _ {y : Syntax} {s : List ℕ} {st : State} {h l b : List ℕ} {p q : ℕ} {k : Kind} {f : Shape} {marks : List ℕ} (g : Ready y s st h l b p q k f marks) where
  pub ready_at : {j : Kind} → k ≡ j → Ready y s st h l b p q j f marks
  ready_at e = subst (λ (x : Kind). Ready y s st h l b p q x f marks) e g

  phase-7 : (x : Phase) → st.phase ≡ x → ((U : List ℕ) (RS : Snoc (List ℕ)) (S : Summary) → order_s (phased x U RS S) (asked_at y.service s p) ≡ false) →
      {r : Result State Breach} → r ≡ Err (record { number = 7; place = p }) →
      StepIs (decided_at y s st h l p) r y.service.release s h l b q
  phase-7 x e o d =
      stop y.service.release s h l b q (at_7 y.version (state_in y.service.release s st h l) (asked_at y.service s p) p
      (ap (λ (z : Phase). order_s (phased z (unb_in y.service.release s st) (refs_in l st.count)
      (open_in y.service.release s st h)) (asked_at y.service s p)) e ∙ o _ _ _)) d

  pub start-7 : st.phase ≡ Start → at_start true false k ≡ false → {r : Result State Breach} → r ≡ Err (record { number = 7; place = p }) →
      StepIs (decided_at y s st h l p) r y.service.release s h l b q
  start-7 e o d = phase-7 Start e (λ U RS S. ap (at_start true false) (sym g.kind) ∙ o) d

  pub idle-7 : st.phase ≡ Idle → ((x : Bool) → at_idle true x false k ≡ false) → {r : Result State Breach} → r ≡ Err (record { number = 7; place = p }) →
      StepIs (decided_at y s st h l p) r y.service.release s h l b q
  idle-7 e o d = phase-7 Idle e (λ U RS S. ap (at_idle true (any RS) false) (sym g.kind) ∙ o (any RS)) d

  pub done-7 : st.phase ≡ Done → {r : Result State Breach} → r ≡ Err (record { number = 7; place = p }) →
      StepIs (decided_at y s st h l p) r y.service.release s h l b q
  done-7 e d = phase-7 Done e (λ U RS S. refl) d
