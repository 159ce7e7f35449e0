-- Each step of an open message, a path at a time: it leaves what the rules ask, and every sum stays within its type.
use Rattle.grammar.specs.declared.Subset.{Subset}
use Rattle.std.specs.Prelude.{ℕ, zero, suc, ◌+◌, ◌*◌, ◌-◌, ◌^◌, ◌≤◌, ◌<◌, ◌≡◌, refl, Bool, true, false, cond, not, ◌&&◌, ◌||◌, List, [], ◌∷◌, leb, ltb, length, get_or, Option, Result, Some, None, Ok, Err}
use Rattle.std.proofs.Common.{arith, add-one, ap, sym, ◌∙◌, subst, ltb-true, le-ltb, leb-true, leb-false, le-leb}
use Rattle.std.proofs.Math.Option.{Option as Maybe, none, some}
use Rattle.std.proofs.Math.Seq.{slice}
use Rattle.syntax.specs.Octets.{octets, same, within}
use Rattle.syntax.specs.Content.{content, all_digits, value_from, compared}
use Rattle.syntax.specs.Scanning.{number_in}
use Rattle.syntax.specs.RepertoireLaws.{and_l, and_r}
use Rattle.syntax.specs.Segment.{component_at, part_of}
use Rattle.syntax.specs.declared.Service.{Service}
use Rattle.syntax.specs.declared.Version.{Version}
use Rattle.grammar.specs.Lists.{Snoc, ◌▷◌, among}
use Rattle.grammar.specs.TestLaws.{passes}
use Rattle.grammar.specs.declared.Subset.TheVariants.{F01, Gs1}
use Rattle.grammar.specs.Rules.{claimed, scope_code}
use Rattle.grammar.specs.Segments.{Unt, Unz, Ust, Asked}
use Rattle.grammar.specs.Elements.{Range, not_empty_reference, digits, simple, row, in_range, formed_as, formed_row}
use Rattle.elements.specs.AmountsLaws.{digits-below, tens-below}
use Rattle.elements.specs.Octets.{text_at, asked_at}
use Rattle.elements.specs.Fields.{Marked, start_in, end_in}
use Rattle.elements.specs.FieldsLaws.{marked-absent, marked-part, marked-in}
use Rattle.message.specs.Heads.{head_refs, head_sizes, head_flags, pos_or, Pushed, GrownLast, Named, Small}
use Rattle.message.specs.HeadsLaws.{size-at, found_at, found_some, small-more, small-last, small-push, small-grown, small-name}
use Rattle.message.specs.Summary.{Summary, at_heads, may_come, is_found, free_at, more_in_last, size_in, grown, grown_by, ush_next, usr_next}
use Rattle.message.specs.Steps.{AnswerM, to_m, bad_m, ush_m, ust_m, usy_m, headed, trailed, own_grown, summary_in, Roomy, MovedIs}
use Rattle.message.specs.declared.Group.{Group}
use Rattle.message.specs.declared.Group.TheVariants.{Certificate, Ack, Trailer}
use Rattle.elements.specs.declared.Kind.TheVariants.{Ush}
use Rattle.message.specs.declared.Message.{Message}

-- ---- what the marks give

module _ {σ : Service} {s : List ℕ} {a : ℕ} {m : List ℕ} (g : Marked σ s a m) {p c : ℕ} (l : 1 ≤ p) (h : p ≤ 5) (k : c ≤ 2) where
  pub marked-slice : slice (start_in m p c) (end_in m p c) s ≡ part_of s (component_at σ s a p c)
  marked-slice = by (leb (get_or m (8 * (p - 1)) 0) c) refl
    where
      by : (b : Bool) → leb (get_or m (8 * (p - 1)) 0) c ≡ b → slice (start_in m p c) (end_in m p c) s ≡ part_of s (component_at σ s a p c)
      by true e = rw e (ap (part_of s) (sym (marked-absent g l h (leb-true _ _ e))))
      by false e = rw e (ap (part_of s) (marked-part g l h k (leb-false _ _ e)))

  pub marked-between : {i j : ℕ} → i ≡ start_in m p c → j ≡ end_in m p c → slice i j s ≡ part_of s (component_at σ s a p c)
  marked-between {i} {j} e d = ap (λ (x : ℕ). slice x j s) e ∙ ap (λ (x : ℕ). slice (start_in m p c) x s) d ∙ marked-slice

  pub marked-ends : (start_in m p c ≤ length s) × (end_in m p c ≤ length s)
  marked-ends = by (leb (get_or m (8 * (p - 1)) 0) c) refl
    where
      by : (b : Bool) → leb (get_or m (8 * (p - 1)) 0) c ≡ b → (start_in m p c ≤ length s) × (end_in m p c ≤ length s)
      by true e = rw e (omega arith, omega arith)
      by false e = let w = marked-in g l h k (leb-false _ _ e) in let x = w.order in let z = w.end in rw e (omega (arith, x, z), omega (arith, z))

pub text_at_lem : (σ : Service) (s : List ℕ) (a p c : ℕ) → 1 ≤ p → text_at σ s a p c ≡ content σ.release (part_of s (component_at σ s a p c))
text_at_lem σ s a zero c l = absurd (omega (arith, l))
text_at_lem σ s a (suc p) c l = refl

-- ---- 11: the scope

module _ (σ : Service) (s : List ℕ) (a : ℕ) {x : List ℕ} (e : x ≡ part_of s (component_at σ s a 3 0)) where
  scope-text : (t : List ℕ) → same (content σ.release x) t ≡ same (text_at σ s a 3 0) t
  scope-text t = ap (λ (z : List ℕ). same (content σ.release z) t) e

  module _ {autack : Option Subset} where
    pub scope-autack : {r : Bool} → autack ≡ (Some F01) → r ≡ same (content σ.release x) (octets "F01") → r ≡ scope_code autack (text_at σ s a 3 0)
    scope-autack t q = q ∙ scope-text (octets "F01") ∙ ap (λ (b : Option Subset). scope_code b (text_at σ s a 3 0)) (sym t)

    pub scope-gs1 : {r : Bool} → autack ≡ (Some Gs1) → r ≡ same (content σ.release x) (octets "3") → r ≡ scope_code autack (text_at σ s a 3 0)
    scope-gs1 t q = q ∙ scope-text (octets "3") ∙ ap (λ (b : Option Subset). scope_code b (text_at σ s a 3 0)) (sym t)

    module _ (t : autack ≡ None) {p : Bool} (q : p ≡ same (content σ.release x) (octets "1")) where
      scope-is : (b : Bool) → p ≡ b → scope_code autack (text_at σ s a 3 0) ≡ (b || same (text_at σ s a 3 0) (octets "2"))
      scope-is b h = ap (λ (z : Option Subset). scope_code z (text_at σ s a 3 0)) t ∙ ap (λ (z : Bool). z || same (text_at σ s a 3 0) (octets "2")) (sym (scope-text (octets "1")) ∙ sym q ∙ h)

      pub scope-one : p ≡ true → true ≡ scope_code autack (text_at σ s a 3 0)
      scope-one h = sym (scope-is true h)

      pub scope-two : {r : Bool} → p ≡ false → r ≡ same (content σ.release x) (octets "2") → r ≡ scope_code autack (text_at σ s a 3 0)
      scope-two h f = f ∙ scope-text (octets "2") ∙ sym (scope-is false h)

-- ---- numbers

six-fits : (s : List ℕ) → in_range (digits 1 6) s ≡ true → all_digits s && within 1 15 (length s) ≡ true
six-fits s h =
    let d = and_l (all_digits s) (within 1 6 (length s)) h in
    let w = and_r (all_digits s) (within 1 6 (length s)) h in
    let l = leb-true 1 (length s) (and_l (leb 1 (length s)) (leb (length s) 6) w) in
    let k = leb-true (length s) 6 (and_r (leb 1 (length s)) (leb (length s) 6) w) in
    rw (d, le-leb 1 (length s) l, le-leb (length s) 15 (omega (arith, k)))

pub six-is : (s : List ℕ) → in_range (digits 1 6) s ≡ true → number_in s ≡ Some (value_from 0 s)
six-is s h = rw (six-fits s h)

pub six-below : (s : List ℕ) → in_range (digits 1 6) s ≡ true → value_from 0 s < 1000000
six-below s h =
    let k = digits-below 6 s (passes _ h) in
    let m = tens-below (length s) 6 k.1 in
    omega (arith, k.0, m)

is_same : {n k : ℕ} → Some n ≡ Some k → n ≡ k
is_same e = cc

not_is : {k : ℕ} → None ≡ Some k → ⊥
not_is e = let z : ◌≡◌ {A = ℕ} 0 1 = cc in absurd (omega (arith, z))

module _ (σ : Service) (s : List ℕ) (a p : ℕ) {x : List ℕ} {r : Option ℕ} (l : 1 ≤ p) (h : in_range (digits 1 6) (text_at σ s a p 0) ≡ true)
    (e : x ≡ part_of s (component_at σ s a p 0)) (d : r ≡ number_in (content σ.release x)) where
  number_is : r ≡ Some (value_from 0 (text_at σ s a p 0))
  number_is = d ∙ ap (λ (z : List ℕ). number_in (content σ.release z)) e ∙ ap number_in (sym (text_at_lem σ s a p 0 l)) ∙ six-is (text_at σ s a p 0) h

  pub number-told : {n : ℕ} → r ≡ Some n → (n ≡ value_from 0 (text_at σ s a p 0)) × (n < 1000000)
  number-told {n} q =
      let k : n ≡ value_from 0 (text_at σ s a p 0) = is_same (sym q ∙ number_is) in
      let b = six-below (text_at σ s a p 0) h in
      (k, omega (arith, k, b))

  pub number-never : r ≡ None → ⊥
  number-never q = not_is (sym q ∙ number_is)

-- 0588, by whether it has 1 to 6 digits
module _ (s : List ℕ) {b : Bool} (d : b ≡ in_range (digits 1 6) s) where
  pub claimed-digits : {n : ℕ} → b ≡ true → (n ≡ value_from 0 s) × (n < 1000000) → (n ≡ claimed s) × (n < 1000000)
  claimed-digits t h = (h.0 ∙ sym (ap (λ (c : Bool). cond c (value_from 0 s) 0) (sym d ∙ t)), h.1)

  pub claimed-none : b ≡ false → (0 ≡ claimed s) × (0 < 1000000)
  claimed-none f = (sym (ap (λ (c : Bool). cond c (value_from 0 s) 0) (sym d ∙ f)), omega arith)

-- ---- what a kind that may come and is well formed gives

pub ush-room : (m : Message) → may_come Ush m ≡ true → m.headers < 9
ush-room m e = ltb-true m.headers 9 (and_r (at_heads m.autack m.group) (ltb m.headers 9) e)

pub closed-range : (r : Range) (a : Asked) (p : ℕ) → formed_as (simple (r ∷ [])) a p ≡ true → in_range r (a.text p 0) ≡ true
closed-range r a p e = at (a.repeated p) (in_range r (a.text p 0)) (leb (a.parts p) 1) e
  where
    at : (b c d : Bool) → (not b && (c && true) && d) ≡ true → c ≡ true
    at b true d h = refl
    at true false d h = h
    at false false d h = h

pub unt-digits : (v : Version) (a : Asked) → formed_row (row v Unt) a 1 ≡ true → in_range (digits 1 6) (a.text 1 0) ≡ true
unt-digits v a e = closed-range (digits 1 6) a 1 (and_l (formed_as (simple (digits 1 6 ∷ [])) a 1) (formed_row (simple (not_empty_reference ∷ []) ∷ []) a 2) e)

pub unz-digits : (v : Version) (a : Asked) → formed_row (row v Unz) a 1 ≡ true → in_range (digits 1 6) (a.text 1 0) ≡ true
unz-digits v a e = unt-digits v a e

-- ---- the summary after a step

same-summary : {m m' : Message} {ref : List ℕ} {refs refs' : Snoc (List ℕ)} {sizes sizes' : Snoc ℕ} {flags flags' : Snoc Bool}
    → m ≡ m' → refs ≡ refs' → sizes ≡ sizes' → flags ≡ flags'
    → ◌≡◌ {A = Summary} (record { m = m; ref = ref; refs = refs; sizes = sizes; flags = flags }) (record { m = m'; ref = ref; refs = refs'; sizes = sizes'; flags = flags' })
same-summary p q r t = rw (p, q, r, t)

-- the code's message is the one asked for
pub moved_to : {n n' : Message} (ρ : ℕ) (s : List ℕ) (u w : ℕ) (h : List ℕ) (S : Summary) → n ≡ n' → summary_in ρ s n' u w h ≡ S → Roomy n' h → MovedIs (to_m S) (Ok n) ρ s u w h
moved_to {n} {n'} ρ s u w h S e p g = subst (λ (z : Message). MovedIs (to_m S) (Ok z) ρ s u w h) (sym e) (p, g)

pub roomy-small : {m : Message} {h : List ℕ} → Roomy m h → Small h m.headers m.segments
roomy-small g = record { each = g.sizes }

-- one segment more, in the group q
pub roomy-grown : {m : Message} {h h' : List ℕ} (q : Group) → Roomy m h → Small h' m.headers (suc m.segments) → Roomy (grown m q) h'
roomy-grown q g z = record {
  headers = g.headers;
  loads = omega (arith, g.loads);
  grams = omega (arith, g.grams);
  back = omega (arith, g.back);
  base = omega (arith, g.base);
  own = omega (arith, g.own);
  sizes = z.each;
}

-- ---- USA, USC, and the USR of a certificate

module _ {m : Message} {h : List ℕ} (g : Roomy m h) (f : m.segments < 65535) where
  pub grow-last-room : (0 < m.headers → get_or h (4 * (m.headers - 1) + 2) 0 < 2 ^ 32)
  grow-last-room l = small-last (roomy-small g) (omega (arith, f)) l

  pub header-moved : {h' : List ℕ} {n : Message} (q : Group) → GrownLast h h' m.headers → n ≡ grown m q → (ρ : ℕ) (s : List ℕ) (u w : ℕ)
      → MovedIs (to_m (grown_by (summary_in ρ s m u w h) q (more_in_last (head_sizes h m.headers)))) (Ok n) ρ s u w h'
  header-moved q b e ρ s u w = moved_to ρ s u w _ _ e (same-summary refl (b.refs ρ s) b.sizes b.flags) (roomy-grown q g (small-grown (roomy-small g) b))

-- ---- USR

-- in a certificate it is as `header-moved` says
pub usr-certificate : (m : Message) (h : List ℕ) {n k : ℕ} {b : Bool} (r : Result Message ℕ) (h' : List ℕ) → m.group ≡ Certificate n k b
    → ((ρ : ℕ) (s : List ℕ) (u w : ℕ) → MovedIs (to_m (grown_by (summary_in ρ s m u w h) (Certificate n k true) (more_in_last (head_sizes h m.headers)))) r ρ s u w h')
    → (ρ : ℕ) (s : List ℕ) (u w : ℕ) → MovedIs (to_m (usr_next (summary_in ρ s m u w h) m.group)) r ρ s u w h'
usr-certificate m h r h' e p ρ s u w = subst (λ (z : Group). MovedIs (to_m (usr_next (summary_in ρ s m u w h) z)) r ρ s u w h') (sym e) (p ρ s u w)

module _ {m : Message} {h : List ℕ} (g : Roomy m h) where
  pub usr-trailer : {b : Bool} {n : Message} → m.group ≡ Trailer b → n ≡ own_grown m → (ρ : ℕ) (s : List ℕ) (u w : ℕ)
      → MovedIs (to_m (usr_next (summary_in ρ s m u w h) m.group)) (Ok n) ρ s u w h
  usr-trailer {b} {n} e d ρ s u w =
      subst (λ (z : Group). MovedIs (to_m (usr_next (summary_in ρ s m u w h) z)) (Ok n) ρ s u w h) (sym e)
      (moved_to ρ s u w h _ d refl
      (record {
        headers = g.headers;
        loads = omega (arith, g.loads);
        grams = omega (arith, g.grams);
        back = omega (arith, g.back);
        base = omega (arith, g.base);
        own = omega (arith, g.own);
        sizes = (small-more (roomy-small g) (suc m.segments) (omega arith)).each;
      }))

  -- elsewhere it does nothing
  pub usr-idle : (z : Group) → m.group ≡ z → ((S : Summary) → usr_next S z ≡ S) → (ρ : ℕ) (s : List ℕ) (u w : ℕ)
      → MovedIs (to_m (usr_next (summary_in ρ s m u w h) m.group)) (Ok m) ρ s u w h
  usr-idle z e i ρ s u w =
      subst (λ (q : Summary). MovedIs (to_m q) (Ok m) ρ s u w h) (sym (ap (usr_next (summary_in ρ s m u w h)) e ∙ i (summary_in ρ s m u w h))) (refl, g)

-- ---- USH

module _ (σ : Service) (s : List ℕ) (a : ℕ) (m : Message) (h : List ℕ) where
  ush-is : (u w : ℕ) (b c : Bool) → among (head_refs σ.release s h m.headers) (compared (text_at σ s a 2 0)) ≡ b → scope_code m.autack (text_at σ s a 3 0) ≡ c
      → ush_m (summary_in σ.release s m u w h) (asked_at σ s a) ≡ cond (not b) (cond c (to_m (ush_next (summary_in σ.release s m u w h) (asked_at σ s a))) (bad_m 11)) (bad_m 9)
  ush-is u w b c p q = rw (p, q)

  module _ {x : List ℕ} {b : Bool} (e : x ≡ part_of s (component_at σ s a 2 0)) (d : b ≡ among (head_refs σ.release s h m.headers) (compared (content σ.release x))) where
    ush-among : (v : Bool) → b ≡ v → among (head_refs σ.release s h m.headers) (compared (text_at σ s a 2 0)) ≡ v
    ush-among v t = sym (d ∙ ap (λ (z : List ℕ). among (head_refs σ.release s h m.headers) (compared (content σ.release z))) e) ∙ t

    pub ush-named : (h' : List ℕ) → b ≡ true → (u w : ℕ) → MovedIs (ush_m (summary_in σ.release s m u w h) (asked_at σ s a)) (Err 9) σ.release s u w h'
    ush-named h' t u w =
        subst (λ (A : AnswerM). MovedIs A (Err 9) σ.release s u w h') (sym (ush-is u w true (scope_code m.autack (text_at σ s a 3 0)) (ush-among true t) refl)) refl

    module _ (t : b ≡ false) {c : Bool} (f : c ≡ scope_code m.autack (text_at σ s a 3 0)) where
      pub ush-scope : (h' : List ℕ) → c ≡ false → (u w : ℕ) → MovedIs (ush_m (summary_in σ.release s m u w h) (asked_at σ s a)) (Err 11) σ.release s u w h'
      ush-scope h' k u w = subst (λ (A : AnswerM). MovedIs A (Err 11) σ.release s u w h') (sym (ush-is u w false false (ush-among false t) (sym f ∙ k))) refl

      module _ (k : c ≡ true) (g : Roomy m h) (l : m.headers < 9) {h' : List ℕ} {i j : ℕ} (p : Pushed h h' m.headers i j)
          (q : slice i j s ≡ part_of s (component_at σ s a 2 0)) where
        ush-summary : (u w : ℕ) → summary_in σ.release s (headed m) u w h' ≡ ush_next (summary_in σ.release s m u w h) (asked_at σ s a)
        ush-summary u w =
            same-summary refl
            (ap (head_refs σ.release s h') (sym (add-one m.headers)) ∙ p.refs σ.release s ∙ ap (λ (z : List ℕ). head_refs σ.release s h m.headers ▷ compared (content σ.release z)) q)
            (ap (head_sizes h') (sym (add-one m.headers)) ∙ p.sizes)
            (ap (head_flags h') (sym (add-one m.headers)) ∙ p.flags)

        ush-roomy : Roomy (headed m) h'
        ush-roomy = record {
          headers = omega (arith, l);
          loads = omega (arith, g.loads);
          grams = omega (arith, g.grams);
          back = omega (arith, g.back);
          base = omega (arith, g.base);
          own = omega (arith, g.own);
          sizes = λ n o. (small-push (roomy-small g) p).each n (omega (arith, o));
        }

        pub ush-moved : {n : Message} → n ≡ headed m → (u w : ℕ) → MovedIs (ush_m (summary_in σ.release s m u w h) (asked_at σ s a)) (Ok n) σ.release s u w h'
        ush-moved {n} o u w =
            subst (λ (A : AnswerM). MovedIs A (Ok n) σ.release s u w h') (sym (ush-is u w false true (ush-among false t) (sym f ∙ k)))
            (moved_to σ.release s u w h' _ o (ush-summary u w) ush-roomy)

-- ---- UST

not_found : (o : Maybe ℕ) → is_found o ≡ false → o ≡ none
not_found none e = refl
not_found (some i) e = cc

module _ (σ : Service) (s : List ℕ) (a : ℕ) (m : Message) (h : List ℕ) where
  abbrev free : List ℕ → Maybe ℕ
  free x = free_at x (head_refs σ.release s h m.headers) (head_flags h m.headers)

  module _ {i : ℕ} (ust-place : i ≡ pos_or m.headers (free_at (compared (text_at σ s a 1 0)) (head_refs σ.release s h m.headers) (head_flags h m.headers))) where
    pub ust-bad : (h' : List ℕ) → m.headers ≤ i → (u w : ℕ)
        → MovedIs (ust_m (summary_in σ.release s m u w h) (asked_at σ s a) (free_at (compared (text_at σ s a 1 0)) (head_refs σ.release s h m.headers) (head_flags h m.headers))) (Err 9) σ.release s u w h'
    ust-bad h' l u w =
        let k : free (compared (text_at σ s a 1 0)) ≡ none =
        not_found (free (compared (text_at σ s a 1 0))) (found_at σ.release s h (compared (text_at σ s a 1 0)) m.headers ∙ le-ltb _ _ (subst (λ (z : ℕ). m.headers ≤ z) ust-place l)) in
        subst (λ (o : Maybe ℕ). MovedIs (ust_m (summary_in σ.release s m u w h) (asked_at σ s a) o) (Err 9) σ.release s u w h') (sym k) refl

    module _ (l : i < m.headers) (g : Roomy m h) {h' : List ℕ} (p : Named h h' m.headers i) where
      ust-found : free (compared (text_at σ s a 1 0)) ≡ some i
      ust-found = found_some m.headers (free (compared (text_at σ s a 1 0))) (subst (λ (z : ℕ). z < m.headers) ust-place l) ∙ ap some (sym ust-place)

      pub ust-moved : {n : Message} {k : ℕ} → k ≡ claimed (text_at σ s a 2 0) → n ≡ trailed m k (get_or h (4 * i + 2) 0) → (u w : ℕ)
          → MovedIs (ust_m (summary_in σ.release s m u w h) (asked_at σ s a) (free_at (compared (text_at σ s a 1 0)) (head_refs σ.release s h m.headers) (head_flags h m.headers))) (Ok n) σ.release s u w h'
      ust-moved {n} {k} c o u w =
          subst (λ (z : Maybe ℕ). MovedIs (ust_m (summary_in σ.release s m u w h) (asked_at σ s a) z) (Ok n) σ.release s u w h') (sym ust-found)
          (moved_to σ.release s u w h' _ (o ∙ same) (same-summary refl (p.refs σ.release s) p.sizes p.flags) roomy)
        where
          same : trailed m k (get_or h (4 * i + 2) 0) ≡ trailed m (claimed (text_at σ s a 2 0)) (size_in (head_sizes h m.headers) i)
          same = ap (λ (z : ℕ). trailed m z (get_or h (4 * i + 2) 0)) c ∙ ap (trailed m (claimed (text_at σ s a 2 0))) (sym (size-at h m.headers i l))

          roomy : Roomy (trailed m (claimed (text_at σ s a 2 0)) (size_in (head_sizes h m.headers) i)) h'
          roomy = record {
            headers = g.headers;
            loads = omega (arith, g.loads);
            grams = omega (arith, g.grams);
            back = omega (arith, g.back);
            base = omega (arith, size-at h m.headers i l, g.sizes i l);
            own = omega arith;
            sizes = (small-more (small-name (roomy-small g) p) (suc m.segments) (omega arith)).each;
          }

-- ---- USY

module _ (σ : Service) (s : List ℕ) (a : ℕ) (m : Message) (h : List ℕ) {x : List ℕ} {b : Bool} (e : x ≡ part_of s (component_at σ s a 1 0))
    (d : b ≡ among (head_refs σ.release s h m.headers) (compared (content σ.release x))) where
  usy-is : (v : Bool) → b ≡ v → (u w : ℕ) → usy_m (summary_in σ.release s m u w h) (asked_at σ s a) ≡ cond v (to_m (grown_by (summary_in σ.release s m u w h) (Ack true true) (head_sizes h m.headers))) (bad_m 9)
  usy-is v t u w =
      ap (λ (z : Bool). cond z (to_m (grown_by (summary_in σ.release s m u w h) (Ack true true) (head_sizes h m.headers))) (bad_m 9))
      (sym (d ∙ ap (λ (z : List ℕ). among (head_refs σ.release s h m.headers) (compared (content σ.release z))) e) ∙ t)

  pub usy-bad : b ≡ false → (u w : ℕ) → MovedIs (usy_m (summary_in σ.release s m u w h) (asked_at σ s a)) (Err 9) σ.release s u w h
  usy-bad t u w = subst (λ (A : AnswerM). MovedIs A (Err 9) σ.release s u w h) (sym (usy-is false t u w)) refl

  pub usy-moved : b ≡ true → Roomy m h → {n : Message} → n ≡ grown m (Ack true true) → (u w : ℕ)
      → MovedIs (usy_m (summary_in σ.release s m u w h) (asked_at σ s a)) (Ok n) σ.release s u w h
  usy-moved t g {n} o u w =
      subst (λ (A : AnswerM). MovedIs A (Ok n) σ.release s u w h) (sym (usy-is true t u w))
      (moved_to σ.release s u w h _ o refl (roomy-grown (Ack true true) g (small-more (roomy-small g) (suc m.segments) (omega arith))))
