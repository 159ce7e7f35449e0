-- A message that is sealed meets the rules on a message that it met.
use Rattle.std.specs.Prelude.{ℕ, suc, ◌+◌, ◌<◌, ◌≡◌, refl, List, [], ◌∷◌, Bool, true, false, not, cond, ◌&&◌, ◌||◌, T, eqb, leb, None, Some}
use Rattle.std.proofs.Common.{arith, ap, ◌∙◌, sym, subst, T_not, leb→le, le→leb, eqb→eq, eq-eqb}
use Rattle.std.proofs.Math.Option.{some}
use Rattle.syntax.specs.Content.{compared}
use Rattle.syntax.specs.Octets.{octets, same}
use Rattle.syntax.specs.Opening.{earlier}
use Rattle.syntax.proofs.ContentLaws.{same_self}
use Rattle.syntax.proofs.TreeLaws.{off, and_left, and_right}
use Rattle.syntax.specs.declared.Service.{Service}
use Rattle.syntax.specs.declared.Version.{Version}
use Rattle.grammar.specs.Lists.{Snoc, nil, ◌▷◌, ◌+++◌, each, joined, size, among, Rule, always, test, ◌and◌, holds, every, few, distinct}
use Rattle.grammar.proofs.ListsLaws.{size-join}
use Rattle.grammar.specs.TestLaws.{passes}
use Rattle.grammar.specs.RuleLaws.{free-heads}
use Rattle.grammar.specs.Segments.{Unh, seg, number, unh0062, unh0057, unt0062, ust0534, ust0588}
use Rattle.grammar.specs.Interchange.{Leaf, Header, Trailer, trailer, Body, plain, ack, msg, Message, message, show_header, show_trailer, show_body, show_open, show_message}
use Rattle.grammar.specs.declared.Subset.TheVariants.{F01, Gs1}
use Rattle.grammar.specs.Rules.{autack, subset, ok_header, ok_heads, ok_body, whole, ok_message, subset_h, subsets_message, ref_h, ref_t, linked, one, refs_message, size_at, claimed, counted, paired, counts_message, scope_right, scopes_message}
use Rattle.weaving.specs.Seals.{single, usr_leaf, new_header, new_trailer, grown, sealed_message, ref_right, filter_right, takes_more, is_new, may_seal}
use Rattle.demands.specs.SealedListLaws.{front, same-swap, each-front, joined-front, every_front, distinct-front, away, aways, wider, longer, first-among}
use Rattle.demands.specs.SealedNumberLaws.{ref-header, ref-trailer, grown-number, grown-0062}

-- what `may_seal` asks, part by part
pub record May (v : Version) (u : Leaf) (hs : Snoc Header) (r : List ℕ) (f : ℕ) : Type 0 where
  pub ref : T (ref_right r)
  pub filter : T (filter_right v f)
  pub other : T (not (autack u))
  pub few : T (leb (size hs) 8)
  pub new : T (not (among (each ref_h hs) (compared r)))

pub may : (v : Version) (u : Leaf) (hs : Snoc Header) (b : Body) (ts : Snoc Trailer) (r : List ℕ) (f : ℕ) → T (may_seal v (msg u hs b ts) r f) → May v u hs r f
may v u hs b ts r f h =
    let p : T (ref_right r && filter_right v f && takes_more (msg u hs b ts)) = and_left (ref_right r && filter_right v f && takes_more (msg u hs b ts)) (is_new (msg u hs b ts) r) h in
    let w : T (ref_right r && filter_right v f) = and_left (ref_right r && filter_right v f) (takes_more (msg u hs b ts)) p in
    let t : T (not (autack u) && leb (size hs) 8) = and_right (ref_right r && filter_right v f) (takes_more (msg u hs b ts)) p in
    record {
      ref = and_left (ref_right r) (filter_right v f) w;
      filter = and_right (ref_right r) (filter_right v f) w;
      other = and_left (not (autack u)) (leb (size hs) 8) t;
      few = and_right (not (autack u)) (leb (size hs) 8) t;
      new = and_right (ref_right r && filter_right v f && takes_more (msg u hs b ts)) (is_new (msg u hs b ts) r) h;
    }

-- ---- 0588 and the header of a reference

size-other : (n : List ℕ) (x : Header) (hs : Snoc Header) → same (ref_h x) n ≡ false → size_at n (front x hs) ≡ size_at n hs
size-other n x nil e = rw e
size-other n x (hs ▷ h) e = ap (λ (k : ℕ). cond (same (ref_h h) n) (size (show_header h)) k) (size-other n x hs e)

size-new : (r : List ℕ) (x : Header) (hs : Snoc Header) → ref_h x ≡ r → T (not (among (each ref_h hs) r)) → size_at r (front x hs) ≡ size (show_header x)
size-new r x nil e k = rw (e, same_self r)
size-new r x (hs ▷ h) e k = by (same (ref_h h) r) k (size-new r x hs e)
  where
    by : (b : Bool) → T (not (b || among (each ref_h hs) r)) → (T (not (among (each ref_h hs) r)) → size_at r (front x hs) ≡ size (show_header x))
        → cond b (size (show_header h)) (size_at r (front x hs)) ≡ size (show_header x)
    by true k ih = absurd k
    by false k ih = ih k

recount : (r : List ℕ) (x : Header) (hs : Snoc Header) (ts : Snoc Trailer) → ref_h x ≡ r → T (not (among (each ref_h hs) r)) → holds (every (one (each ref_h hs)) (each ref_t ts))
    → holds (every (counted hs) ts) → holds (every (counted (front x hs)) ts)
recount r x hs nil e k n h = tt
recount r x hs (ts ▷ trailer c o) e k n h = (
  recount r x hs ts e k n.0 h.0,
  subst (λ (m : ℕ). T (eqb (claimed (ust0588 c)) (m + size (show_trailer (trailer c o)))))
      (sym (size-other (ust0534 c) x hs (ap (λ (z : List ℕ). same z (ust0534 c)) e ∙ same-swap (ust0534 c) r (away (each ref_h hs) r (ust0534 c) k n.1)))) h.1,
)

-- ---- the segments of a message, four more

size-four : {A : Type 0} (a b c d : Snoc A) → size (a +++ b +++ c +++ d) ≡ size a + size b + size c + size d
size-four a b c d = omega (arith, size-join (a +++ b +++ c) d, size-join (a +++ b) c, size-join a b)

size-open : (v : Version) (r : List ℕ) (f : ℕ) (σ : Service) (t : List ℕ) (u : Leaf) (hs : Snoc Header) (b : Body) (ts : Snoc Trailer)
    → size (show_open (msg u (front (new_header r f) hs) b (ts ▷ new_trailer v σ r t))) ≡ size (show_open (msg u hs b ts)) + 4
size-open v r f σ t u hs b ts =
    let h : size (joined show_header (front (new_header r f) hs)) ≡ 2 + size (joined show_header hs) =
    ap size (joined-front show_header (new_header r f) hs) ∙ size-join (nil +++ show_header (new_header r f)) (joined show_header hs) in
    let e : size (show_open (msg u (front (new_header r f) hs) b ts)) ≡ 1 + size (joined show_header (front (new_header r f) hs)) + size (show_body b) + size (joined show_trailer ts) =
    size-four (nil ▷ seg Unh u) (joined show_header (front (new_header r f) hs)) (show_body b) (joined show_trailer ts) in
    let d : size (show_open (msg u hs b ts)) ≡ 1 + size (joined show_header hs) + size (show_body b) + size (joined show_trailer ts) =
    size-four (nil ▷ seg Unh u) (joined show_header hs) (show_body b) (joined show_trailer ts) in
    let z : size (show_open (msg u (front (new_header r f) hs) b (ts ▷ new_trailer v σ r t))) ≡ suc (suc (size (show_open (msg u (front (new_header r f) hs) b ts)))) = refl in
    omega (arith, h, e, d, z)

-- ---- one message

module _ (v : Version) (r : List ℕ) (f : ℕ) (σ : Service) (t : List ℕ) (u : Leaf) (hs : Snoc Header) (b : Body) (ts : Snoc Trailer) (n : Leaf) (q : May v u hs r f) where
  abbrev was : Message
  was = message (msg u hs b ts) n

  abbrev is : Message
  is = sealed_message (new_header r f) (new_trailer v σ r t) (message (msg u hs b ts) n)

  -- "0 to 9 header groups"
  nine : holds (few 9 (front (new_header r f) hs))
  nine = le→leb (size (front (new_header r f) hs)) 9 (omega (arith, size-join (nil ▷ new_header r f) hs, leb→le (size hs) 8 q.few))

  -- 7
  pub order-sealed : holds (ok_message was) → holds (ok_message is)
  order-sealed o = by b o.0.1.0 o.0.1.1.0 o.1
    where
      led : (b : Body) → holds (ok_heads (subset u) (front (new_header r f) hs) b)
      led b = free-heads u (off (autack u) q.other) (front (new_header r f) hs) b

      by : (b : Body) → holds (every ok_header hs) → holds (ok_body (autack u) hs b) → holds (whole (autack u) b)
          → holds (ok_message (sealed_message (new_header r f) (new_trailer v σ r t) (message (msg u hs b ts) n)))
      by (plain nil) e k w = ((nine, (every_front ok_header (new_header r f) hs (tt, (tt, tt)) e, (tt, (w, led (plain nil))))), w)
      by (plain (c ▷ i)) e k w = ((nine, (every_front ok_header (new_header r f) hs (tt, (tt, tt)) e, (k, (w, led (plain (c ▷ i)))))), w)
      by (ack c ls) e k w = absurd (T_not (autack u) q.other k.0)

  -- 8 of the subset
  pub subsets-sealed : holds (subsets_message was) → holds (subsets_message is)
  subsets-sealed k = (every_front (subset_h (subset u)) (new_header r f) hs tt k.0, k.1)

  -- 9
  abbrev refs_as : Snoc (List ℕ) → Snoc (List ℕ) → Bool → Rule
  refs_as hr tr s = (distinct hr and every (one hr) (linked b) and distinct tr and every (one hr) tr) and test s and every (one tr) hr

  -- a body of a message that is not AUTACK names no header
  unlinked : (b : Body) (s : Snoc (List ℕ)) → holds (ok_body (autack u) hs b) → holds (every (one s) (linked b))
  unlinked (plain b) s o = tt
  unlinked (ack c ls) s o = absurd (T_not (autack u) q.other o.0)

  pub refs-sealed : holds (ok_message was) → holds (refs_message was) → holds (refs_message is)
  refs-sealed o k =
      let hr : Snoc (List ℕ) = each ref_h hs in
      let tr : Snoc (List ℕ) = each ref_t ts in
      let eh : each ref_h (front (new_header r f) hs) ≡ front (compared r) hr = each-front ref_h (new_header r f) hs ∙ ap (λ (x : List ℕ). front x (each ref_h hs)) (ref-header r f) in
      let w : holds (refs_as (front (compared r) hr) (tr ▷ compared r) (same (unt0062 n) (unh0062 u))) = (
        (
          distinct-front (compared r) hr k.0.0 q.new,
          (
            unlinked b (front (compared r) hr) o.0.1.1.0,
            ((k.0.1.1.0, aways hr (compared r) tr q.new k.0.1.1.1), (wider (compared r) hr tr k.0.1.1.1, first-among (compared r) hr)),
          ),
        ),
        (k.1.0, every_front (one (tr ▷ compared r)) (compared r) hr (last-among tr) (longer (compared r) tr hr k.1.1)),
      ) in
      subst (λ (s : List ℕ). holds (refs_as (each ref_h (front (new_header r f) hs)) (each ref_t ts ▷ ref_t (new_trailer v σ r t)) (same s (unh0062 u)))) (sym (grown-0062 n))
      (subst (λ (x : List ℕ). holds (refs_as (each ref_h (front (new_header r f) hs)) (each ref_t ts ▷ x) (same (unt0062 n) (unh0062 u)))) (sym (ref-trailer v σ r t))
      (subst (λ (x : Snoc (List ℕ)). holds (refs_as x (each ref_t ts ▷ compared r) (same (unt0062 n) (unh0062 u)))) (sym eh) w))
    where
      last-among : (s : Snoc (List ℕ)) → T (among (s ▷ compared r) (compared r))
      last-among s = subst (λ (c : Bool). T (c || among s (compared r))) (sym (same_self (compared r))) tt

  -- 10
  -- 0588 of the new pair, where the edition has it
  paired-sealed : holds (refs_message was) → holds (paired v hs ts) → holds (paired v (front (new_header r f) hs) (ts ▷ new_trailer v σ r t))
  paired-sealed k c = by (earlier v) c
    where
      by : (e : Bool) → holds (cond e always (every (counted hs) ts))
          → holds (cond e always (every (counted (front (new_header r f) hs)) (ts ▷ trailer (single r ∷ cond e [] (single (octets "4") ∷ [])) (some (usr_leaf v σ t)))))
      by true c = tt
      by false c = (
        recount (compared r) (new_header r f) hs ts (ref-header r f) q.new k.0.1.1.1 c,
        subst (λ (m : ℕ). T (eqb 4 (m + 2))) (sym (ap (λ (x : List ℕ). size_at x (front (new_header r f) hs)) (ref-trailer v σ r t) ∙ size-new (compared r) (new_header r f) hs (ref-header r f) q.new)) tt,
      )

  pub counts-sealed : number n 1 + 4 < 1000000 → holds (refs_message was) → holds (counts_message v was) → holds (counts_message v is)
  counts-sealed l k c =
      let e : number n 1 ≡ size (show_message was) = eqb→eq (number n 1) (size (show_message was)) c.0 in
      let z : number (grown n) 1 ≡ size (show_message is) = omega (arith, grown-number n l, e, size-open v r f σ t u hs b ts) in (
        passes (eqb (number (grown n) 1) (size (show_message is))) (eq-eqb (number (grown n) 1) (size (show_message is)) z),
        (paired-sealed k c.1.0, c.1.1),
      )

  -- 11
  pub scopes-sealed : holds (scopes_message was) → holds (scopes_message is)
  scopes-sealed k = every_front (scope_right (subset u)) (new_header r f) hs (subst (λ (a : Bool). holds (scope_right (cond a (cond (same (unh0057 u) (octets "EAN001")) (Some Gs1) (Some F01)) None) (new_header r f))) (sym (off (autack u) q.other)) tt) k
