-- What a call was asked, by what it gave: the reading, the message and the header. And where these stand in the octets.
use Rattle.syntax.specs.declared.Breach.{Breach}
use Rattle.syntax.specs.declared.opening.Start.{Start}
use Rattle.std.specs.Prelude.{ℕ, ◌+◌, ◌≡◌, refl, List, ◌++◌, Bool, true, false, cond, T, length, Result, Ok, Err}
use Rattle.std.proofs.Common.{arith, ap, ◌∙◌, sym, subst}
use Rattle.std.proofs.Math.Option.{Option, none, some}
use Rattle.std.proofs.Math.Seq.{slice}
use Rattle.syntax.specs.Content.{compared}
use Rattle.syntax.specs.declared.Refusal.{Refusal}
use Rattle.syntax.specs.Octets.{octets, same}
use Rattle.syntax.specs.Opening.{begun_of}
use Rattle.syntax.specs.Tree.{Segment, print, well}
use Rattle.syntax.specs.declared.Service.{Service}
use Rattle.grammar.specs.Lists.{Snoc, nil, ◌▷◌, list}
use Rattle.grammar.specs.Segments.{Unz, seg}
use Rattle.grammar.specs.Interchange.{Leaf, Header, Trailer, Body, Open, msg, message, idle, shown, show_message}
use Rattle.grammar.specs.Rules.{ref_h}
use Rattle.grammar.specs.Valid.{Interchange, interchange, opening_in, una_of, reading}
use Rattle.grammar.specs.Verdict.{Verdict, accepted, refused_with, verdict_of, verdict_by}
use Rattle.grammar.specs.Places.{wide}
use Rattle.grammar.proofs.PlacesLaws.{wide-list}
use Rattle.grammar.specs.Named.{Placed, placed}
use Rattle.walk.specs.Layout.{body_at, tail_at}
use Rattle.groups.specs.Stand.{Stand}
use Rattle.groups.specs.StandLaws.{stand-front, stand-slice}
use Rattle.groups.specs.Groups.{Chosen, chosen, chosen_by}
use Rattle.groups.specs.Parts.{scope_h, trailer_named, header_at, header_end, trailer_at}
use Rattle.groups.specs.Calls.{given, refused_as, or_missing, answered_by, then, service_in, message_in}
use Rattle.groups.specs.CallsLaws.{begins, placed-stands, none-some}
use Rattle.ranges.specs.Ranges.{of_scope, header_in, parts, scope1_at, scope1_of, run, scope2_at, scope2_of}

-- ---- what was asked, by what was given

module _ {A : Type 0} where
  pub record Given (s : List ℕ) (f : Interchange → Option A) (a : A) : Type 0 where
    pub i : Interchange
    pub read : verdict_of s ≡ accepted i
    pub gave : f i ≡ some a

  pub missing-given : {B : Type 0} {f : Refusal} {a : A} → refused_as f ≡ given a → B
  missing-given e = let z : ◌≡◌ {A = ℕ} 0 1 = cc in absurd (omega arith)

  pub given_so : (s : List ℕ) (f : Interchange → Option A) (a : A) → answered_by (verdict_of s) f ≡ given a → Given s f a
  given_so s f a e = by (verdict_of s) refl e
    where
      by : (v : Verdict) → verdict_of s ≡ v → answered_by v f ≡ given a → Given s f a
      by (refused_with f') d e = missing-given e
      by (accepted i) d e = each (f i) refl e
        where
          each : (o : Option A) → f i ≡ o → or_missing o ≡ given a → Given s f a
          each none k e = missing-given e
          each (some b) k e = let j : b ≡ a = cc in record { i = i; read = d; gave = k ∙ ap some j }

pub record Then {A B : Type 0} (o : Option A) (f : A → Option B) (b : B) : Type 0 where
  pub a : A
  pub first : o ≡ some a
  pub second : f a ≡ some b

pub then-so : {A B : Type 0} (o : Option A) (f : A → Option B) (b : B) → then o f ≡ some b → Then o f b
then-so none f b e = none-some e
then-so (some a) f b e = record { a = a; first = refl; second = e }

-- ---- the reading stands in the octets

pub read-stands : (s : List ℕ) (i : Interchange) → verdict_of s ≡ accepted i → Stand (service_in i) s (opening_in (una_of i)).at (shown (reading i))
read-stands s i e = by (begun_of s) refl e
  where
    by : (b : Result Start Breach) → begun_of s ≡ b → verdict_by s b ≡ accepted i → Stand (service_in i) s (opening_in (una_of i)).at (shown (reading i))
    by (Err f) d k = let z : ◌≡◌ {A = ℕ} 0 1 = cc in absurd (omega arith)
    by (Ok x) d k =
        let b = begins s i x d e in
        subst (λ (n : ℕ). Stand (service_in i) s n (shown (reading i))) (sym b.at) (subst (λ (σ : Service). Stand σ s x.at (shown (reading i))) (sym b.service) b.stands)

pub message-stands : (s m : List ℕ) (i : Interchange) {o : Open} {t : Leaf} {q : ℕ} → verdict_of s ≡ accepted i → message_in i m ≡ some (placed (message o t) q)
    → Stand (service_in i) s q (show_message (message o t))
message-stands s m (interchange n u ms z) e d =
    placed-stands (service_in (interchange n u ms z)) (opening_in n).at u (compared m) s ms d
    (stand-front (service_in (interchange n u ms z)) s (opening_in n).at (shown (idle u ms)) (nil ▷ seg Unz z) (read-stands s (interchange n u ms z) e))

-- what stands there, in other brackets
pub stand-as : {σ : Service} {s : List ℕ} {p : ℕ} (a b : Snoc Segment) → list a ≡ list b → Stand σ s p a → Stand σ s p b
stand-as {σ} {s} {p} a b e w = record {
  behind = w.behind;
  octets = w.octets ∙ ap (λ (l : List Segment). print σ l ++ w.behind) e;
  written = subst (λ (l : List Segment). T (well σ l)) e w.written;
}

-- the octets from a to b are the printing of these segments, and the places are just as far apart
pub record Part (σ : Service) (s : List ℕ) (a b : ℕ) (gs : Snoc Segment) : Type 0 where
  pub octets : slice a b s ≡ print σ (list gs)
  pub end : b ≡ a + length (slice a b s)

pub part : (σ : Service) (s : List ℕ) (p : ℕ) (gs : Snoc Segment) → Stand σ s p gs → Part σ s p (p + wide σ gs) gs
part σ s p gs w =
    let o = stand-slice σ s p gs w in
    let n : length (slice p (p + wide σ gs) s) ≡ length (print σ (list gs)) = ap length o in
    record { octets = o; end = omega (arith, n, wide-list σ gs) }

pub part_at : {σ : Service} {s : List ℕ} {a b p q : ℕ} {gs : Snoc Segment} → p ≡ a → q ≡ b → Part σ s p q gs → Part σ s a b gs
part_at {σ} {s} {a} {b} {p} {q} {gs} e d x = subst (λ (n : ℕ). Part σ s a n gs) d (subst (λ (n : ℕ). Part σ s n q gs) e x)

-- ---- the message that is named

-- a call asks the message k of what was read
pub asked_of : {X : Type 0} (s k : List ℕ) (ask : Interchange → Placed → Option X) (i : Interchange) (p : Placed) → verdict_of s ≡ accepted i → message_in i k ≡ some p
    → answered_by (verdict_of s) (λ i. then (message_in i k) (ask i)) ≡ or_missing (ask i p)
asked_of s k ask i p v n =
    ap (λ (w : Verdict). answered_by w (λ i. then (message_in i k) (ask i))) v ∙ ap (λ (o : Option Placed). or_missing (then o (ask i))) n

-- ---- the message and the header that a scope call asks for

pub record Asks (s k r code : List ℕ) : Type 0 where
  pub i : Interchange
  pub read : verdict_of s ≡ accepted i
  pub u : Leaf
  pub hs : Snoc Header
  pub b : Body
  pub ts : Snoc Trailer
  pub n : Leaf
  pub q : ℕ
  pub named : message_in i k ≡ some (placed (message (msg u hs b ts) n) q)
  pub ys : Snoc Header
  pub y : Header
  pub chose : chosen_by ref_h hs (compared r) ≡ some (chosen ys y)
  pub scoped : same (scope_h y) code ≡ true

pub header-in : (code r : List ℕ) (u : Leaf) (hs : Snoc Header) (b : Body) (ts : Snoc Trailer) {ys : Snoc Header} {y : Header}
    → chosen_by ref_h hs (compared r) ≡ some (chosen ys y) → same (scope_h y) code ≡ true → header_in code (msg u hs b ts) r ≡ some (chosen ys y)
header-in code r u hs b ts {ys} {y} c d = ap (λ (o : Option (Chosen Header)). then o (of_scope code)) c ∙ ap (λ (t : Bool). cond t (some (chosen ys y)) none) d

module _ (s k r : List ℕ) where
  asks_at : {X : Type 0} (code : List ℕ) (i : Interchange) (p : Placed) (give : (o : Open) (q : ℕ) → Chosen Header → Option X) (at : Placed → Option X) {x : X}
      → ((o : Open) (n : Leaf) (q : ℕ) → at (placed (message o n) q) ≡ then (header_in code o r) (give o q)) → verdict_of s ≡ accepted i → message_in i k ≡ some p → at p ≡ some x → Asks s k r code
  asks_at {X} code i (placed (message (msg u hs b ts) n) q) give at {x} f v m e = by (chosen_by ref_h hs (compared r)) refl (sym (f (msg u hs b ts) n q) ∙ e)
    where
      by : (c : Option (Chosen Header)) → chosen_by ref_h hs (compared r) ≡ c → then (then c (of_scope code)) (give (msg u hs b ts) q) ≡ some x → Asks s k r code
      by none c e = none-some e
      by (some (chosen ys y)) c e = each (same (scope_h y) code) refl e
        where
          each : (t : Bool) → same (scope_h y) code ≡ t → then (cond t (some (chosen ys y)) none) (give (msg u hs b ts) q) ≡ some x → Asks s k r code
          each true d e = record { i = i; read = v; u = u; hs = hs; b = b; ts = ts; n = n; q = q; named = m; ys = ys; y = y; chose = c; scoped = d }
          each false d e = none-some e

  asks-by : {X : Type 0} (code : List ℕ) (at : Interchange → Placed → Option X) (x : X)
      → ((i : Interchange) (p : Placed) → verdict_of s ≡ accepted i → message_in i k ≡ some p → at i p ≡ some x → Asks s k r code)
      → answered_by (verdict_of s) (λ i. then (message_in i k) (at i)) ≡ given x → Asks s k r code
  asks-by code at x f e =
      let g = given_so s (λ i. then (message_in i k) (at i)) x e in
      let p = then-so (message_in g.i k) (at g.i) x g.gave in
      f g.i p.a g.read p.first p.second

  pub asks1 : {a b c d : ℕ} → scope1_of s k r ≡ given (parts a b c d) → Asks s k r (octets "1")
  asks1 {a} {b} {c} {d} e =
      asks-by (octets "1") (λ i p. scope1_at (service_in i) p r) (parts a b c d)
      (λ i p v m g.
      asks_at (octets "1") i p (λ o q h. some (parts (header_at (service_in i) q o h) (header_end (service_in i) q o h) (body_at (service_in i) q o) (tail_at (service_in i) q o)))
      (λ p. scope1_at (service_in i) p r) (λ o n q. refl) v m g)
      e

  pub asks2 : {a b : ℕ} → scope2_of s k r ≡ given (run a b) → Asks s k r (octets "2")
  asks2 {a} {b} e =
      asks-by (octets "2") (λ i p. scope2_at (service_in i) p r) (run a b)
      (λ i p v m g.
      asks_at (octets "2") i p (λ o q h. then (trailer_named o r) (λ x. some (run (header_at (service_in i) q o h) (trailer_at (service_in i) q o x))))
      (λ p. scope2_at (service_in i) p r) (λ o n q. refl) v m g)
      e
