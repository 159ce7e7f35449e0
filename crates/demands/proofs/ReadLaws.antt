-- What the range calls hand back is read in one way: as the parts of the verdict's reading. So equal octets are equal readings.
use Rattle.grammar.specs.declared.Subset.{Subset}
use Rattle.std.specs.Prelude.{ℕ, suc, ◌+◌, ◌-◌, ◌≡◌, refl, List, ◌++◌, Bool, true, false, cond, T, length, Option, None, Some}
use Rattle.std.proofs.Common.{arith, ap, ◌∙◌, sym, subst, append_assoc, T_not, leb→le, le→leb}
use Rattle.std.proofs.Math.Option.{Option as Maybe, some}
use Rattle.std.proofs.Math.IntN.{+ℤ_idr, +ℤ_assoc}
use Rattle.std.proofs.Math.Seq.{slice}
use Rattle.syntax.proofs.BareLaws.{compared-twice}
use Rattle.syntax.specs.Content.{compared}
use Rattle.syntax.specs.Octets.{octets, same}
use Rattle.syntax.specs.Service.{fit}
use Rattle.syntax.specs.Tree.{Segment, print, well}
use Rattle.syntax.proofs.ContentLaws.{same_self}
use Rattle.syntax.proofs.TreeLaws.{and_left, and_right}
use Rattle.syntax.specs.declared.Service.{Service}
use Rattle.syntax.specs.declared.Syntax.{Syntax}
use Rattle.grammar.specs.Lists.{Snoc, nil, ◌▷◌, ◌+++◌, joined, list, each, size, any, check, among, holds, every, few, distinct}
use Rattle.grammar.specs.Grams.{Grams, add_grams, sum}
use Rattle.grammar.specs.Segments.{Unb, Unh, Unt, Unz, seg, unh0062_text, ush0541}
use Rattle.grammar.specs.Interchange.{Leaf, Header, header, Trailer, Body, plain, ack, Open, msg, Message, message, show_header, show_trailer, show_body, show_open, show_message, shown, idle}
use Rattle.grammar.specs.declared.Subset.TheVariants.{F01 as AckF01, Gs1 as AckGs1}
use Rattle.grammar.specs.Rules.{autack, subset, is_autack, ok_header, ok_item, ok_body, ok_message, scope_code, scope_right, scopes_message, ref_m}
use Rattle.grammar.specs.Valid.{Interchange, interchange, Valid, in_force, opening_in}
use Rattle.grammar.specs.Verdict.{Verdict, accepted, verdict_of, loads_b, loads_m, totals_in, totals_by, totals_of}
use Rattle.grammar.proofs.VerdictLaws.{verdict-exact, totals-read}
use Rattle.grammar.specs.StartLaws.{fit-in-force}
use Rattle.grammar.specs.Places.{headers_in, trailers_in}
use Rattle.grammar.specs.Named.{placed, totals_at}
use Rattle.grammar.specs.Counted.{messages_in}
use Rattle.grammar.specs.RuleLaws.{check-holds, is-autack}
use Rattle.grammar.proofs.PlacingLaws.{same-eq, regroup}
use Rattle.spans.specs.Span.{other, run_right}
use Rattle.judge.specs.TotalsLaws.{totals-placed}
use Rattle.groups.specs.StandLaws.{list-join, print-append, well-append, well-parts}
use Rattle.groups.specs.Parts.{scope_h, body_in}
use Rattle.groups.specs.Calls.{given, service_in, message_in}
use Rattle.groups.specs.CallsLaws.{placed-every}
use Rattle.ranges.specs.Ranges.{parts, scope1_of, run, scope2_of}
use Rattle.f01.specs.F01.{f01_of}
use Rattle.scope3.specs.Scope3.{scope3_of}
use Rattle.demands.specs.Printed.{Scope1, Scope2, F01, Scope3}
use Rattle.demands.specs.Stated.{headers_of, body_of, trailers_of}
use Rattle.demands.specs.AskedLaws.{read-stands, message-stands}
use Rattle.demands.specs.PrintedLaws.{scope1-printed, scope2-printed}
use Rattle.demands.specs.OnceLaws.{every_in}
use Rattle.demands.specs.PartedLaws.{other-so, right-run}
use Rattle.demands.proofs.ReferredLaws.{f01-printed}
use Rattle.demands.proofs.Scope3Laws.{scope3-printed}
use Rattle.demands.specs.Range.{Grammar, Reads, Same, total_in, Range1, range1, scope1, Range2, range2, scope2, f01, scope3}
use Rattle.demands.proofs.RangeLaws.{one-reading-1, one-reading-2, one-reading-f01, one-reading-3}
use Rattle.demands.specs.Read.{syntax_by, syntax_of, totals_for, Read1, tree1, Alike1, Read2, tree2, Alike2, ReadF, AlikeF, Read3, Alike3}
use Rattle.grammar.proofs.ListsLaws.{size-join, joined-join, every-left, every-right}
use Rattle.grammar.specs.TestLaws.{is_true, passes, or_left, or_right}

-- ---- in parts

module _ (σ : Service) where
  well-parted : (a b : Snoc Segment) → T (well σ (list (a +++ b))) → T (well σ (list a)) × T (well σ (list b))
  well-parted a b w = well-parts σ (list a) (list b) (subst (λ (l : List Segment). T (well σ l)) (list-join a b) w)

  well-joined : (a b : Snoc Segment) → T (well σ (list a)) → T (well σ (list b)) → T (well σ (list (a +++ b)))
  well-joined a b v w = subst (λ (l : List Segment). T (well σ l)) (sym (list-join a b)) (well-append σ (list a) (list b) v w)

  print-joined : (a b : Snoc Segment) → print σ (list (a +++ b)) ≡ print σ (list a) ++ print σ (list b)
  print-joined a b = ap (print σ) (list-join a b) ∙ print-append σ (list a) (list b)

  -- four parts, one after the other
  print-four : (a b c d : Snoc Segment) → print σ (list (a +++ b +++ c +++ d)) ≡ print σ (list a) ++ (print σ (list b) ++ (print σ (list c) ++ print σ (list d)))
  print-four a b c d =
      print-joined (a +++ b +++ c) d ∙ ap (λ (l : List ℕ). l ++ print σ (list d)) (print-joined (a +++ b) c ∙ ap (λ (l : List ℕ). l ++ print σ (list c)) (print-joined a b))
      ∙ simp append_assoc

  -- a message's headers, body and trailers are well-formed where it is
  parts-written : (o : Open) (t : Leaf) → T (well σ (list (show_message (message o t))))
      → T (well σ (list (joined show_header (headers_in o)))) × T (well σ (list (show_body (body_in o)))) × T (well σ (list (joined show_trailer (trailers_in o))))
  parts-written (msg u hs w ts) t k =
      let a = (well-parted (show_open (msg u hs w ts)) (nil ▷ seg Unt t) k).0 in
      let b = well-parted (nil ▷ seg Unh u +++ joined show_header hs +++ show_body w) (joined show_trailer ts) a in
      let c = well-parted (nil ▷ seg Unh u +++ joined show_header hs) (show_body w) b.0 in
      ((well-parted (nil ▷ seg Unh u) (joined show_header hs) c.0).1, c.1, b.1)

  -- one of a row, and those behind it
  row_written : {A : Type 0} (show : A → Snoc Segment) (xs bs ls : Snoc A) (x : A) → xs ≡ bs ▷ x +++ ls → T (well σ (list (joined show xs)))
      → T (well σ (list (joined show bs))) × T (well σ (list (show x))) × T (well σ (list (joined show ls)))
  row_written show xs bs ls x e w =
      let a = well-parted (joined show (bs ▷ x)) (joined show ls) (subst (λ (z : Snoc Segment). T (well σ (list z))) (ap (joined show) e ∙ joined-join show (bs ▷ x) ls) w) in
      let b = well-parted (joined show bs) (show x) a.0 in
      (b.0, b.1, a.1)

-- ---- the message that is named

pub record Facts (s m : List ℕ) (i : Interchange) (o : Open) (t : Leaf) : Type 0 where
  pub fits : T (fit (service_in i))
  pub ordered : holds (ok_message (message o t))
  pub scoped : holds (scopes_message (message o t))
  pub written : T (well (service_in i) (list (show_message (message o t))))
  pub totals : totals_of s m ≡ totals_for (loads_m (message o t))

valid-so : (s : List ℕ) (i : Interchange) → verdict_of s ≡ accepted i → Valid i
valid-so s i e = ((verdict-exact s i).0 e).0

fits-so : (i : Interchange) → Valid i → T (fit (service_in i))
fits-so i v = subst (λ (y : Maybe Syntax). T (fit (in_force y))) (sym v.named) (fit-in-force i v)

facts-so : (s m : List ℕ) (i : Interchange) (o : Open) (t : Leaf) (q : ℕ) → verdict_of s ≡ accepted i → message_in i m ≡ some (placed (message o t) q) → Facts s m i o t
facts-so s m (interchange n u ms z) o t q e d =
    let v = valid-so s (interchange n u ms z) e in
    let σ : Service = service_in (interchange n u ms z) in
    record {
      fits = fits-so (interchange n u ms z) v;
      ordered = placed-every σ (opening_in n).at u (compared m) ok_message ms d v.in_order.0;
      scoped = placed-every σ (opening_in n).at u (compared m) scopes_message ms d v.scoped;
      written = (message-stands s m (interchange n u ms z) e d).written;
      totals = ap (λ (x : Verdict). totals_by x (compared m)) e ∙ totals-placed σ (opening_in n).at u ms (compared m) ∙ ap totals_at d;
    }

-- ---- its body: a header of scope 1 or 2 is in no AUTACK

pub record Items (b : Body) : Type 0 where
  pub items : Snoc Segment
  pub plainly : b ≡ plain items
  pub free : holds (every ok_item items)

items-so : (hs : Snoc Header) (b : Body) → holds (ok_body false hs b) → Items b
items-so hs (plain nil) k = record { items = nil; plainly = refl; free = tt }
items-so hs (plain (b ▷ i)) k = record { items = b ▷ i; plainly = refl; free = k.1 }
items-so hs (ack c ls) k = absurd k.0

no-autack : (a : Option Subset) (x : Header) (code : List ℕ) → T (scope_code None code) → holds (scope_right a x) → scope_h x ≡ code → is_autack a ≡ false
no-autack (Some AckF01) (header c us cs) code n k e = absurd (subst (λ (l : List ℕ). T (scope_code None l)) (sym e ∙ same-eq (ush0541 c) (octets "F01") k) n)
no-autack (Some AckGs1) (header c us cs) code n k e = absurd (subst (λ (l : List ℕ). T (scope_code None l)) (sym e ∙ same-eq (ush0541 c) (octets "3") k) n)
no-autack None x code n k e = refl

module _ (code : List ℕ) (n : T (scope_code None code)) where
  body-so : (o : Open) (t : Leaf) (x : Header) (bs ls : Snoc Header) → headers_in o ≡ bs ▷ x +++ ls → scope_h x ≡ code
      → holds (ok_message (message o t)) → holds (scopes_message (message o t)) → Items (body_in o)
  body-so (msg u hs w ts) t x bs ls e c k j =
      let y = every-left (scope_right (subset u)) (bs ▷ x) ls (subst (λ (z : Snoc Header). holds (every (scope_right (subset u)) z)) e j) in
      items-so hs w (subst (λ (b : Bool). holds (ok_body b hs w)) (sym (is-autack u) ∙ no-autack (subset u) x code n y.1 c) k.0.1.1.0)

-- those behind one of a row are fewer than all
few-behind : {A : Type 0} (xs bs ls : Snoc A) (x : A) (n : ℕ) → xs ≡ bs ▷ x +++ ls → holds (few (suc n) xs) → holds (few n ls)
few-behind xs bs ls x n e k =
    let a : size xs ≡ size (bs ▷ x +++ ls) = ap size e in
    let b = size-join (bs ▷ x) ls in
    let c = leb→le (size xs) (suc n) k in
    le→leb (size ls) n (omega (arith, a, b, c))

-- the header, and those behind it
headers-so : (o : Open) (t : Leaf) (x : Header) (bs ls : Snoc Header) → headers_in o ≡ bs ▷ x +++ ls → holds (ok_message (message o t))
    → holds (ok_header x) × holds (few 8 ls) × holds (every ok_header ls)
headers-so (msg u hs w ts) t x bs ls e k =
    let y = subst (λ (z : Snoc Header). holds (every ok_header z)) e k.0.1.0 in
    ((every-left ok_header (bs ▷ x) ls y).1, few-behind hs bs ls x 8 e k.0.0, every-right ok_header (bs ▷ x) ls y)

-- loads lie in the body only
loads-so : (o : Open) (t : Leaf) → loads_m (message o t) ≡ loads_b (body_in o)
loads-so (msg u hs w ts) t = refl

-- ---- equal trees, and the syntax of the interchange

same_of : {A : Type 0} (g : Grammar A) (t v : A) → t ≡ v → Same g t v
same_of g t v e = record { tree = e; segments = ap g.segments e; loads = ap g.loads e; total = ap (total_in g) e }

service-so : (s v : List ℕ) (i j : Interchange) → verdict_of s ≡ accepted i → verdict_of v ≡ accepted j → syntax_of s ≡ syntax_of v → service_in i ≡ service_in j
service-so s v i j a b e =
    sym (ap (λ (x : Verdict). in_force (syntax_by x)) a) ∙ ap in_force e ∙ ap (λ (x : Verdict). in_force (syntax_by x)) b

print-as : {σ τ : Service} {a b : Snoc Segment} → σ ≡ τ → a ≡ b → print σ (list a) ≡ print τ (list b)
print-as {τ = τ} {a = a} e d = ap (λ (z : Service). print z (list a)) e ∙ ap (λ (z : Snoc Segment). print τ (list z)) d

reads_as : {A : Type 0} (g : Grammar A) (σ τ : Service) (o p : List ℕ) (t : A) → σ ≡ τ → o ≡ p → Reads g σ o t → Reads g τ p t
reads_as g σ τ o p t e d k = subst (λ (l : List ℕ). Reads g τ l t) d (subst (λ (z : Service). Reads g z o t) e k)

-- ---- scope 1

module _ (s m r : List ℕ) (a b c d : ℕ) where
  read-1 : Scope1 s m r a b c d → Read1 s m r a b c d
  read-1 p =
      let f = facts-so s m p.of.i p.of.o p.of.t p.of.q p.of.read p.of.named in
      let y = body-so (octets "1") tt p.of.o p.of.t p.header p.before p.behind p.whole p.scope f.ordered f.scoped in
      let h = headers-so p.of.o p.of.t p.header p.before p.behind p.whole f.ordered in
      let σ : Service = service_in p.of.i in
      let w = parts-written σ p.of.o p.of.t f.written in
      let wh = row_written σ show_header (headers_in p.of.o) p.before p.behind p.header p.whole w.0 in
      let wb : T (well σ (list y.items)) = subst (λ (z : Body). T (well σ (list (show_body z)))) y.plainly w.1 in
      let ob : slice c d s ≡ print σ (list y.items) = p.body-octets ∙ ap (λ (z : Body). print σ (list (show_body z))) y.plainly in
      let k : Reads scope1 σ (slice a b s ++ slice c d s) (range1 p.header y.items) =
      record {
        ordered = (h.0, y.free);
        written = well-joined σ (show_header p.header) y.items wh.1 wb;
        printed =
            print-joined σ (show_header p.header) y.items ∙ ap (λ (l : List ℕ). l ++ print σ (list y.items)) (sym p.header-octets)
            ∙ ap (λ (l : List ℕ). slice a b s ++ l) (sym ob);
      } in
      record {
        part = p;
        body = y.items;
        plainly = y.plainly;
        reads = k;
        only = λ v q. one-reading-1 σ f.fits (slice a b s ++ slice c d s) v (range1 p.header y.items) q k;
        header-part = p.header-octets;
        body-part = ob;
        totals = f.totals ∙ ap totals_for (loads-so p.of.o p.of.t) ∙ ap (λ (z : Body). totals_for (loads_b z)) y.plainly;
      }

  -- what the scope 1 call hands back has one reading
  pub scope1-read : scope1_of s m r ≡ given (parts a b c d) → Read1 s m r a b c d
  scope1-read e = read-1 (scope1-printed s m r a b c d e)

-- places that are as far apart as equal octets are long
apart : (a b a' b' : ℕ) (l k : List ℕ) → b ≡ a + length l → b' ≡ a' + length k → l ≡ k → b - a ≡ b' - a'
apart a b a' b' l k e f d = let n : length l ≡ length k = ap length d in omega (arith, e, f, n)

abbrev header1 : Range1 → Header
header1 (range1 h b) = h

abbrev body1 : Range1 → Snoc Segment
body1 (range1 h b) = b

module _ (s m r s' m' r' : List ℕ) (a b c d a' b' c' d' : ℕ) where
  pub scope1-same : scope1_of s m r ≡ given (parts a b c d) → scope1_of s' m' r' ≡ given (parts a' b' c' d') → syntax_of s ≡ syntax_of s'
      → slice a b s ++ slice c d s ≡ slice a' b' s' ++ slice c' d' s' → Alike1 s m r a b c d s' m' r' a' b' c' d'
  scope1-same p q e o =
      let x = scope1-read s m r a b c d p in
      let y = scope1-read s' m' r' a' b' c' d' q in
      let σ : Service = service_in x.part.of.i in
      let τ : Service = service_in y.part.of.i in
      let f : σ ≡ τ = service-so s s' x.part.of.i y.part.of.i x.part.of.read y.part.of.read e in
      let t : tree1 x ≡ tree1 y = sym (x.only (tree1 y) (reads_as scope1 τ σ (slice a' b' s' ++ slice c' d' s') (slice a b s ++ slice c d s) (tree1 y) (sym f) (sym o) y.reads)) in
      let ho : slice a b s ≡ slice a' b' s' =
      x.header-part ∙ ap (λ (z : Service). print z (list (show_header x.part.header))) f ∙ ap (λ (z : Range1). print τ (list (show_header (header1 z)))) t ∙ sym y.header-part in
      let bo : slice c d s ≡ slice c' d' s' = x.body-part ∙ ap (λ (z : Service). print z (list x.body)) f ∙ ap (λ (z : Range1). print τ (list (body1 z))) t ∙ sym y.body-part in
      record {
        left = x;
        right = y;
        same = same_of scope1 (tree1 x) (tree1 y) t;
        header-part = ho;
        body-part = bo;
        header-length = apart a b a' b' (slice a b s) (slice a' b' s') x.part.header-end y.part.header-end ho;
        body-length = apart c d c' d' (slice c d s) (slice c' d' s') x.part.body_end y.part.body_end bo;
        totals = x.totals ∙ ap (λ (z : Range1). totals_for (scope1.loads z)) t ∙ sym y.totals;
      }

-- ---- scope 2

abbrev header2 : Range2 → Header
header2 (range2 h hs b ts) = h

abbrev behind2 : Range2 → Snoc Header
behind2 (range2 h hs b ts) = hs

abbrev body2 : Range2 → Snoc Segment
body2 (range2 h hs b ts) = b

abbrev trailers2 : Range2 → Snoc Trailer
trailers2 (range2 h hs b ts) = ts

module _ (s m r : List ℕ) (a b : ℕ) where
  read-2 : Scope2 s m r a b → Read2 s m r a b
  read-2 p =
      let f = facts-so s m p.of.i p.of.o p.of.t p.of.q p.of.read p.of.named in
      let y = body-so (octets "2") tt p.of.o p.of.t p.header p.before p.behind p.headers p.scope f.ordered f.scoped in
      let h = headers-so p.of.o p.of.t p.header p.before p.behind p.headers f.ordered in
      let σ : Service = service_in p.of.i in
      let w = parts-written σ p.of.o p.of.t f.written in
      let wh = row_written σ show_header (headers_in p.of.o) p.before p.behind p.header p.headers w.0 in
      let wt = row_written σ show_trailer (trailers_in p.of.o) p.earlier p.later p.trailer p.trailers w.2 in
      let wb : T (well σ (list y.items)) = subst (λ (z : Body). T (well σ (list (show_body z)))) y.plainly w.1 in
      let front : Snoc Segment = show_header p.header +++ joined show_header p.behind in
      let k : Reads scope2 σ (slice a b s) (range2 p.header p.behind y.items p.earlier) =
      record {
        ordered = (h.0, (h.1, (h.2, y.free)));
        written =
            well-joined σ (front +++ y.items) (joined show_trailer p.earlier)
            (well-joined σ front y.items (well-joined σ (show_header p.header) (joined show_header p.behind) wh.1 wh.2) wb) wt.0;
        printed = sym (p.octets ∙ ap (λ (z : Body). print σ (list (front +++ show_body z +++ joined show_trailer p.earlier))) y.plainly);
      } in
      record {
        part = p;
        body = y.items;
        plainly = y.plainly;
        reads = k;
        split =
            p.octets ∙ ap (λ (z : Body). print σ (list (front +++ show_body z +++ joined show_trailer p.earlier))) y.plainly
            ∙ print-four σ (show_header p.header) (joined show_header p.behind) y.items (joined show_trailer p.earlier);
        only = λ v q. one-reading-2 σ f.fits (slice a b s) v (range2 p.header p.behind y.items p.earlier) q k;
        totals = f.totals ∙ ap totals_for (loads-so p.of.o p.of.t) ∙ ap (λ (z : Body). totals_for (loads_b z)) y.plainly;
      }

  -- what the scope 2 call hands back has one reading
  pub scope2-read : scope2_of s m r ≡ given (run a b) → Read2 s m r a b
  scope2-read e = read-2 (scope2-printed s m r a b e)

module _ (s m r s' m' r' : List ℕ) (a b a' b' : ℕ) where
  pub scope2-same : scope2_of s m r ≡ given (run a b) → scope2_of s' m' r' ≡ given (run a' b') → syntax_of s ≡ syntax_of s' → slice a b s ≡ slice a' b' s'
      → Alike2 s m r a b s' m' r' a' b'
  scope2-same p q e o =
      let x = scope2-read s m r a b p in
      let y = scope2-read s' m' r' a' b' q in
      let σ : Service = service_in x.part.of.i in
      let τ : Service = service_in y.part.of.i in
      let f : σ ≡ τ = service-so s s' x.part.of.i y.part.of.i x.part.of.read y.part.of.read e in
      let t : tree2 x ≡ tree2 y = sym (x.only (tree2 y) (reads_as scope2 τ σ (slice a' b' s') (slice a b s) (tree2 y) (sym f) (sym o) y.reads)) in
      record {
        left = x;
        right = y;
        same = same_of scope2 (tree2 x) (tree2 y) t;
        header = ap header2 t;
        behind = ap behind2 t;
        body = ap body2 t;
        trailers = ap trailers2 t;
        header-octets = print-as f (ap (λ (z : Range2). show_header (header2 z)) t);
        behind-octets = print-as f (ap (λ (z : Range2). joined show_header (behind2 z)) t);
        body-octets = print-as f (ap body2 t);
        trailer-octets = print-as f (ap (λ (z : Range2). joined show_trailer (trailers2 z)) t);
        totals = x.totals ∙ ap (λ (z : Range2). totals_for (scope2.loads z)) t ∙ sym y.totals;
      }

-- ---- F01

-- a 0062 is used once, so a message named by its own is that message
among_there : (bs ls : Snoc Message) (x : Message) → T (among (each ref_m (bs ▷ x +++ ls)) (ref_m x))
among_there bs nil x = or_left (same (ref_m x) (ref_m x)) (among (each ref_m bs) (ref_m x)) (passes (same (ref_m x) (ref_m x)) (same_self (ref_m x)))
among_there bs (ls ▷ l) x = or_right (same (ref_m l) (ref_m x)) (among (each ref_m (bs ▷ x +++ ls)) (ref_m x)) (among_there bs ls x)

-- what a message is compared by is bare already
bare-message : (x : Message) → compared (ref_m x) ≡ ref_m x
bare-message (message (msg h hs b ts) t) = compared-twice (unh0062_text h)

totals-at : (bs ls : Snoc Message) (x : Message) → holds (distinct (each ref_m (bs ▷ x +++ ls))) → totals_in (bs ▷ x +++ ls) (ref_m x) ≡ totals_for (loads_m x)
totals-at bs nil x d = rw (same_self (ref_m x))
totals-at bs (ls ▷ l) x d = by (same (ref_m l) (ref_m x)) (same-eq (ref_m l) (ref_m x)) (totals-at bs ls x d.0)
  where
    by : (b : Bool) → (T b → ref_m l ≡ ref_m x) → totals_in (bs ▷ x +++ ls) (ref_m x) ≡ totals_for (loads_m x)
        → cond b (totals_for (loads_m l)) (totals_in (bs ▷ x +++ ls) (ref_m x)) ≡ totals_for (loads_m x)
    by true f h =
        let k : T (among (each ref_m (bs ▷ x +++ ls)) (ref_m l)) =
        subst (λ (r : List ℕ). T (among (each ref_m (bs ▷ x +++ ls)) r)) (sym (f tt)) (among_there bs ls x) in
        absurd (T_not (among (each ref_m (bs ▷ x +++ ls)) (ref_m l)) d.1 k)
    by false f h = h

-- for each message of a run
totals-each : (ms bs rs ls : Snoc Message) → ms ≡ bs +++ rs +++ ls → holds (distinct (each ref_m ms))
    → each (λ (x : Message). totals_in ms (ref_m x)) rs ≡ each (λ (x : Message). totals_for (loads_m x)) rs
totals-each ms bs nil ls e d = refl
totals-each ms bs (rs ▷ x) ls e d =
    let ih = totals-each ms bs rs (nil ▷ x +++ ls) (e ∙ sym (regroup (bs +++ rs) (nil ▷ x) ls)) d in
    let k : totals_in ms (ref_m x) ≡ totals_for (loads_m x) =
    ap (λ (z : Snoc Message). totals_in z (ref_m x)) e ∙ totals-at (bs +++ rs) ls x (subst (λ (z : Snoc Message). holds (distinct (each ref_m z))) e d) in
    rw (ih, k)

each-as : {A B : Type 0} (f g : A → B) → ((a : A) → f a ≡ g a) → (s : Snoc A) → each f s ≡ each g s
each-as f g h nil = refl
each-as f g h (s ▷ a) = rw (each-as f g h s, h a)

-- the sum of all loads is the sum of the messages' totals
sum-join : (a b : Snoc Grams) → sum (a +++ b) ≡ add_grams (sum a) (sum b)
sum-join a nil = sym (+ℤ_idr (sum a))
sum-join a (b ▷ n) = ap (λ (z : Grams). add_grams z n) (sum-join a b) ∙ +ℤ_assoc (sum a) (sum b) n

sum-each : (ms : Snoc Message) → sum (joined loads_m ms) ≡ sum (each (λ (m : Message). sum (loads_m m)) ms)
sum-each nil = refl
sum-each (ms ▷ m) = sum-join (joined loads_m ms) (loads_m m) ∙ ap (λ (z : Grams). add_grams z (sum (loads_m m))) (sum-each ms)

-- what is known of all messages
messages-ordered : (i : Interchange) → Valid i → holds (every ok_message (messages_in i))
messages-ordered (interchange n u ms z) v = v.in_order.0

messages-distinct : (i : Interchange) → Valid i → holds (distinct (each ref_m (messages_in i)))
messages-distinct (interchange n u ms z) v = v.references.0

messages-written : (s : List ℕ) (i : Interchange) → verdict_of s ≡ accepted i → T (well (service_in i) (list (joined show_message (messages_in i))))
messages-written s (interchange n u ms z) e =
    let σ : Service = service_in (interchange n u ms z) in
    let a = well-parted σ (shown (idle u ms)) (nil ▷ seg Unz z) (read-stands s (interchange n u ms z) e).written in
    (well-parted σ (nil ▷ seg Unb u) (joined show_message ms) a.0).1

module _ (t s m r : List ℕ) (a b : ℕ) where
  read-f : F01 t s m r a b → ReadF t s m r a b
  read-f p =
      let v = valid-so s p.of.to.i p.of.to.read in
      let σ : Service = service_in p.of.to.i in
      let w : messages_in p.of.to.i ≡ p.of.before +++ p.of.run +++ p.of.behind = p.of.whole in
      let right : T (run_right p.of.run) = passes (run_right p.of.run) (right-run p.of.run p.of.some-inside p.of.none_inside) in
      let o = every-left ok_message (p.of.before +++ p.of.run) p.of.behind (subst (λ (z : Snoc Message). holds (every ok_message z)) w (messages-ordered p.of.to.i v)) in
      let wr = subst (λ (z : Snoc Message). T (well σ (list (joined show_message z)))) w (messages-written s p.of.to.i p.of.to.read) in
      let w1 = well-parted σ (joined show_message (p.of.before +++ p.of.run)) (joined show_message p.of.behind)
      (subst (λ (z : Snoc Segment). T (well σ (list z))) (joined-join show_message (p.of.before +++ p.of.run) p.of.behind) wr) in
      let w2 = well-parted σ (joined show_message p.of.before) (joined show_message p.of.run)
      (subst (λ (z : Snoc Segment). T (well σ (list z))) (joined-join show_message p.of.before p.of.run) w1.0) in
      let k : Reads f01 σ (slice a b s) p.of.run =
      record {
        ordered = (
          and_left (any p.of.run) (check (every other p.of.run)) right,
          (
            check-holds (every other p.of.run) (is_true (check (every other p.of.run)) (and_right (any p.of.run) (check (every other p.of.run)) right)),
            every-right ok_message p.of.before p.of.run o,
          ),
        );
        written = w2.1;
        printed = sym p.octets;
      } in
      record {
        part = p;
        reads = k;
        only = λ z q. one-reading-f01 σ (fits-so p.of.to.i v) (slice a b s) z p.of.run q k;
        totals =
            each-as (λ (m : Message). totals_of s (ref_m m)) (λ (m : Message). totals_in (messages_in p.of.to.i) (ref_m m)) (λ m. totals-read s p.of.to.i (ref_m m) v ((verdict-exact s p.of.to.i).0 p.of.to.read).1 ∙ ap (totals_in (messages_in p.of.to.i)) (bare-message m)) p.of.run
            ∙ totals-each (messages_in p.of.to.i) p.of.before p.of.run p.of.behind w (messages-distinct p.of.to.i v);
        total = sum-each p.of.run;
      }

  -- what the F01 call hands back has one reading
  pub f01-read : f01_of t s m r ≡ given (run a b) → ReadF t s m r a b
  f01-read e = read-f (f01-printed t s m r a b e)

module _ (t s m r t' s' m' r' : List ℕ) (a b a' b' : ℕ) where
  pub f01-same : f01_of t s m r ≡ given (run a b) → f01_of t' s' m' r' ≡ given (run a' b') → syntax_of s ≡ syntax_of s' → slice a b s ≡ slice a' b' s'
      → AlikeF t s m r a b t' s' m' r' a' b'
  f01-same p q e o =
      let x = f01-read t s m r a b p in
      let y = f01-read t' s' m' r' a' b' q in
      let σ : Service = service_in x.part.of.to.i in
      let τ : Service = service_in y.part.of.to.i in
      let f : σ ≡ τ = service-so s s' x.part.of.to.i y.part.of.to.i x.part.of.to.read y.part.of.to.read e in
      let k : x.part.of.run ≡ y.part.of.run = sym (x.only y.part.of.run (reads_as f01 τ σ (slice a' b' s') (slice a b s) y.part.of.run (sym f) (sym o) y.reads)) in
      record {
        left = x;
        right = y;
        same = same_of f01 x.part.of.run y.part.of.run k;
        headers = ap (each headers_of) k;
        bodies = ap (each body_of) k;
        trailers = ap (each trailers_of) k;
        octets =
            ap (λ (z : Service). each (λ (m : Message). print z (list (show_message m))) x.part.of.run) f
            ∙ ap (each (λ (m : Message). print τ (list (show_message m)))) k;
        totals = x.totals ∙ ap (each (λ (m : Message). totals_for (loads_m m))) k ∙ sym y.totals;
      }

-- ---- scope 3

module _ (t s m r : List ℕ) (a b : ℕ) where
  read-3 : Scope3 t s m r a b → Read3 t s m r a b
  read-3 p =
      let i : Interchange = p.of.to.i in
      let x : Message = p.of.sealed in
      let v = valid-so s i p.of.to.read in
      let σ : Service = service_in i in
      let w = row_written σ show_message (messages_in i) p.of.there.before p.of.there.behind x p.of.there.whole (messages-written s i p.of.to.read) in
      let k : Reads scope3 σ (slice a b s) x =
      record {
        ordered = (other-so x p.of.other, every_in ok_message (messages-ordered i v) p.of.there);
        written = w.1;
        printed = sym p.octets;
      } in
      record {
        part = p;
        reads = k;
        only = λ z q. one-reading-3 σ (fits-so i v) (slice a b s) z x q k;
        totals =
            totals-read s i (ref_m x) v ((verdict-exact s i).0 p.of.to.read).1 ∙ ap (totals_in (messages_in i)) (bare-message x)
            ∙ ap (λ (z : Snoc Message). totals_in z (ref_m x)) p.of.there.whole
            ∙ totals-at p.of.there.before p.of.there.behind x (subst (λ (z : Snoc Message). holds (distinct (each ref_m z))) p.of.there.whole (messages-distinct i v));
      }

  -- what the scope 3 call hands back has one reading
  pub scope3-read : scope3_of t s m r ≡ given (run a b) → Read3 t s m r a b
  scope3-read e = read-3 (scope3-printed t s m r a b e)

module _ (t s m r t' s' m' r' : List ℕ) (a b a' b' : ℕ) where
  pub scope3-same : scope3_of t s m r ≡ given (run a b) → scope3_of t' s' m' r' ≡ given (run a' b') → syntax_of s ≡ syntax_of s' → slice a b s ≡ slice a' b' s'
      → Alike3 t s m r a b t' s' m' r' a' b'
  scope3-same p q e o =
      let x = scope3-read t s m r a b p in
      let y = scope3-read t' s' m' r' a' b' q in
      let σ : Service = service_in x.part.of.to.i in
      let τ : Service = service_in y.part.of.to.i in
      let f : σ ≡ τ = service-so s s' x.part.of.to.i y.part.of.to.i x.part.of.to.read y.part.of.to.read e in
      let k : x.part.of.sealed ≡ y.part.of.sealed = sym (x.only y.part.of.sealed (reads_as scope3 τ σ (slice a' b' s') (slice a b s) y.part.of.sealed (sym f) (sym o) y.reads)) in
      record {
        left = x;
        right = y;
        same = same_of scope3 x.part.of.sealed y.part.of.sealed k;
        headers = ap headers_of k;
        body = ap body_of k;
        trailers = ap trailers_of k;
        header-octets = print-as f (ap (λ (z : Message). joined show_header (headers_of z)) k);
        body-octets = print-as f (ap (λ (z : Message). show_body (body_of z)) k);
        trailer-octets = print-as f (ap (λ (z : Message). joined show_trailer (trailers_of z)) k);
        totals = x.totals ∙ ap (λ (z : Message). totals_for (scope3.loads z)) k ∙ sym y.totals;
      }
