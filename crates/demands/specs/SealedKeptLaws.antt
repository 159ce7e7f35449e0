-- Ranges of headers that were there keep their octets.
use Rattle.std.specs.Prelude.{ℕ, ◌≡◌, refl, List, Bool, true, false, not, cond, T}
use Rattle.std.proofs.Common.{ap, ◌∙◌, sym}
use Rattle.std.proofs.Math.Option.{some}
use Rattle.syntax.specs.Content.{compared}
use Rattle.syntax.specs.Octets.{octets, same}
use Rattle.syntax.specs.Tree.{print}
use Rattle.syntax.specs.declared.Service.{Service}
use Rattle.grammar.specs.Lists.{Snoc, nil, ◌▷◌, each, among, list}
use Rattle.grammar.specs.Interchange.{Leaf, Header, Trailer, Body, msg, Message, message, show_header, show_body}
use Rattle.grammar.specs.Rules.{ref_h, ref_t}
use Rattle.grammar.specs.Valid.{Interchange, interchange, opening_in}
use Rattle.grammar.specs.Verdict.{accepted, verdict_of}
use Rattle.grammar.proofs.VerdictLaws.{accepted-one}
use Rattle.grammar.specs.TestLaws.{passes}
use Rattle.grammar.proofs.PlacingLaws.{same-eq, regroup}
use Rattle.grammar.specs.Named.{placed, placed_in}
use Rattle.groups.specs.Groups.{chosen, chosen_by}
use Rattle.groups.specs.GroupsLaws.{Among, chosen-among}
use Rattle.groups.specs.Calls.{given, service_in, version_in, message_in}
use Rattle.ranges.specs.Ranges.{parts, run, scope1_of, scope2_of}
use Rattle.weaving.specs.Seals.{new_header, new_trailer, grown, sealed_message, sealed, text_by}
use Rattle.demands.specs.Sealed.{sealed_by, Kept1, Kept2}
use Rattle.demands.specs.SealedListLaws.{front, same-swap, away, chosen-old}
use Rattle.demands.specs.SealedNumberLaws.{ref-trailer}
use Rattle.demands.specs.SealedTreeLaws.{placed-sealed, placed-other}
use Rattle.demands.specs.AskedLaws.{Asks, asks1, asks2}
use Rattle.demands.specs.GivenLaws.{There1, there1, stands1, run_of, There2, there2, tail-so, stands2}

-- ---- the sealed interchange: its service characters, the message that is sealed, and the others

pub service-sealed : (i : Interchange) (m : List ℕ) (h : Header) (t : Trailer) → service_in (sealed i m h t) ≡ service_in i
service-sealed (interchange n u ms z) m h t = refl

pub version-sealed : (i : Interchange) (m : List ℕ) (h : Header) (t : Trailer) → version_in (sealed i m h t) ≡ version_in i
version-sealed (interchange n u ms z) m h t = refl

pub message-sealed : (i : Interchange) (m : List ℕ) (h : Header) (t : Trailer) {x : Message} {q : ℕ} → message_in i m ≡ some (placed x q) → message_in (sealed i m h t) m ≡ some (placed (sealed_message h t x) q)
message-sealed (interchange n u ms z) m h t e = placed-sealed h t (compared m) (service_in (interchange n u ms z)) (opening_in n).at u ms e

pub message-other : (i : Interchange) (m : List ℕ) (h : Header) (t : Trailer) (k : List ℕ) {x : Message} {q : ℕ} → same (compared m) (compared k) ≡ false → message_in i k ≡ some (placed x q)
    → (j : ℕ) × (message_in (sealed i m h t) k ≡ some (placed x j))
message-other (interchange n u ms z) m h t k d e = placed-other h t (compared m) (service_in (interchange n u ms z)) (opening_in n).at u (compared k) d ms e

-- references that are compared alike name the same message
pub message-as : (i : Interchange) (m k : List ℕ) → compared m ≡ compared k → message_in i m ≡ message_in i k
message-as (interchange n u ms z) m k e = ap (placed_in (service_in (interchange n u ms z)) (opening_in n).at u ms) e

-- ---- the ranges

module _ (s m r : List ℕ) (f : ℕ) (v x : List ℕ) (i : Interchange) (read : verdict_of s ≡ accepted i) (reads : verdict_of x ≡ accepted (sealed_by i m r f v)) where
  abbrev H : Header
  H = new_header r f

  abbrev R : Interchange → Trailer
  R i = new_trailer (version_in i) (service_in i) r (text_by f v)

  reads_as : (j : Interchange) → verdict_of s ≡ accepted j → verdict_of x ≡ accepted (sealed_by j m r f v)
  reads_as j d = reads ∙ ap (λ (i : Interchange). accepted (sealed_by i m r f v)) (accepted-one (sym read ∙ d))

  -- what was asked of a message is asked of it again, now that it is sealed
  abbrev again : {k h code : List ℕ} (w : Asks s k h code) → same (compared m) (compared k) ≡ true → Asks x k h code
  again {k} {h} w d =
      let e : compared m ≡ compared k = same-eq (compared m) (compared k) (passes (same (compared m) (compared k)) d) in
      let n : message_in w.i m ≡ some (placed (message (msg w.u w.hs w.b w.ts) w.n) w.q) = message-as w.i m k e ∙ w.named in
      record {
        i = sealed_by w.i m r f v;
        read = reads_as w.i w.read;
        u = w.u;
        hs = front H w.hs;
        b = w.b;
        ts = w.ts ▷ R w.i;
        n = grown w.n;
        q = w.q;
        named = message-as (sealed_by w.i m r f v) k m (sym e) ∙ message-sealed w.i m H (R w.i) n;
        ys = front H w.ys;
        y = w.y;
        chose = chosen-old ref_h (compared h) H w.hs w.chose;
        scoped = w.scoped;
      }

  -- and of another message, which is as it was
  abbrev aside : {k h code : List ℕ} (w : Asks s k h code) → same (compared m) (compared k) ≡ false → Asks x k h code
  aside {k} w d =
      let o = message-other w.i m H (R w.i) k d w.named in
      record {
        i = sealed_by w.i m r f v;
        read = reads_as w.i w.read;
        u = w.u;
        hs = w.hs;
        b = w.b;
        ts = w.ts;
        n = w.n;
        q = o.0;
        named = o.1;
        ys = w.ys;
        y = w.y;
        chose = w.chose;
        scoped = w.scoped;
      }

  -- scope 1: the header and the body stand in the new range
  still1 : (k h : List ℕ) (w : Asks s k h (octets "1")) → There1 x k h (service_in (sealed_by w.i m r f v)) w.y w.b
  still1 k h w = by (same (compared m) (compared k)) refl
    where
      by : (c : Bool) → same (compared m) (compared k) ≡ c → There1 x k h (service_in (sealed_by w.i m r f v)) w.y w.b
      by true d = there1 x k h (again w d)
      by false d = there1 x k h (aside w d)

  pub scope1-kept : (k h : List ℕ) (a b c d : ℕ) → scope1_of s k h ≡ given (parts a b c d) → Kept1 s x k h a b c d
  scope1-kept k h a b c d e =
      let w = asks1 s k h e in
      let o = stands1 s k h w e in
      let n = still1 k h w in
      let σ : service_in (sealed_by w.i m r f v) ≡ service_in w.i = service-sealed w.i m H (R w.i) in
      record {
        header = n.start;
        header-end = n.end;
        body = n.body;
        body_end = n.body_end;
        range = n.range;
        header-octets = n.header-part.octets ∙ ap (λ (z : Service). print z (list (show_header w.y))) σ ∙ sym o.0.octets;
        body-octets = n.body-part.octets ∙ ap (λ (z : Service). print z (list (show_body w.b))) σ ∙ sym o.1.octets;
      }

  -- scope 2: the REF is new among the headers of the message that is named, whatever else it has
  module _ (new : (u : Leaf) (hs : Snoc Header) (b : Body) (ts : Snoc Trailer) (n : Leaf) (q : ℕ) → message_in i m ≡ some (placed (message (msg u hs b ts) n) q) → T (not (among (each ref_h hs) (compared r)))) where
    still2 : (k h : List ℕ) (w : Asks s k h (octets "2")) (es : Snoc Trailer) (e : Trailer) → chosen_by ref_t w.ts (compared h) ≡ some (chosen es e) → (p : Among ref_h (compared h) w.hs w.ys w.y)
        → There2 x k h (service_in (sealed_by w.i m r f v)) (run_of w.y p.rest w.b es)
    still2 k h w es e l p = by (same (compared m) (compared k)) refl
      where
        by : (c : Bool) → same (compared m) (compared k) ≡ c → There2 x k h (service_in (sealed_by w.i m r f v)) (run_of w.y p.rest w.b es)
        by true d =
            let g : compared m ≡ compared k = same-eq (compared m) (compared k) (passes (same (compared m) (compared k)) d) in
            let j : i ≡ w.i = accepted-one (sym read ∙ w.read) in
            let a : T (not (among (each ref_h w.hs) (compared r))) =
            new w.u w.hs w.b w.ts w.n w.q (ap (λ (i : Interchange). message_in i m) j ∙ message-as w.i m k g ∙ w.named) in
            let z : same (ref_t (R w.i)) (compared h) ≡ false =
            ap (λ (y : List ℕ). same y (compared h)) (ref-trailer (version_in w.i) (service_in w.i) r (text_by f v)) ∙ same-swap (compared h) (compared r) (away (each ref_h w.hs) (compared r) (compared h) a p.there) in
            there2 x k h (again w d) p.rest es e (ap (front H) p.whole ∙ regroup (nil ▷ H) (w.ys ▷ w.y) p.rest)
            (ap (λ (c : Bool). cond c (some (chosen w.ts (R w.i))) (chosen_by ref_t w.ts (compared h))) z ∙ l)
        by false d = there2 x k h (aside w d) p.rest es e p.whole l

    pub scope2-kept : (k h : List ℕ) (a b : ℕ) → scope2_of s k h ≡ given (run a b) → Kept2 s x k h a b
    scope2-kept k h a b e =
        let w = asks2 s k h e in
        let l = tail-so s k h w e in
        let p = chosen-among ref_h (compared h) w.hs w.chose in
        let o = stands2 s k h w p.rest l.0 l.1.0 p.whole l.1.1 e in
        let n = still2 k h w l.0 l.1.0 l.1.1 p in
        let σ : service_in (sealed_by w.i m r f v) ≡ service_in w.i = service-sealed w.i m H (R w.i) in
        record {
          start = n.start;
          end = n.end;
          range = n.range;
          octets = n.stands.octets ∙ ap (λ (z : Service). print z (list (run_of w.y p.rest w.b l.0))) σ ∙ sym o.octets;
        }
