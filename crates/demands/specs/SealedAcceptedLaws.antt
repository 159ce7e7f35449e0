-- Where `seal` succeeds, its result is accepted, and is read as the sealed tree.
use Rattle.std.specs.Prelude.{ℕ, ◌≤◌, ◌≡◌, refl, List, Bool, true, false, cond, ◌&&◌, T, length}
use Rattle.std.proofs.Common.{arith, ap, sym, subst}
use Rattle.std.proofs.Math.Option.{Option, none, some}
use Rattle.syntax.specs.Content.{compared}
use Rattle.syntax.specs.declared.Refusal.{Refusal}
use Rattle.syntax.specs.Refusals.{at_zero}
use Rattle.syntax.proofs.TreeLaws.{and_left, and_right}
use Rattle.grammar.specs.Lists.{Snoc}
use Rattle.grammar.specs.Interchange.{Leaf, Header, Trailer, Body, msg, message}
use Rattle.grammar.specs.Valid.{Interchange, interchange, print_interchange, syntax_in, opening_in}
use Rattle.grammar.specs.Verdict.{accepted, verdict_of}
use Rattle.grammar.proofs.VerdictLaws.{verdict-exact}
use Rattle.grammar.specs.Named.{Placed, placed}
use Rattle.grammar.specs.TestLaws.{passes}
use Rattle.weaving.proofs.WovenLaws.{around}
use Rattle.writing.specs.Written.{Text, text, no_text}
use Rattle.groups.specs.Calls.{Answered, given, refused_as, answered_by, then, service_in, version_in, message_in}
use Rattle.values.specs.Values.{answered}
use Rattle.weaving.specs.Seals.{new_header, new_trailer, may_seal, length_right, writable, text_by, sealed_text}
use Rattle.sealing.specs.Sealing.{or_unwritten, seal_at, seal_of}
use Rattle.demands.specs.AskedLaws.{given_so}
use Rattle.demands.specs.AskedForLaws.{message-of}
use Rattle.demands.specs.Sealed.{sealed_by, Accepted}
use Rattle.demands.specs.SealedNumberLaws.{grown-number}
use Rattle.demands.specs.SealedTreeLaws.{placed-sealed}
use Rattle.demands.specs.SealedSegmentLaws.{text-short}
use Rattle.demands.specs.SealedValidLaws.{small, sealed-valid}

-- ---- what holds where `seal` succeeds

pub record Succeeds (s m r : List ℕ) (f : ℕ) (v x : List ℕ) : Type 0 where
  pub i : Interchange
  pub read : verdict_of s ≡ accepted i
  pub u : Leaf
  pub hs : Snoc Header
  pub b : Body
  pub ts : Snoc Trailer
  pub n : Leaf
  pub q : ℕ
  pub named : message_in i m ≡ some (placed (message (msg u hs b ts) n) q)
  pub may : T (may_seal (version_in i) (msg u hs b ts) r f)
  pub long : T (length_right (version_in i) f v)
  pub written : T (writable (syntax_in i) (text_by f v))
  pub printed : print_interchange (sealed_by i m r f v) ≡ x

pub no_text_lem : {A : Type 0} {f : Refusal} {x : List ℕ} → no_text f ≡ text x → A
no_text_lem e = let z : ◌≡◌ {A = ℕ} 0 1 = cc in absurd (omega arith)

pub answered-text : (a : Answered Text) {x : List ℕ} → answered a ≡ text x → a ≡ given (text x)
answered-text (given y) e = ap given e
answered-text (refused_as f) e = no_text_lem e

module _ (s m r : List ℕ) (f : ℕ) (v x : List ℕ) where
  written-so : (i : Interchange) → or_unwritten i m r f (text_by f v) ≡ text x → T (writable (syntax_in i) (text_by f v)) × (print_interchange (sealed_by i m r f v) ≡ x)
  written-so i e = by (writable (syntax_in i) (text_by f v)) e
    where
      by : (c : Bool) → cond c (text (sealed_text i m r f (text_by f v))) (no_text (at_zero 14)) ≡ text x → T c × (print_interchange (sealed_by i m r f v) ≡ x)
      by true e = (tt, cc)
      by false e = no_text_lem e

  placed-so : (i : Interchange) (p : Placed) → verdict_of s ≡ accepted i → message_in i m ≡ some p → seal_at i p m r f v ≡ text x → Succeeds s m r f v x
  placed-so i (placed (message (msg u hs b ts) n) q) d k e = by (may_seal (version_in i) (msg u hs b ts) r f && length_right (version_in i) f v) refl e
    where
      by : (c : Bool) → (may_seal (version_in i) (msg u hs b ts) r f && length_right (version_in i) f v) ≡ c → cond c (or_unwritten i m r f (text_by f v)) (no_text (at_zero 16)) ≡ text x → Succeeds s m r f v x
      by true a e =
          let w = written-so i e in
          let h = passes (may_seal (version_in i) (msg u hs b ts) r f && length_right (version_in i) f v) a in
          record {
            i = i;
            read = d;
            u = u;
            hs = hs;
            b = b;
            ts = ts;
            n = n;
            q = q;
            named = k;
            may = and_left (may_seal (version_in i) (msg u hs b ts) r f) (length_right (version_in i) f v) h;
            long = and_right (may_seal (version_in i) (msg u hs b ts) r f) (length_right (version_in i) f v) h;
            written = w.0;
            printed = w.1;
          }
      by false a e = no_text_lem e

  pub succeeds : seal_of s m r f v ≡ text x → Succeeds s m r f v x
  succeeds e =
      let ask : Interchange → Option Text = λ i. then (message_in i m) (λ p. some (seal_at i p m r f v)) in
      let g = given_so s ask (text x) (answered-text (answered_by (verdict_of s) ask) e) in
      by g.i (message_in g.i m) g.read refl g.gave
    where
      by : (i : Interchange) (o : Option Placed) → verdict_of s ≡ accepted i → message_in i m ≡ o → then o (λ p. some (seal_at i p m r f v)) ≡ some (text x) → Succeeds s m r f v x
      by i none d k e = let z : ◌≡◌ {A = ℕ} 0 1 = cc in absurd (omega arith)
      by i (some p) d k e = placed-so i p d k cc

  -- the sealed tree is valid, so its printing is accepted as itself
  pub sealed-read : (w : Succeeds s m r f v x) → length x ≤ 65535 → verdict_of x ≡ accepted (sealed_by w.i m r f v)
  sealed-read w l =
      let h = (verdict-exact s w.i).0 w.read in
      (verdict-exact x (sealed_by w.i m r f v)).1 (
        sealed-valid w.i h.0 m r f (text_by f v) w.u w.hs w.b w.ts w.n w.named w.may w.written (text-short (version_in w.i) f v w.long)
            (subst (λ (y : List ℕ). length y ≤ 65535) (sym w.printed) l),
        w.printed,
      )

  pub sealed-accepted : Succeeds s m r f v x → length x ≤ 65535 → Accepted s m r f v x
  sealed-accepted w l = by w.i w.read w.named (sealed-read w l)
    where
      by : (i : Interchange) → verdict_of s ≡ accepted i → message_in i m ≡ some (placed (message (msg w.u w.hs w.b w.ts) w.n) w.q)
          → verdict_of x ≡ accepted (sealed_by i m r f v) → Accepted s m r f v x
      by (interchange k u ms z) d e a =
          let i : Interchange = interchange k u ms z in
          let H : Header = new_header r f in
          let R : Trailer = new_trailer (version_in (interchange k u ms z)) (service_in (interchange k u ms z)) r (text_by f v) in
          let g = around (service_in i) (opening_in k).at u H R (compared m) ms e in
          record {
            of = message-of s m i (msg w.u w.hs w.b w.ts) w.n w.q d e;
            reads = a;
            before = g.before;
            behind = g.after;
            old = g.was;
            new = g.becomes;
            counts = grown-number w.n (small k u ms z ((verdict-exact s i).0 d).0 (compared m) r f (text_by f v) (service_in i) (opening_in k).at w.u w.hs w.b w.ts w.n w.q e);
            stays = placed-sealed H R (compared m) (service_in i) (opening_in k).at u ms e;
            settled = refl;
          }
