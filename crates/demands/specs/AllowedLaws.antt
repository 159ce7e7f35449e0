-- The sealing calls have a text exactly where the message may be sealed.
use Rattle.std.specs.Prelude.{ℕ, ◌+◌, ◌≤◌, ◌≡◌, refl, List, ◌↔◌, Bool, true, false, cond, not, ◌&&◌, ◌||◌, T, eqb, leb, length}
use Rattle.std.proofs.Common.{arith, ap, ◌∙◌, sym, subst, T_not, leb→le, le→leb}
use Rattle.std.proofs.Math.Option.{Option, none, some}
use Rattle.syntax.specs.Content.{compared}
use Rattle.syntax.specs.Refusals.{at_zero}
use Rattle.syntax.specs.Octets.{all_pass, within}
use Rattle.syntax.specs.Repertoire.{tag_octet}
use Rattle.syntax.proofs.TreeLaws.{and_left, and_right, and_both}
use Rattle.syntax.specs.declared.Syntax.{Syntax}
use Rattle.syntax.specs.declared.Version.{Version}
use Rattle.grammar.specs.Lists.{Snoc, each, among, size}
use Rattle.grammar.specs.TestLaws.{is_true, passes}
use Rattle.grammar.specs.Interchange.{Leaf, Header, Open, msg, Message, message}
use Rattle.grammar.specs.Rules.{autack, ref_h, ref_m}
use Rattle.grammar.specs.Valid.{Interchange, Valid, syntax_in}
use Rattle.grammar.specs.Verdict.{Verdict, accepted, verdict_of}
use Rattle.grammar.proofs.VerdictLaws.{verdict-exact}
use Rattle.grammar.specs.Counted.{messages_in}
use Rattle.grammar.specs.Named.{Placed, placed}
use Rattle.spans.specs.Span.{autack_m}
use Rattle.writing.specs.Written.{Text, text, no_text}
use Rattle.groups.specs.Groups.{chosen, chosen_by}
use Rattle.groups.specs.Calls.{given, answered_by, then, service_in, version_in, message_in}
use Rattle.groups.specs.CallsLaws.{none-some}
use Rattle.values.specs.Values.{answered}
use Rattle.weaving.specs.Seals.{ref_right, filter_right, takes_more, is_new, may_seal, most_octets, length_right, text_by, may_write, writable, signed_text, sealed_text}
use Rattle.sealing.specs.Sealing.{octets_at, seal_octets_of, or_unwritten, seal_at, seal_of}
use Rattle.demands.specs.AskedLaws.{given_so, then-so, asked_of}
use Rattle.demands.specs.SealedAcceptedLaws.{answered-text, Succeeds, succeeds, no_text_lem}
use Rattle.demands.specs.Stated.{In, headers_of}
use Rattle.demands.specs.OnceLaws.{each_in, among_in, chosen-in, among-chosen}
use Rattle.demands.specs.AskedForLaws.{message-in, message-at}
use Rattle.demands.specs.Allowed.{Allows, Seals}

-- ---- the tests, and what they say

within-so : (a e n : ℕ) → T (within a e n) → (a ≤ n) × (n ≤ e)
within-so a e n h = (leb→le a n (and_left (leb a n) (leb n e) h), leb→le n e (and_right (leb a n) (leb n e) h))

within_of : (a e n : ℕ) → (a ≤ n) × (n ≤ e) → T (within a e n)
within_of a e n h = and_both (leb a n) (leb n e) (le→leb a n h.0) (le→leb n e h.1)

off-so : (b : Bool) → T (not b) → b ≡ false
off-so true h = absurd h
off-so false h = refl

new-so : (hs : Snoc Header) (r : List ℕ) → T (not (among (each ref_h hs) r)) → (h : Header) → In h hs → ref_h h ≡ r → ⊥
new-so hs r n h x e = T_not (among (each ref_h hs) r) n (subst (λ (k : List ℕ). T (among (each ref_h hs) k)) e (among_in (ref_h h) (each_in ref_h x)))

new-of : (hs : Snoc Header) (r : List ℕ) → ((h : Header) → In h hs → ref_h h ≡ r → ⊥) → T (not (among (each ref_h hs) r))
new-of hs r n = by (among (each ref_h hs) r) (λ t. among-chosen ref_h r hs t)
  where
    by : (b : Bool) → (T b → (ys : Snoc Header) × ((a : Header) × (chosen_by ref_h hs r ≡ some (chosen ys a)))) → T (not b)
    by true f = let k = f tt in let c = chosen-in ref_h r hs k.1.1 in absurd (n k.1.0 c.0 c.1)
    by false f = tt

four-so : (a b c d : Bool) → T (a && b && c && d) → T a × (T b × (T c × T d))
four-so a b c d h =
    let k = and_left (a && b && c) d h in
    let l = and_left (a && b) c k in
    (and_left a b l, (and_right a b l, (and_right (a && b) c k, and_right (a && b && c) d h)))

four-of : (a b c d : Bool) → T a → T b → T c → T d → T (a && b && c && d)
four-of a b c d h i j k = and_both (a && b && c) d (and_both (a && b) c (and_both a b h i) j) k

-- ---- one more header

module _ (s m r : List ℕ) (f : ℕ) where
  allows-so : (i : Interchange) (o : Open) (n : Leaf) (q : ℕ) → verdict_of s ≡ accepted i → message_in i m ≡ some (placed (message o n) q) → T (may_seal (version_in i) o r f)
      → (w : Allows s m r f) × (w.i ≡ i)
  allows-so i (msg u hs b ts) n q v e h =
      let x = message-in i m e in
      let t = four-so (ref_right r) (filter_right (version_in i) f) (takes_more (msg u hs b ts)) (is_new (msg u hs b ts) r) h in
      let ref = t.0 in
      let more = t.1.1.0 in (
        record {
          i = i;
          read = v;
          of = message (msg u hs b ts) n;
          there = x.0;
          name = x.1.0;
          ref-size = within-so 1 14 (length r) (and_left (within 1 14 (length r)) (all_pass tag_octet r) ref);
          ref-octets = and_right (within 1 14 (length r)) (all_pass tag_octet r) ref;
          ref-new = new-so hs (compared r) t.1.1.1;
          filter = t.1.0;
          few = leb→le (size hs) 8 (and_right (not (autack u)) (leb (size hs) 8) more);
          other = off-so (autack u) (and_left (not (autack u)) (leb (size hs) 8) more);
        },
        refl,
      )

  -- the message that is named, and the test that it passes
  pub record Passes (i : Interchange) : Type 0 where
    pub o : Open
    pub n : Leaf
    pub q : ℕ
    pub named : message_in i m ≡ some (placed (message o n) q)
    pub may : may_seal (version_in i) o r f ≡ true

  allows-of : (w : Allows s m r f) → Passes w.i
  allows-of w = by w.of w.there w.name w.ref-new w.few w.other
    where
      by : (x : Message) → In x (messages_in w.i) → ref_m x ≡ compared m → ((h : Header) → In h (headers_of x) → ref_h h ≡ compared r → ⊥) → size (headers_of x) ≤ 8 → autack_m x ≡ false → Passes w.i
      by (message (msg u hs b ts) n) t e new few other =
          let k = message-at w.i m ((verdict-exact s w.i).0 w.read).0 t e in
          record {
            o = msg u hs b ts;
            n = n;
            q = k.0;
            named = k.1;
            may =
                is_true (may_seal (version_in w.i) (msg u hs b ts) r f)
                (four-of (ref_right r) (filter_right (version_in w.i) f) (takes_more (msg u hs b ts)) (is_new (msg u hs b ts) r)
                (and_both (within 1 14 (length r)) (all_pass tag_octet r) (within_of 1 14 (length r) w.ref-size) w.ref-octets)
                w.filter
                (and_both (not (autack u)) (leb (size hs) 8) (subst (λ (c : Bool). T (not c)) (sym other) tt) (le→leb (size hs) 8 few))
                (new-of hs (compared r) new));
          }

  -- ---- the octets to be signed

  pub octets-given : ((x : List ℕ) × (seal_octets_of s m r f ≡ text x)) ↔ Allows s m r f
  octets-given = (λ (h : (x : List ℕ) × (seal_octets_of s m r f ≡ text x)). there h.0 h.1, back)
    where
      at : (x : List ℕ) (i : Interchange) (p : Placed) → verdict_of s ≡ accepted i → message_in i m ≡ some p → octets_at i p r f ≡ text x → Allows s m r f
      at x i (placed (message o n) q) v e h = by (may_seal (version_in i) o r f) refl h
        where
          by : (c : Bool) → may_seal (version_in i) o r f ≡ c → cond c (text (signed_text (service_in i) o r f)) (no_text (at_zero 16)) ≡ text x → Allows s m r f
          by true k h = (allows-so i o n q v e (passes (may_seal (version_in i) o r f) k)).0
          by false k h = no_text_lem h

      there : (x : List ℕ) → seal_octets_of s m r f ≡ text x → Allows s m r f
      there x e =
          let ask : Interchange → Option Text = λ i. then (message_in i m) (λ p. some (octets_at i p r f)) in
          let g = given_so s ask (text x) (answered-text (answered_by (verdict_of s) ask) e) in
          let t = then-so (message_in g.i m) (λ p. some (octets_at g.i p r f)) (text x) g.gave in
          let z : octets_at g.i t.a r f ≡ text x = some_one t.second in
          at x g.i t.a g.read t.first z
        where
          some_one : {a b : Text} → some a ≡ some b → a ≡ b
          some_one e = cc

      back : Allows s m r f → (x : List ℕ) × (seal_octets_of s m r f ≡ text x)
      back w =
          let p = allows-of w in (
            signed_text (service_in w.i) p.o r f,
            ap answered (asked_of s m (λ i p. some (octets_at i p r f)) w.i (placed (message p.o p.n) p.q) w.read p.named)
                ∙ ap (λ (c : Bool). cond c (text (signed_text (service_in w.i) p.o r f)) (no_text (at_zero 16))) p.may,
          )

  -- ---- the sealed interchange

  pub seal-given : (v : List ℕ) → ((x : List ℕ) × (seal_of s m r f v ≡ text x)) ↔ Seals s m r f v
  seal-given v = (λ (h : (x : List ℕ) × (seal_of s m r f v ≡ text x)). there h.0 (succeeds s m r f v h.0 h.1), back)
    where
      there : (x : List ℕ) → Succeeds s m r f v x → Seals s m r f v
      there x w =
          let a = allows-so w.i (msg w.u w.hs w.b w.ts) w.n w.q w.read w.named w.may in
          by a.0 (syntax_in a.0.i) refl (subst (λ (i : Interchange). T (length_right (version_in i) f v)) (sym a.1) w.long)
          (subst (λ (i : Interchange). T (writable (syntax_in i) (text_by f v))) (sym a.1) w.written)
        where
          by : (a : Allows s m r f) (o : Option Syntax) → syntax_in a.i ≡ o → T (length_right (version_in a.i) f v) → T (writable (syntax_in a.i) (text_by f v)) → Seals s m r f v
          by a none d l h = absurd (subst (λ (o : Option Syntax). T (writable o (text_by f v))) d h)
          by a (some y) d l h = record {
            allowed = a;
            value-size = within-so 1 (most_octets (version_in a.i) f) (length v) l;
            y = y;
            settled = d;
            written = subst (λ (o : Option Syntax). T (writable o (text_by f v))) d h;
          }

      back : Seals s m r f v → (x : List ℕ) × (seal_of s m r f v ≡ text x)
      back w =
          let i : Interchange = w.allowed.i in
          let p = allows-of w.allowed in
          let e : Version = version_in w.allowed.i in
          let long : length_right e f v ≡ true = is_true (length_right e f v) (within_of 1 (most_octets e f) (length v) w.value-size) in
          let c : (may_seal e p.o r f && length_right e f v) ≡ true =
          is_true (may_seal e p.o r f && length_right e f v) (and_both (may_seal e p.o r f) (length_right e f v) (passes (may_seal e p.o r f) p.may) (passes (length_right e f v) long)) in
          let d : writable (syntax_in w.allowed.i) (text_by f v) ≡ true = ap (λ (o : Option Syntax). writable o (text_by f v)) w.settled ∙ is_true (all_pass (may_write w.y) (text_by f v)) w.written in (
            sealed_text w.allowed.i m r f (text_by f v),
            ap answered (asked_of s m (λ i p. some (seal_at i p m r f v)) w.allowed.i (placed (message p.o p.n) p.q) w.allowed.read p.named)
                ∙ ap (λ (b : Bool). cond b (or_unwritten w.allowed.i m r f (text_by f v)) (no_text (at_zero 16))) c
                ∙ ap (λ (b : Bool). cond b (text (sealed_text w.allowed.i m r f (text_by f v))) (no_text (at_zero 14))) d,
          )
