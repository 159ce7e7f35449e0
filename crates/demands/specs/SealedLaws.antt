-- D2d: where `seal` succeeds.
use Rattle.std.specs.Prelude.{ℕ, ◌≤◌, ◌≡◌, refl, List, ◌++◌, Bool, true, false, not, cond, ◌&&◌, ◌||◌, T, eqb, leb, length}
use Rattle.std.proofs.Common.{arith, ap, ◌∙◌, sym, subst, leb→le, eqb-true, ne_eqb}
use Rattle.std.proofs.Math.Option.{Option, none, some}
use Rattle.std.proofs.Math.Seq.{slice}
use Rattle.syntax.specs.Content.{compared}
use Rattle.syntax.specs.Refusals.{at_zero}
use Rattle.syntax.specs.Octets.{octets, same}
use Rattle.syntax.specs.Opening.{earlier}
use Rattle.syntax.specs.Tree.{print}
use Rattle.syntax.proofs.ContentLaws.{same_self}
use Rattle.syntax.proofs.TreeLaws.{off, and_left, and_right}
use Rattle.syntax.specs.declared.Service.{Service}
use Rattle.syntax.specs.declared.Version.{Version}
use Rattle.grammar.specs.Lists.{Snoc, nil, ◌▷◌, each, among, list}
use Rattle.grammar.specs.Interchange.{Leaf, Header, Trailer, Body, Open, msg, message, show_header, show_body}
use Rattle.grammar.specs.Rules.{autack, ref_h, ref_t}
use Rattle.grammar.specs.Named.{placed}
use Rattle.grammar.specs.TestLaws.{is_true}
use Rattle.writing.specs.Written.{text, no_text}
use Rattle.filters.specs.Octets.{Octets}
use Rattle.filters.specs.Hex.{hex_text, hex_value}
use Rattle.filters.specs.Six.{six_text, six_value}
use Rattle.filters.specs.HexLaws.{hex-there, hex-length}
use Rattle.filters.specs.SixLaws.{six-there, six-length}
use Rattle.values.specs.Filters.{other_value, value_by, or_bad}
use Rattle.groups.specs.StandLaws.{list-join, print-append}
use Rattle.groups.specs.Groups.{Chosen, chosen, chosen_by}
use Rattle.groups.specs.Calls.{service_in, version_in, message_in}
use Rattle.values.specs.Values.{filter_h, behind, link_text, filtered, or_no_header, value_in, value_at, answered, value_of}
use Rattle.weaving.specs.Seals.{new_header, new_trailer, grown, may_seal, filter_right, most_octets, length_right, text_by, signed_text}
use Rattle.sealing.specs.Sealing.{octets_at, seal_octets_of, seal_of}
use Rattle.demands.specs.Sealed.{sealed_by, Accepted, Signed, Kept}
use Rattle.demands.specs.SealedListLaws.{front, chosen-new}
use Rattle.demands.specs.SealedNumberLaws.{ref-header, ref-trailer, value-content}
use Rattle.demands.specs.SealedMessageLaws.{May, may}
use Rattle.demands.specs.SealedAcceptedLaws.{Succeeds, succeeds, sealed-read, sealed-accepted}
use Rattle.demands.specs.AskedLaws.{asked_of}
use Rattle.demands.specs.GivenLaws.{There1, there1}
use Rattle.demands.specs.SealedKeptLaws.{service-sealed, version-sealed, message-sealed, scope1-kept, scope2-kept}

-- ---- the text of VALUE stands for VALUE

long-not : (t : List ℕ) → 1 ≤ length t → eqb (length t) 0 ≡ false
long-not t h = ne_eqb (length t) 0 (λ e. omega (arith, h, e))

pub text-value : (w : Version) (r : List ℕ) (f : ℕ) (v : List ℕ) → Octets v → T (filter_right w f) → T (length_right w f v) → or_bad (value_by w (filter_h (new_header r f)) (text_by f v)) ≡ text v
text-value w r f v o h l = by (eqb f 2) refl (eqb f 7) refl (earlier w) refl h
  where
    some-octets : 1 ≤ length v
    some-octets = leb→le 1 (length v) (and_left (leb 1 (length v)) (leb (length v) (most_octets w f)) l)

    two : or_bad (value_by w (octets "2") (hex_text v)) ≡ text v
    two = ap (λ (b : Bool). or_bad (cond b none (hex_value (hex_text v)))) (long-not (hex_text v) (omega (arith, hex-length v, some-octets))) ∙ ap or_bad (hex-there v o)

    -- in the later editions
    seven : earlier w ≡ false → or_bad (value_by w (octets "7") (six_text v)) ≡ text v
    seven e =
        ap (λ (b : Bool). or_bad (cond b none (other_value w (octets "7") (six_text v)))) (long-not (six_text v) (omega (arith, six-length v, some-octets)))
        ∙ ap (λ (b : Bool). or_bad (cond b none (six_value (six_text v)))) e ∙ ap or_bad (six-there v o)

    by : (a : Bool) → eqb f 2 ≡ a → (c : Bool) → eqb f 7 ≡ c → (z : Bool) → earlier w ≡ z → T (a || (not z && c)) → or_bad (value_by w (filter_h (new_header r f)) (text_by f v)) ≡ text v
    by true d c e z g k = subst (λ (f : ℕ). or_bad (value_by w (filter_h (new_header r f)) (text_by f v)) ≡ text v) (sym (eqb-true f 2 d)) two
    by false d true e false g k = subst (λ (f : ℕ). or_bad (value_by w (filter_h (new_header r f)) (text_by f v)) ≡ text v) (sym (eqb-true f 7 e)) (seven g)
    by false d true e true g k = absurd k
    by false d false e z g k = absurd (and_right (not z) false k)

module _ (s m r : List ℕ) (f : ℕ) (v x : List ℕ) (w : Succeeds s m r f v x) (l : length x ≤ 65535) where
  abbrev H : Header
  H = new_header r f

  abbrev R : Trailer
  R = new_trailer (version_in w.i) (service_in w.i) r (text_by f v)

  asked : May (version_in w.i) w.u w.hs r f
  asked = may (version_in w.i) w.u w.hs w.b w.ts r f w.may

  stays : message_in (sealed_by w.i m r f v) m ≡ some (placed (message (msg w.u (front H w.hs) w.b (w.ts ▷ R)) (grown w.n)) w.q)
  stays = message-sealed w.i m H R w.named

  chose : chosen_by ref_h (front H w.hs) (compared r) ≡ some (chosen nil H)
  chose = chosen-new ref_h H w.hs (compared r) (ref-header r f) asked.new

  -- ---- "the new header's range in the sealed interchange is what the first call wrote"

  written : seal_octets_of s m r f ≡ text (print (service_in w.i) (list (show_header H)) ++ print (service_in w.i) (list (show_body w.b)))
  written =
      ap answered (asked_of s m (λ i p. some (octets_at i p r f)) w.i (placed (message (msg w.u w.hs w.b w.ts) w.n) w.q) w.read w.named)
      ∙ ap (λ (c : Bool). cond c (text (signed_text (service_in w.i) (msg w.u w.hs w.b w.ts) r f)) (no_text (at_zero 16))) (is_true (may_seal (version_in w.i) (msg w.u w.hs w.b w.ts) r f) w.may)
      ∙ ap text
      (ap (print (service_in w.i)) (list-join (show_header (new_header r f)) (show_body w.b)) ∙ print-append (service_in w.i) (list (show_header (new_header r f))) (list (show_body w.b)))

  pub sealed-signed : Signed s m r f x
  sealed-signed =
      let t : There1 x m r (service_in (sealed_by w.i m r f v)) H w.b =
      there1 x m r (record {
        i = sealed_by w.i m r f v;
        read = sealed-read s m r f v x w l;
        u = w.u;
        hs = front H w.hs;
        b = w.b;
        ts = w.ts ▷ R;
        n = grown w.n;
        q = w.q;
        named = stays;
        ys = nil;
        y = H;
        chose = chose;
        scoped = refl;
      }) in
      let σ : service_in (sealed_by w.i m r f v) ≡ service_in w.i = service-sealed w.i m H R in
      let eh : slice t.start t.end x ≡ print (service_in w.i) (list (show_header H)) = t.header-part.octets ∙ ap (λ (z : Service). print z (list (show_header H))) σ in
      let eb : slice t.body t.body_end x ≡ print (service_in w.i) (list (show_body w.b)) = t.body-part.octets ∙ ap (λ (z : Service). print z (list (show_body w.b))) σ in
      record {
        a = t.start;
        b = t.end;
        c = t.body;
        d = t.body_end;
        range = t.range;
        octets =
            written ∙ ap (λ (z : List ℕ). text (z ++ print (service_in w.i) (list (show_body w.b)))) (sym eh)
            ∙ ap (λ (z : List ℕ). text (slice t.start t.end x ++ z)) (sym eb);
      }

  -- ---- the value call gives VALUE of it

  pub sealed-value : Octets v → value_of x m r ≡ text v
  sealed-value o =
      let O : Open = msg w.u (front H w.hs) w.b (w.ts ▷ R) in
      let e : Version = version_in w.i in
      let z : same (ref_t R) (compared r) ≡ true = ap (λ (y : List ℕ). same y (compared r)) (ref-trailer e (service_in w.i) r (text_by f v)) ∙ same_self (compared r) in
      ap answered (asked_of x m (λ i p. some (value_at (version_in i) p r)) (sealed_by w.i m r f v) (placed (message O (grown w.n)) w.q) (sealed-read s m r f v x w l) stays)
      ∙ ap (λ (c : Version). value_in c O r) (version-sealed w.i m H R)
      ∙ ap (λ (c : Bool). or_no_header e (chosen_by ref_h (front H w.hs) (compared r)) (cond c (link_text e w.b r) (behind e (chosen_by ref_t (w.ts ▷ R) (compared r))))) (off (autack w.u) asked.other)
      ∙ ap (λ (c : Option (Chosen Header)). or_no_header e c (behind e (chosen_by ref_t (w.ts ▷ R) (compared r)))) chose
      ∙ ap (λ (c : Bool). filtered e (chosen nil H) (behind e (cond c (some (chosen w.ts R)) (chosen_by ref_t w.ts (compared r))))) z
      ∙ ap (λ (t : List ℕ). or_bad (value_by e (filter_h H) t)) (value-content e (service_in w.i) (text_by f v))
      ∙ text-value e r f v o asked.filter w.long

  -- ---- the REF is new in the message that is named

  new-ref : (u : Leaf) (hs : Snoc Header) (b : Body) (ts : Snoc Trailer) (n : Leaf) (q : ℕ) → message_in w.i m ≡ some (placed (message (msg u hs b ts) n) q) → T (not (among (each ref_h hs) (compared r)))
  new-ref u hs b ts n q e =
      let d : some (placed (message (msg w.u w.hs w.b w.ts) w.n) w.q) ≡ some (placed (message (msg u hs b ts) n) q) = sym w.named ∙ e in
      let k : w.hs ≡ hs = cc in
      subst (λ (z : Snoc Header). T (not (among (each ref_h z) (compared r)))) k asked.new

-- ---- for every input on which `seal` succeeds

module _ (s m r : List ℕ) (f : ℕ) (v x : List ℕ) where
  pub seal-accepted : seal_of s m r f v ≡ text x → length x ≤ 65535 → Accepted s m r f v x
  seal-accepted e l = sealed-accepted s m r f v x (succeeds s m r f v x e) l

  pub seal-signed : seal_of s m r f v ≡ text x → length x ≤ 65535 → Signed s m r f x
  seal-signed e l = sealed-signed s m r f v x (succeeds s m r f v x e) l

  pub seal-value : Octets v → seal_of s m r f v ≡ text x → length x ≤ 65535 → value_of x m r ≡ text v
  seal-value o e l = sealed-value s m r f v x (succeeds s m r f v x e) l o

  pub seal-kept : seal_of s m r f v ≡ text x → length x ≤ 65535 → Kept s x
  seal-kept e l =
      let w = succeeds s m r f v x e in
      let a = sealed-read s m r f v x w l in
      record { scope1 = scope1-kept s m r f v x w.i w.read a; scope2 = scope2-kept s m r f v x w.i w.read a (new-ref s m r f v x w l) }
