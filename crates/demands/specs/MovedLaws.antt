-- The moves of a register. What is written for an interchange fits its form, so it is read back and moved to what is written in another, or refused as that is.
use Rattle.std.specs.Prelude.{ℕ, zero, suc, ◌+◌, ◌*◌, ◌≤◌, ◌<◌, Bool, true, false, cond, ◌&&◌, List, [], ◌∷◌, ◌++◌, ◌↔◌, ◌≡◌, refl, T, leb, pos, negsuc, length, get_or, take, Some, Ok}
use Rattle.std.proofs.Common.{arith, ap, sym, subst, ◌∙◌, leb→le, length-append}
use Rattle.std.proofs.Math.Option.{Option, none, some}
use Rattle.syntax.specs.Octets.{octets, same}
use Rattle.syntax.specs.Refusals.{at_zero}
use Rattle.syntax.specs.Tree as syntax
use Rattle.syntax.specs.Tree.{Segment}
use Rattle.syntax.proofs.TreeLaws.{is_true, and_right}
use Rattle.syntax.specs.declared.Service.{Service}
use Rattle.grammar.specs.Lists.{Snoc, nil, ◌▷◌, ◌+++◌, joined, list, size, holds, every}
use Rattle.grammar.proofs.ListsLaws.{size-join, every-left, every-right}
use Rattle.grammar.specs.Grams.{sum, magnitude}
use Rattle.grammar.specs.Grams as signed
use Rattle.grammar.specs.Weighed.{forward, back, apart}
use Rattle.grammar.specs.WeighedLaws.{sum-magnitude, signed_back, apart-most}
use Rattle.grammar.specs.Segments.{Asked, asked, Unb, Unh, seg}
use Rattle.grammar.specs.Loads.{Shape, shape, grams, amount_right, load_unit, load_by, load_in, right_by, load_right, three_part, unit_of, amount, put, loads}
use Rattle.grammar.specs.Interchange.{Leaf, plain, ack, msg, Message, message, idle, done, shown, show_header, show_trailer, show_message}
use Rattle.grammar.specs.Rules.{amount_s}
use Rattle.grammar.specs.Valid.{Una, una, Interchange, interchange, Valid, print_una, print_interchange, opening_in}
use Rattle.grammar.specs.Places.{wide}
use Rattle.grammar.proofs.PlacesLaws.{wide-join, wide-list}
use Rattle.grammar.specs.Verdict.{Verdict, accepted, refused_with, verdict_of, loads_m}
use Rattle.grammar.proofs.VerdictLaws.{verdict-exact}
use Rattle.elements.specs.Amounts.{amount_is, unit_is}
use Rattle.elements.specs.AmountsLaws.{weighs-below}
use Rattle.groups.specs.Calls.{service_in}
use Rattle.filters.specs.Octets.{Octets}
use Rattle.writing.specs.Written.{text, no_text, Writes}
use Rattle.forms.specs.Forms.{register_text, sign_lost, any_below, text_in}
use Rattle.forms.specs.declared.Form.{Form}
use Rattle.forms.specs.declared.Form.TheVariants.{Signed}
use Rattle.forms.specs.declared.Entry.{Entry}
use Rattle.moves.specs.Stored.{Stored, stored, bad, stored_by, moved_to, move_of, Fit, AllFit}
use Rattle.moves.specs.Stored as stored
use Rattle.moves.specs.GramsLaws.{light-held, any_small, all-too, fit-moved, moved_fit, entry-plain}
use Rattle.moves.specs.StoredLaws.{stored_there, stored_back, there_and_back}
use Rattle.register.specs.Register.{entry_of, entries_of, entries_in, register_by, register_of}
use Rattle.demands.specs.SealWritesLaws.{writes-so}
use Rattle.demands.specs.SealedValidLaws.{wide-size}

-- ---- loads: each has at most twelve digits

abbrev Below : Option signed.Grams → Type 0
Below none = Unit {0}
Below (some z) = magnitude z < 1000000000000

unit-below : (u s : List ℕ) → T (right_by (load_unit u) s) → Below (load_by (load_unit u) s)
unit-below u s h = by (load_unit u) refl h
  where
    by : (o : Option Shape) → load_unit u ≡ o → T (right_by o s) → Below (load_by o s)
    by none e h = tt
    by (some (shape w d)) e h =
        let k : amount_right (shape w d) s ≡ true = is_true (amount_right (shape w d) s) h in
        let n : Some (magnitude (grams (shape w d) s), signed.below (grams (shape w d) s)) ≡ amount_is (amount_right (shape w d) s) (grams (shape w d) s) = rw k in
        weighs-below u 9 6 (sym (ap unit_is e)) s {f = record { whole = w; decimals = d }} refl n {k = 12} (refl, refl) refl

load_below : (a : Asked) → T (load_right a) → Below (load_in a)
load_below a h = by (same a.tag (octets "QTY") && three_part a) h
  where
    by : (b : Bool) → T (right_by (cond b (load_unit (unit_of a)) none) (amount a)) → Below (load_by (cond b (load_unit (unit_of a)) none) (amount a))
    by true h = unit-below (unit_of a) (amount a) h
    by false h = tt

-- as many kilograms as tonnes have digits: of so many segments, what was loaded and what was tipped back
pub record Few (n : ℕ) (s : Snoc signed.Grams) : Type 0 where
  pub loads : size s ≤ n
  pub loaded : forward s ≤ n * 1000000000000
  pub tipped : back s ≤ n * 1000000000000

few-more : {n : ℕ} {s : Snoc signed.Grams} (z : signed.Grams) → magnitude z < 1000000000000 → Few n s → Few (suc n) (s ▷ z)
few-more (pos n) l k = record { loads = omega (arith, k.loads); loaded = omega (arith, k.loaded, l); tipped = omega (arith, k.tipped) }
few-more (negsuc n) l k = record { loads = omega (arith, k.loads); loaded = omega (arith, k.loaded); tipped = omega (arith, k.tipped, l) }

few-most : {n m : ℕ} {s : Snoc signed.Grams} → n ≤ m → Few n s → Few m s
few-most h k = record { loads = omega (arith, k.loads, h); loaded = omega (arith, k.loaded, h); tipped = omega (arith, k.tipped, h) }

few-sum : {n : ℕ} {s : Snoc signed.Grams} → Few n s → magnitude (sum s) < n * 1000000000000 + 1
few-sum {n} {s} k = rw (sum-magnitude s) (apart-most (forward s) (back s) (n * 1000000000000 + 1) (omega (arith, k.loaded)) (omega (arith, k.tipped)))

loads-below : (b : Snoc Segment) → holds (every amount_s b) → Few (size b) (loads b)
loads-below nil h = record { loads = omega arith; loaded = omega arith; tipped = omega arith }
loads-below (b ▷ g) h = by (load_in (asked g)) (load_below (asked g) h.1) (loads-below b h.0)
  where
    by : (o : Option signed.Grams) → Below o → Few (size b) (loads b) → Few (suc (size b)) (put (loads b) o)
    by none l k = few-most (omega arith) k
    by (some z) l k = few-more z l k

message-loads : (m : Message) → holds (every amount_s (show_message m)) → Few (size (show_message m)) (loads_m m)
message-loads (message (msg c hs (plain b) ts) t) h =
    let A : Snoc Segment = nil ▷ seg Unh c +++ joined show_header hs in
    let k = loads-below b (every-right amount_s A b (every-left amount_s (A +++ b) (joined show_trailer ts) h.0)) in
    few-most (omega (arith, size-join (A +++ b) (joined show_trailer ts), size-join A b)) k
message-loads (message (msg c hs (ack x ls) ts) t) h = record { loads = omega arith; loaded = omega arith; tipped = omega arith }

-- ---- entries: what stands in an interchange fits

all_more : (f : Form) (es : List Entry) (e : Entry) → AllFit f es → Fit f e → AllFit f (es ++ (e ∷ []))
all_more f [] e h k = (k, tt)
all_more f (x ∷ es) e h k = (h.0, all_more f es e h.1 k)

module _ (σ : Service) (p : ℕ) (u : Leaf) where
  entry-fits : (m : Message) (q : ℕ) → q + wide σ (show_message m) ≤ 65535 → holds (every amount_s (show_message m)) → Fit Signed (entry_of σ q m)
  entry-fits m q l h =
      let k = message-loads m h in
      let w = wide-size σ (show_message m) in
      let z = sum (loads_m m) in
      record {
        place = omega (arith, l);
        length = omega (arith, l);
        loads = omega (arith, k.loads, w, l);
        grams = subst (λ (z : signed.Grams). T (stored.holds Signed z)) (sym (signed_back z)) (light-held z (omega (arith, few-sum k, w, l)));
        plain = entry-plain q (wide σ (show_message m)) (size (loads_m m)) z;
      }

  some-wide : (m : Message) → 4 ≤ wide σ (show_message m)
  some-wide (message o t) = omega (arith, wide-size σ (show_message (message o t)))

  entries_fit : (ms : Snoc Message) → p + wide σ (shown (idle u ms)) ≤ 65535 → holds (every amount_s (joined show_message ms)) → AllFit Signed (entries_of σ p u ms) × (length (entries_of σ p u ms) ≤ wide σ (shown (idle u ms)))
  entries_fit nil l h = (tt, omega arith)
  entries_fit (ms ▷ m) l h =
      let U : Snoc Segment = nil ▷ seg Unb u in
      let J : Snoc Segment = joined show_message ms in
      let M : Snoc Segment = show_message m in
      let w : wide σ (U +++ (J +++ M)) ≡ wide σ (U +++ J) + wide σ M = omega (arith, wide-join σ U (J +++ M), wide-join σ J M, wide-join σ U J) in
      let k = entries_fit ms (omega (arith, l, w)) (every-left amount_s J M h) in
      let e = entry-fits m (p + wide σ (shown (idle u ms))) (omega (arith, l, w)) (every-right amount_s J M h) in
      let n = length-append (entries_of σ p u ms) (entry_of σ (p + wide σ (shown (idle u ms))) m ∷ []) in
      (all_more Signed (entries_of σ p u ms) (entry_of σ (p + wide σ (shown (idle u ms))) m) k.0 e, omega (arith, k.1, n, w, some-wide m))

una-length : (n : Option Una) → length (print_una n) ≡ (opening_in n).at
una-length none = refl
una-length (some (una σ m)) = refl

interchange-fits : (i : Interchange) → Valid i → AllFit Signed (entries_in i) × (length (entries_in i) ≤ 65535)
interchange-fits (interchange n u ms z) v =
    let i : Interchange = interchange n u ms z in
    let σ : Service = service_in i in
    let p : ℕ = (opening_in n).at in
    let L : ℕ = length (print_interchange i) in
    let s : L ≤ 65535 = leb→le L 65535 (and_right (leb 1 L) (leb L 65535) v.octets_right) in
    let d : L ≡ p + wide σ (shown (done u ms z)) = omega (arith, length-append (print_una n) (syntax.print σ (list (shown (done u ms z)))), wide-list σ (shown (done u ms z)), una-length n) in
    let w : p + wide σ (shown (idle u ms)) ≤ 65535 = omega (arith, s, d) in
    let k = entries_fit σ p u ms w (every-right amount_s (nil ▷ seg Unb u) (joined show_message ms) v.weighed.0) in
    (k.0, omega (arith, k.1, w))

-- ---- the statements

octets-at : (s : List ℕ) → Octets s → (j : ℕ) → get_or s j 0 < 256
octets-at [] o zero = omega arith
octets-at [] o (suc j) = omega arith
octets-at (x ∷ s) o zero = o.0
octets-at (x ∷ s) o (suc j) = octets-at s o.1 j

pub moved_back : (f g : Form) (r out left : List ℕ) (n : ℕ) → Octets r → Writes (move_of f g r) out (Ok n) left → move_of g f (take n left) ≡ text r
moved_back f g r out left n o w = there_and_back f g r (take n left) (octets-at r o) (writes-so (move_of f g r) out n left w).0

pub moved-exactly : (f g : Form) (r : List ℕ) → Octets r
    → ((t : List ℕ) × (move_of f g r ≡ text t)) ↔ ((es : List Entry) × (length es ≤ 65535) × AllFit f es × AllFit g es × (register_text f es ≡ r))
moved-exactly f g r o = (
  λ (h : (t : List ℕ) × (move_of f g r ≡ text t)). by (stored_by f r) refl h.1,
  λ (h : (es : List Entry) × (length es ≤ 65535) × AllFit f es × AllFit g es × (register_text f es ≡ r)). there h.0 h.1 h.2 h.3 h.4,
)
  where
    by : (x : Stored) → stored_by f r ≡ x → {t : List ℕ} → moved_to g x ≡ text t → (es : List Entry) × (length es ≤ 65535) × AllFit f es × AllFit g es × (register_text f es ≡ r)
    by bad e w = let z : ◌≡◌ {A = ℕ} 0 1 = cc in absurd (omega arith)
    by (stored es) e w = let k = stored_back f r (octets-at r o) es e in (es, k.few, k.fit, (moved_fit f g es k.fit w).0, k.printed)

    there : (es : List Entry) → length es ≤ 65535 → AllFit f es → AllFit g es → register_text f es ≡ r → (t : List ℕ) × (move_of f g r ≡ text t)
    there es l h k e = (register_text g es, ap (move_of f g) (sym e) ∙ ap (moved_to g) (stored_there f es l h) ∙ fit-moved g es k)

-- what is written is the text of the entries, with no minus lost
text-told : (f : Form) (es : List Entry) {r : List ℕ} → text_in f es ≡ text r → (sign_lost f (any_below es) ≡ false) × (register_text f es ≡ r)
text-told f es {r} e = by (sign_lost f (any_below es)) refl e
  where
    by : (b : Bool) → sign_lost f (any_below es) ≡ b → cond b (no_text (at_zero 19)) (text (register_text f es)) ≡ text r → (sign_lost f (any_below es) ≡ false) × (register_text f es ≡ r)
    by true h e = let z : ◌≡◌ {A = ℕ} 0 1 = cc in absurd (omega arith)
    by false h e = let z : register_text f es ≡ r = cc in (h, z)

pub written-moved : (f g : Form) (s out left : List ℕ) (n : ℕ) → Writes (register_of f s) out (Ok n) left → move_of f g (take n left) ≡ register_of g s
written-moved f g s out left n w = by (verdict_of s) refl (writes-so (register_of f s) out n left w).0
  where
    by : (v : Verdict) → verdict_of s ≡ v → {r : List ℕ} → register_by f v ≡ text r → move_of f g r ≡ register_by g v
    by (refused_with b) d e = let z : ◌≡◌ {A = ℕ} 0 1 = cc in absurd (omega arith)
    by (accepted i) d {r} e =
        let es = entries_in i in
        let k = interchange-fits i ((verdict-exact s i).0 d).0 in
        let h = text-told f es e in
        let m = all-too Signed f es k.0 (any_small f es k.0) h.0 in
        ap (move_of f g) (sym h.1) ∙ ap (moved_to g) (stored_there f es k.1 m) ∙ rw (any_small g es k.0)
