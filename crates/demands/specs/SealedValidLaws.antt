-- What is sealed is valid, where it has 65,535 octets at most.
use Rattle.std.specs.Prelude.{ℕ, ◌+◌, ◌*◌, ◌≤◌, ◌<◌, ◌≡◌, List, Bool, true, false, cond, T, eqb, leb, length}
use Rattle.std.proofs.Common.{arith, ap, sym, subst, leb→le, le→leb, eqb→eq, length-append}
use Rattle.std.proofs.Math.Option.{Option, some}
use Rattle.syntax.specs.Content.{compared}
use Rattle.syntax.specs.Octets as octets
use Rattle.syntax.specs.Octets.{same}
use Rattle.syntax.specs.Tree as syntax
use Rattle.syntax.specs.Tree.{Segment}
use Rattle.syntax.proofs.TreeLaws.{and_right, and_both}
use Rattle.syntax.specs.declared.Service.{Service}
use Rattle.syntax.specs.declared.Syntax.{Syntax}
use Rattle.grammar.specs.Lists.{Snoc, nil, ◌▷◌, ◌+++◌, joined, list, size, Rule, holds, every, distinct}
use Rattle.grammar.specs.Segments.{Unb, seg, number}
use Rattle.grammar.specs.Interchange.{Leaf, Header, Trailer, Body, msg, Message, message, idle, done, shown, show_message}
use Rattle.grammar.specs.Rules.{inside_s, formed_s, amount_s, ok_message, subsets_message, ref_m, refs_message, counts_message, scopes_message}
use Rattle.grammar.specs.Valid.{Una, Interchange, interchange, Valid, print_interchange, print_una, in_force, syntax_in, opening_in}
use Rattle.grammar.specs.StartLaws.{fit-in-force}
use Rattle.grammar.specs.Places.{wide}
use Rattle.grammar.proofs.PlacesLaws.{wide-list}
use Rattle.grammar.specs.Named.{placed, placed_in}
use Rattle.walk.specs.RunLaws.{long-print}
use Rattle.groups.specs.Calls.{version_by, service_in, version_in, message_in}
use Rattle.groups.specs.CallsLaws.{placed-every}
use Rattle.weaving.specs.Seals.{new_header, new_trailer, sealed_in, sealed, may_seal, may_write, writable}
use Rattle.demands.specs.SealedMessageLaws.{May, may, order-sealed, subsets-sealed, refs-sealed, counts-sealed, scopes-sealed}
use Rattle.demands.specs.SealedTreeLaws.{refs-same, size_same, any_same, every-sealed}
use Rattle.demands.specs.SealedWrittenLaws.{well_s, list-well, well-list}
use Rattle.demands.specs.SealedSegmentLaws.{Takes, most_text, message-takes, takes-well, takes-inside, takes-formed, takes-amount}
use Rattle.grammar.proofs.ListsLaws.{size-join, every-left, every-right, every-join, every-joined, joined-every}

-- ---- a segment has four octets at least, so an interchange has few segments

pub wide-size : (σ : Service) (gs : Snoc Segment) → 4 * size gs ≤ wide σ gs
wide-size σ nil = omega arith
wide-size σ (gs ▷ g) = omega (arith, wide-size σ gs, long-print σ g)

print-size : (n : Option Una) (u : Leaf) (ms : Snoc Message) (z : Leaf) → 4 * (2 + size (joined show_message ms)) ≤ length (print_interchange (interchange n u ms z))
print-size n u ms z =
    let σ : Service = in_force (syntax_in (interchange n u ms z)) in
    omega (
      arith,
      length-append (print_una n) (syntax.print σ (list (shown (done u ms z)))),
      wide-list σ (shown (done u ms z)),
      wide-size σ (shown (done u ms z)),
      size-join (nil ▷ seg Unb u) (joined show_message ms),
    )

-- a message of them
placed-size : (σ : Service) (p : ℕ) (u : Leaf) (r : List ℕ) (ms : Snoc Message) {m : Message} {q : ℕ} → placed_in σ p u ms r ≡ some (placed m q) → size (show_message m) ≤ size (joined show_message ms)
placed-size σ p u r nil e = let z : ◌≡◌ {A = ℕ} 0 1 = cc in absurd (omega arith)
placed-size σ p u r (ms ▷ x) {m} {q} e = by (same (ref_m x) r) (λ d. placed-size σ p u r ms d) e
  where
    by : (b : Bool) → (placed_in σ p u ms r ≡ some (placed m q) → size (show_message m) ≤ size (joined show_message ms))
        → cond b (some (placed x (p + wide σ (shown (idle u ms))))) (placed_in σ p u ms r) ≡ some (placed m q) → size (show_message m) ≤ size (joined show_message ms +++ show_message x)
    by true f e = let j : x ≡ m = cc in omega (arith, size-join (joined show_message ms) (show_message x), ap (λ (y : Message). size (show_message y)) j)
    by false f e = omega (arith, size-join (joined show_message ms) (show_message x), f e)

-- ---- the interchange

module _ (k : Option Una) (u : Leaf) (ms : Snoc Message) (z : Leaf) (v : Valid (interchange k u ms z)) (m r : List ℕ) (f : ℕ) (t : List ℕ) where
  abbrev new : Trailer
  new = new_trailer v.y.version v.y.service r t

  abbrev after : Snoc Message
  after = sealed_in (new_header r f) (new_trailer v.y.version v.y.service r t) ms m

  module _ (σ : Service) (p : ℕ) (w : Leaf) (hs : Snoc Header) (b : Body) (ts : Snoc Trailer) (n : Leaf) (q : ℕ) (e : placed_in σ p u ms m ≡ some (placed (message (msg w hs b ts) n) q)) where
    -- UNT's count has room to grow
    pub small : number n 1 + 4 < 1000000
    small =
        let c = placed-every σ p u m (counts_message v.y.version) ms e v.counted.0 in
        omega (
          arith,
          eqb→eq (number n 1) (size (show_message (message (msg w hs b ts) n))) c.0,
          placed-size σ p u m ms e,
          print-size k u ms z,
          leb→le (length (print_interchange (interchange k u ms z))) 65535 (and_right (leb 1 (length (print_interchange (interchange k u ms z)))) (leb (length (print_interchange (interchange k u ms z))) 65535) v.octets_right),
        )

    all_take : (rule : Segment → Rule) → Takes rule v.y.version r f v.y.service t n → holds (every rule (shown (done u ms z))) → holds (every rule (shown (done u after z)))
    all_take rule a h =
        let U : Snoc Segment = nil ▷ seg Unb u in (
          every-join rule U (joined show_message after) (every-left rule U (joined show_message ms) h.0)
              (joined-every rule show_message after
              (every-sealed (new_header r f) new m σ p u (λ x. every rule (show_message x)) ms e (λ g. message-takes rule v.y.version r f v.y.service t w hs b ts n a g)
              (every-joined rule show_message ms (every-right rule U (joined show_message ms) h.0)))),
          h.1,
        )

    pub valid-at : May v.y.version w hs r f → T (octets.all_pass (may_write v.y) t) → length t ≤ most_text v.y.version → length (print_interchange (interchange k u after z)) ≤ 65535 → Valid (interchange k u after z)
    valid-at y a s l =
        let fits = fit-in-force (interchange k u ms z) v in
        let d : number n 1 + 4 < 1000000 = small in
        let o = placed-every σ p u m ok_message ms e v.in_order.0 in
        let g = placed-every σ p u m refs_message ms e v.references.1.0 in
        let H : Header = new_header r f in
        let σ' : Service = v.y.service in
        record {
          octets_right =
              and_both (leb 1 (length (print_interchange (interchange k u after z)))) (leb (length (print_interchange (interchange k u after z))) 65535)
              (le→leb 1 (length (print_interchange (interchange k u after z))) (omega (arith, print-size k u after z))) (le→leb (length (print_interchange (interchange k u after z))) 65535 l);
          service_right = v.service_right;
          y = v.y;
          named = v.named;
          written =
              list-well σ' (shown (done u after z))
              (all_take (well_s σ') (takes-well v.y fits r f t n y.ref y.filter a s d) (well-list σ' (shown (done u ms z)) v.written));
          repertoire = all_take (inside_s v.y) (takes-inside v.y fits r f t n y.ref y.filter a s d) v.repertoire;
          in_order = (
            every-sealed H new m σ p u ok_message ms e (λ h. order-sealed v.y.version r f σ' t w hs b ts n y h) v.in_order.0,
            subst T (sym (any_same H new m ms)) v.in_order.1,
          );
          elements = all_take (formed_s v.y) (takes-formed v.y fits r f t n y.ref y.filter a s d) v.elements;
          in_subset = every-sealed H new m σ p u subsets_message ms e (λ h. subsets-sealed v.y.version r f σ' t w hs b ts n y h) v.in_subset;
          references = (
            subst (λ (x : Snoc (List ℕ)). holds (distinct x)) (sym (refs-same H new m ms)) v.references.0,
            (every-sealed H new m σ p u refs_message ms e (λ h. refs-sealed v.y.version r f σ' t w hs b ts n y o h) v.references.1.0, v.references.1.1),
          );
          counted = (
            every-sealed H new m σ p u (counts_message v.y.version) ms e (λ h. counts-sealed v.y.version r f σ' t w hs b ts n y d g h) v.counted.0,
            subst (λ (x : ℕ). T (eqb (number z 1) x)) (sym (size_same H new m ms)) v.counted.1,
          );
          scoped = every-sealed H new m σ p u scopes_message ms e (λ h. scopes-sealed v.y.version r f σ' t w hs b ts n y h) v.scoped;
          weighed = all_take amount_s (takes-amount v.y fits r f t n y.ref y.filter a s d) v.weighed;
        }

-- the message that is named may be sealed, VALUE's text may be written, and the result is not too long
pub sealed-valid : (i : Interchange) → Valid i → (m r : List ℕ) (f : ℕ) (t : List ℕ) (w : Leaf) (hs : Snoc Header) (b : Body) (ts : Snoc Trailer) (n : Leaf) {q : ℕ}
    → message_in i m ≡ some (placed (message (msg w hs b ts) n) q) → T (may_seal (version_in i) (msg w hs b ts) r f) → T (writable (syntax_in i) t) → length t ≤ most_text (version_in i)
    → length (print_interchange (sealed i m (new_header r f) (new_trailer (version_in i) (service_in i) r t))) ≤ 65535 → Valid (sealed i m (new_header r f) (new_trailer (version_in i) (service_in i) r t))
sealed-valid (interchange k u ms z) v m r f t w hs b ts n {q} e a c s l =
    let j : Interchange = interchange k u ms z in
    subst (λ (x : Option Syntax). Valid (sealed (interchange k u ms z) m (new_header r f) (new_trailer (version_by x) (in_force x) r t))) (sym v.named)
    (valid-at k u ms z v (compared m) r f t (service_in j) (opening_in k).at w hs b ts n q e
    (may v.y.version w hs b ts r f (subst (λ (x : Option Syntax). T (may_seal (version_by x) (msg w hs b ts) r f)) v.named a))
    (subst (λ (x : Option Syntax). T (writable x t)) v.named c) (subst (λ (x : Option Syntax). length t ≤ most_text (version_by x)) v.named s)
    (subst (λ (x : Option Syntax). length (print_interchange (sealed (interchange k u ms z) m (new_header r f) (new_trailer (version_by x) (in_force x) r t))) ≤ 65535) v.named l))
