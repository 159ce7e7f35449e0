-- The verdict reads a tree exactly where it is valid and these are its octets. The demands are corollaries.
use Rattle.syntax.specs.declared.Breach.{Breach}
use Rattle.std.specs.Prelude.{ℕ, Bool, true, false, List, [], ◌∷◌, ◌++◌, ◌↔◌, ◌≡◌, refl, T, length, drop, Result, Ok, Err}
use Rattle.std.proofs.Common.{arith, ap, sym, ◌∙◌, subst}
use Rattle.std.proofs.Math.Option.{Option, none, some}
use Rattle.syntax.specs.Content.{compared}
use Rattle.syntax.specs.Octets.{within}
use Rattle.syntax.specs.Opening.{begun_of}
use Rattle.syntax.specs.Tree as syntax
use Rattle.syntax.specs.Tree.{Segment, print_s, well, repeats_of}
use Rattle.syntax.proofs.TreeLaws.{print-cons}
use Rattle.syntax.proofs.ReaderLaws.{well-uncons}
use Rattle.syntax.specs.Reader.{chain}
use Rattle.syntax.specs.declared.Refusal.{Refusal}
use Rattle.syntax.specs.declared.Syntax.{Syntax}
use Rattle.syntax.specs.declared.opening.Start.{Start}
use Rattle.grammar.specs.Lists.{Snoc, joined, list, each, holds}
use Rattle.grammar.specs.Segments.{Unb, seg, element_at, asked}
use Rattle.grammar.specs.Elements.{formed}
use Rattle.grammar.specs.Rules.{formed_s, well_formed}
use Rattle.grammar.specs.Interchange.{Leaf, Message, Reading, start, idle, busy, done, shown, show_message}
use Rattle.grammar.specs.Valid.{Una, Interchange, interchange, reading, segments, opening_in, print_una, una_of, in_force, syntax_in, print_interchange, Valid}
use Rattle.grammar.specs.Verdict.{Answer, read, refused, walk, Verdict, accepted, refused_with, una_at, concluded, verdict_by, verdict_of, totals_in, totals_by, totals_of}
use Rattle.grammar.specs.Counted.{counted_in, messages_in}
use Rattle.grammar.specs.Running.{Good, Runs}
use Rattle.grammar.proofs.RunningLaws.{runs-good, good-runs}
use Rattle.grammar.proofs.WalkLaws.{walk-sound, walk-complete}
use Rattle.grammar.specs.StartLaws.{every_front, StartRead, start-read, syntax-read, behind, unb-first, unb-once, fit-in-force, una-printed, rest-printed, start-printed}

-- ---- a valid interchange is accepted

good_of : (t : Interchange) (v : Valid t) → Good v.y (reading t)
good_of t v = record { three = v.repertoire; seven = v.in_order; eight = v.elements; in_subset = v.in_subset; nine = v.references; ten = v.counted; eleven = v.scoped; twelve = v.weighed }

accepts : (t : Interchange) → Valid t → verdict_of (print_interchange t) ≡ accepted t
accepts (interchange n u ms z) v =
    let w : walk v.y start (chain v.y.service false (syntax.print v.y.service (segments (interchange n u ms z)))) (opening_in n).at ≡ read (done u ms z) =
    walk-complete v.y (fit-in-force (interchange n u ms z) v) (segments (interchange n u ms z)) (opening_in n).at u ms z v.written
    (good-runs v.y (done u ms z) (good_of (interchange n u ms z) v)) in
    ap (verdict_by (print_interchange (interchange n u ms z))) (start-printed (interchange n u ms z) v)
    ∙ ap (λ (l : List ℕ). concluded (print_interchange (interchange n u ms z)) (una_at (print_interchange (interchange n u ms z))) (walk v.y start (chain v.y.service false l) (opening_in n).at)) (rest-printed (interchange n u ms z) v)
    ∙ ap (concluded (print_interchange (interchange n u ms z)) (una_at (print_interchange (interchange n u ms z)))) w
    ∙ ap (λ (a : Option Una). accepted (interchange a u ms z)) (una-printed (interchange n u ms z) v)

-- ---- what is accepted is valid, and is printed

never : {t : Interchange} {f : Refusal} → refused_with f ≡ accepted t → ⊥
never e = let z : ◌≡◌ {A = ℕ} 0 1 = cc in omega arith

-- a walk that ended in a whole interchange
pub record Ended (n : Option Una) (a : Answer) (t : Interchange) : Type 0 where
  pub u : Leaf
  pub ms : Snoc Message
  pub z : Leaf
  pub walked : a ≡ read (done u ms z)
  pub whole : interchange n u ms z ≡ t

ends : (s : List ℕ) (n : Option Una) (a : Answer) (t : Interchange) → concluded s n a ≡ accepted t → Ended n a t
ends s n (read start) t e = absurd (never e)
ends s n (read (idle u ms)) t e = absurd (never e)
ends s n (read (busy u ms o)) t e = absurd (never e)
ends s n (read (done u ms z)) t e = record { u = u; ms = ms; z = z; walked = refl; whole = cc }
ends s n (refused k p) t e = absurd (never e)

-- the first segment is UNB, formed as its row says
unb-formed : (y : Syntax) (u : Leaf) (ms : Snoc Message) (z : Leaf) → holds (well_formed y (done u ms z)) → T (formed y.version (asked (seg Unb u)))
unb-formed y u ms z h = every_front (formed_s y) (seg Unb u) (joined show_message ms) h.0

valid-read : (s : List ℕ) (x : Start) → begun_of s ≡ Ok x → (u : Leaf) (ms : Snoc Message) (z : Leaf)
    → walk x.syntax start (chain x.syntax.service false (drop x.at s)) x.at ≡ read (done u ms z)
    → Valid (interchange (una_at s) u ms z) × (print_interchange (interchange (una_at s) u ms z) ≡ s)
valid-read s x h u ms z w =
    let r = start-read s x h in
    let k = walk-sound x.syntax r.fits (drop x.at s) x.at w in
    let g = runs-good x.syntax k.3 in
    let e : list (shown (done u ms z)) ≡ k.0 = g.1 in
    let wl : T (well x.syntax.service (list (shown (done u ms z)))) = subst (λ (gs : List Segment). T (well x.syntax.service gs)) (sym e) k.1 in
    let pr : syntax.print x.syntax.service (list (shown (done u ms z))) ≡ drop x.at s = ap (syntax.print x.syntax.service) e ∙ k.2 in
    let f : list (shown (done u ms z)) ≡ seg Unb u ∷ behind ms z = unb-first u ms z in
    let first : T (well x.syntax.service (seg Unb u ∷ [])) =
    (well-uncons x.syntax.service (seg Unb u) (behind ms z) (subst (λ (gs : List Segment). T (well x.syntax.service gs)) f wl)).0 in
    let d : drop x.at s ≡ print_s x.syntax.service (seg Unb u) ++ syntax.print x.syntax.service (behind ms z) =
    sym pr ∙ ap (syntax.print x.syntax.service) f ∙ print-cons x.syntax.service (seg Unb u) (behind ms z) in
    let once : repeats_of (element_at u 1) ≡ false = unb-once x.syntax u (unb-formed x.syntax u ms z g.0.eight) in
    let sy : syntax_in (interchange (una_at s) u ms z) ≡ some x.syntax =
    syntax-read s x h u (syntax.print x.syntax.service (behind ms z)) first d once ms z in
    let pt : print_interchange (interchange (una_at s) u ms z) ≡ s =
    ap (λ (y : Option Syntax). print_una (una_at s) ++ syntax.print (in_force y) (list (shown (done u ms z)))) sy
    ∙ ap (λ (l : List ℕ). print_una (una_at s) ++ l) pr ∙ r.whole in (
      record {
        octets_right = subst (λ (l : List ℕ). T (within 1 65535 (length l))) (sym pt) r.lengths;
        service_right = r.una-right;
        y = x.syntax;
        named = sy;
        written = wl;
        repertoire = g.0.three;
        in_order = g.0.seven;
        elements = g.0.eight;
        in_subset = g.0.in_subset;
        references = g.0.nine;
        counted = g.0.ten;
        scoped = g.0.eleven;
        weighed = g.0.twelve;
      },
      pt,
    )

reads : (s : List ℕ) (t : Interchange) → verdict_of s ≡ accepted t → Valid t × (print_interchange t ≡ s)
reads s t e = by (begun_of s) refl e
  where
    by : (b : Result Start Breach) → begun_of s ≡ b → verdict_by s b ≡ accepted t → Valid t × (print_interchange t ≡ s)
    by (Err f) h e = absurd (never e)
    by (Ok x) h e =
        let d = ends s (una_at s) (walk x.syntax start (chain x.syntax.service false (drop x.at s)) x.at) t e in
        subst (λ (t : Interchange). Valid t × (print_interchange t ≡ s)) d.whole (valid-read s x h d.u d.ms d.z d.walked)

-- ---- the demands

-- the verdict reads t exactly where t is valid and prints the octets
pub verdict-exact : (s : List ℕ) (t : Interchange) → (verdict_of s ≡ accepted t) ↔ (Valid t × (print_interchange t ≡ s))
verdict-exact s t = (reads s t, λ (h : Valid t × (print_interchange t ≡ s)). subst (λ (s : List ℕ). verdict_of s ≡ accepted t) h.1 (accepts t h.0))

-- D2a: accepted if and only if some valid interchange prints the octets
pub accepted-exactly : (s : List ℕ) → ((t : Interchange) × (verdict_of s ≡ accepted t)) ↔ ((t : Interchange) × Valid t × (print_interchange t ≡ s))
accepted-exactly s = (
  λ (h : (t : Interchange) × (verdict_of s ≡ accepted t)). let k = reads s h.0 h.1 in (h.0, k.0, k.1),
  λ (h : (t : Interchange) × Valid t × (print_interchange t ≡ s)). (h.0, (verdict-exact s h.0).1 (h.1, h.2)),
)

pub accepted-one : {t v : Interchange} → accepted t ≡ accepted v → t ≡ v
accepted-one e = cc

-- D2b: valid interchanges that print the same octets are equal
pub one-reading : (t v : Interchange) → Valid t → Valid v → print_interchange t ≡ print_interchange v → t ≡ v
one-reading t v a b e = accepted-one (sym (accepts t a) ∙ ap verdict_of e ∙ accepts v b)

-- the reading is what is counted
pub reading-counted : (s : List ℕ) (t v : Interchange) → verdict_of s ≡ accepted t → Valid v → print_interchange v ≡ s → (v ≡ t) × (counted_in v ≡ counted_in t)
reading-counted s t v a b e = let h : v ≡ t = accepted-one (sym (accepts v b) ∙ ap verdict_of e ∙ a) in (h, ap counted_in h)

totals-of : (v : Interchange) (r : List ℕ) → totals_by (accepted v) r ≡ totals_in (messages_in v) r
totals-of (interchange n u ms z) r = refl

-- the totals given back are those of the reading's messages
pub totals-read : (s : List ℕ) (v : Interchange) (r : List ℕ) → Valid v → print_interchange v ≡ s → totals_of s r ≡ totals_in (messages_in v) (compared r)
totals-read s v r b e = ap (λ (d : Verdict). totals_by d (compared r)) ((verdict-exact s v).1 (b, e)) ∙ totals-of v (compared r)

-- a refused input is the printing of no valid interchange
pub refused_none : (s : List ℕ) (f : Refusal) → verdict_of s ≡ refused_with f → (t : Interchange) → Valid t → print_interchange t ≡ s → ⊥
refused_none s f e t a h = never (sym e ∙ (verdict-exact s t).1 (a, h))
