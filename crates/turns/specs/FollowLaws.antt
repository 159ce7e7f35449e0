-- What the code keeps follows the tree: the tests and the step on what is kept answer as the rules and the placing do. A law for each kind of segment.
use Rattle.grammar.specs.declared.Subset.{Subset}
use Rattle.std.specs.Prelude.{ℕ, suc, Bool, true, false, cond, not, ◌&&◌, List, [], ◌∷◌, ◌≡◌, refl, T, eqb, ltb, Option, None, Some}
use Rattle.std.proofs.lemmas.Bool.{false≢true}
use Rattle.std.proofs.Math.Option.{Option as Maybe, none, some, none-ne-some}
use Rattle.std.proofs.Common.{ap, ◌∙◌, sym, subst}
use Rattle.syntax.specs.Octets.{octets, same}
use Rattle.syntax.specs.Cutting.{first_outside}
use Rattle.syntax.specs.Tree.{Segment, print_s}
use Rattle.syntax.specs.declared.Syntax.{Syntax}
use Rattle.syntax.specs.declared.Version.{Version}
use Rattle.grammar.specs.Lists.{Snoc, nil, ◌▷◌, each, size, any, among, Rule, always, test, ◌and◌, holds, check, every, every_before}
use Rattle.grammar.specs.declared.Subset.TheVariants.{F01, Gs1}
use Rattle.grammar.proofs.ListsLaws.{each-size}
use Rattle.grammar.specs.Segments as segments
use Rattle.grammar.specs.Segments.{Name, Named, Free, Asked, asked, elements_of, tag_text, unb0020, unh0062, unt0062, unz0020, ush0534, ust0534, usy0534, unt0074, unz0036}
use Rattle.grammar.specs.Interchange.{Leaf, certificate, Header, header, Trailer, trailer, link, Body, plain, ack, Open, msg, Message, message, Reading, start, idle, busy, done, show_open}
use Rattle.grammar.specs.Loads.{loads, controls, load_in, control_in}
use Rattle.grammar.specs.Rules.{inside_s, order, formed_s, formed_in, subsets, refs, counts, scopes, amount_s, autack, certified, is_autack, subset, ref_h, ref_t, ref_m, is_free, ok_item, whole, filled, one, paired, total, scope_right}
use Rattle.grammar.specs.RuleLaws.{check-holds, holds-check, is-autack}
use Rattle.grammar.specs.Placing.{grow_named, grow, place, in_open, in_body, item_b}
use Rattle.grammar.proofs.PlacingLaws.{same-eq}
use Rattle.grammar.specs.Verdict.{tested, on, found_at, tests, refused, decided}
use Rattle.grammar.specs.Running.{Good}
use Rattle.elements.specs.Kinds.{of_name, of_kind, tag_kind}
use Rattle.elements.specs.Formed.{subset_by}
use Rattle.elements.specs.declared.Kind.{Kind}
use Rattle.elements.specs.declared.Kind.TheVariants.{Unb, Unh, Unt, Unz, Ush, Usa, Usc, Usr, Ust, Usb, Usx, Usy, Reserved, Qty, Cnt, Other}
use Rattle.message.specs.declared.Sums.{Sums}
use Rattle.message.specs.Summary.{group_of, sums_of, summary_of, flags_of, StateS, busy_s, state_of, at_heads, at_items, closes, order_k, is_found, free_at, subset_k, refs_k, counts_k, scope_k, ust_next, item_next, loaded, controlled, next_k, order_s, subset_s, refs_s, counts_s, scope_s, next_s, AnswerS, refused_s, tests_s, decided_s, answer_of}
use Rattle.message.specs.FlagLaws.{alike, any-each, any-size, load-sums, control-sums, totals, pairs-right, pairs-counted, all_named_lem, Spot, no, yes, spot}

-- ---- what is to be shown of a segment of the kind k whose view is a: where it has no place, 7 is broken; where it has one, each test answers as its
-- rule does, given the rules before it, and the step gives what is kept of the result

pub data Follow (v : Version) (x : Reading) (k : Kind) (a : Asked) : Maybe Reading → Type 0 where
  nowhere : order_k (state_of x) k ≡ false → Follow v x k a none
  here : (z : Reading) → (check (order z) ≡ order_k (state_of x) k) × (check (subsets z) ≡ subset_k (state_of x) k a)
      → (holds (order z) → check (refs z) ≡ refs_k (state_of x) k a)
      → (holds (order z) → holds (refs z) → check (counts v z) ≡ counts_k v (state_of x) k a) → (holds (order z) → check (scopes z) ≡ scope_k (state_of x) k a)
      → (holds (order z) → holds (refs z) → state_of z ≡ next_k (state_of x) k a) → Follow v x k a (some z)

-- ---- small facts

-- the last header has a USC, if the subset asks for one
abbrev latest : Option Subset → Snoc Header → Rule
latest a nil = always
latest a (hs ▷ x) = certified a x

heads : (h : Leaf) (hs : Snoc Header) → at_heads (subset h) (group_of (msg h hs (plain nil) nil)) ≡ check (latest (subset h) hs)
heads h nil = refl
heads h (hs ▷ header c us nil) = refl
heads h (hs ▷ header c us (cs ▷ certificate d vs r)) = refl

-- the last header and those before it
latest-too : (a : Option Subset) (hs : Snoc Header) → holds (every_before (certified a) hs) → holds (latest a hs) → holds (every (certified a) hs)
latest-too a nil b l = tt
latest-too a (hs ▷ x) b l = (b, l)

latest-of : (a : Option Subset) (hs : Snoc Header) → holds (every (certified a) hs) → holds (latest a hs)
latest-of a nil h = tt
latest-of a (hs ▷ x) h = h.1

-- what a subset checks of a segment is its elements, whatever the tag
usc-row : (a : Option Subset) (g : Segment) → check (formed_in a segments.Usc (elements_of g)) ≡ subset_by Usc a (asked g)
usc-row None g = refl
usc-row (Some F01) g = refl
usc-row (Some Gs1) g = refl

usb-row : (a : Option Subset) (g : Segment) → check (formed_in a segments.Usb (elements_of g)) ≡ subset_by Usb a (asked g)
usb-row None g = refl
usb-row (Some F01) g = refl
usb-row (Some Gs1) g = refl

usx-row : (a : Option Subset) (g : Segment) → check (formed_in a segments.Usx (elements_of g)) ≡ subset_by Usx a (asked g)
usx-row None g = refl
usx-row (Some F01) g = refl
usx-row (Some Gs1) g = refl

items : (h : Leaf) (hs : Snoc Header) → at_items (group_of (msg h hs (plain nil) nil)) ≡ true
items h nil = refl
items h (hs ▷ header c us nil) = refl
items h (hs ▷ header c us (cs ▷ certificate d vs r)) = refl

module _ (y : Syntax) (u : Leaf) (ms : Snoc Message) (g : Segment) where
  ush : (o : Open) → Good y (busy u ms o) → Follow y.version (busy u ms o) Ush (asked g) (grow_named segments.Ush (elements_of g) (busy u ms o))
  ush (msg h hs (plain nil) nil) q =
      let z : Reading = busy u ms (msg h (hs ▷ header (elements_of g) nil nil) (plain nil) nil) in
      here z (
        rw (heads h hs, each-size ref_h hs)
            (alike (order z) (latest (subset h) hs and test (ltb (size hs) 9))
            (λ p. (latest-of (subset h) hs p.1.1.1.1.1, p.1.0))
            (λ p. (q.seven.0, (p.1, ((q.seven.1.1.0, (tt, (tt, tt))), (tt, (tt, latest-too (subset h) hs q.seven.1.1.1.1.1 p.0))))))),
        holds-check (subsets z) (q.in_subset.0, ((q.in_subset.1.0, tt), q.in_subset.1.1)),
      )
      (λ i. alike (refs z) (test (not (among (each ref_h hs) (ush0534 (elements_of g)))))
      (λ p. p.1.1.0.1) (λ p. (q.nine.0, (q.nine.1.0, ((q.nine.1.1.0, p), q.nine.1.1.1)))))
      (λ i j. holds-check (counts y.version z) q.ten)
      (λ i. alike (scopes z) (scope_right (subset h) (header (elements_of g) nil nil)) (λ p. p.1.1) (λ p. (q.eleven.0, (q.eleven.1, p))))
      (λ i j. refl)
  ush (msg h hs (plain (b ▷ i)) nil) q = nowhere refl
  ush (msg h hs (ack d ls) nil) q = nowhere refl
  ush (msg h hs b (ts ▷ trailer t r)) q = nowhere refl

  usa : (o : Open) → Good y (busy u ms o) → Follow y.version (busy u ms o) Usa (asked g) (grow_named segments.Usa (elements_of g) (busy u ms o))
  usa (msg h nil (plain nil) nil) q = nowhere refl
  usa (msg h (hs ▷ header d us nil) (plain nil) nil) q =
      let z : Reading = busy u ms (msg h (hs ▷ header d (us ▷ elements_of g) nil) (plain nil) nil) in
      here z (
        alike (order z) (test (ltb (size us) 3))
            (λ p. p.1.1.0.1.0) (λ p. (q.seven.0, (q.seven.1.0, ((q.seven.1.1.0.0, (p, q.seven.1.1.0.1.1)), q.seven.1.1.1)))),
        holds-check (subsets z) q.in_subset,
      )
      (λ i. holds-check (refs z) q.nine)
      (λ i j. holds-check (counts y.version z) q.ten)
      (λ i. holds-check (scopes z) q.eleven)
      (λ i j. refl)
  usa (msg h (hs ▷ header d us (cs ▷ certificate e vs none)) (plain nil) nil) q =
      let z : Reading = busy u ms (msg h (hs ▷ header d us (cs ▷ certificate e (vs ▷ elements_of g) none)) (plain nil) nil) in
      here z (
        alike (order z) (test (ltb (size vs) 3)) (λ p. p.1.1.0.1.1.1.1)
            (λ p. (q.seven.0, (q.seven.1.0, ((q.seven.1.1.0.0, (q.seven.1.1.0.1.0, (q.seven.1.1.0.1.1.0, (q.seven.1.1.0.1.1.1.0, p)))), q.seven.1.1.1)))),
        holds-check (subsets z) q.in_subset,
      )
      (λ i. holds-check (refs z) q.nine)
      (λ i j. holds-check (counts y.version z) q.ten)
      (λ i. holds-check (scopes z) q.eleven)
      (λ i j. refl)
  usa (msg h (hs ▷ header d us (cs ▷ certificate e vs (some r))) (plain nil) nil) q = nowhere refl
  usa (msg h hs (plain (b ▷ i)) nil) q = nowhere refl
  usa (msg h hs (ack d ls) nil) q = nowhere refl
  usa (msg h hs b (ts ▷ trailer t r)) q = nowhere refl

  usc : (o : Open) → Good y (busy u ms o) → Follow y.version (busy u ms o) Usc (asked g) (grow_named segments.Usc (elements_of g) (busy u ms o))
  usc (msg h nil (plain nil) nil) q = nowhere refl
  usc (msg h (hs ▷ header d us nil) (plain nil) nil) q =
      let z : Reading = busy u ms (msg h (hs ▷ header d us (nil ▷ certificate (elements_of g) nil none)) (plain nil) nil) in
      here z (
        holds-check (order z) (q.seven.0, (q.seven.1.0, ((q.seven.1.1.0.0, (q.seven.1.1.0.1.0, (tt, (tt, tt)))), q.seven.1.1.1))),
        alike (subsets z) (formed_in (subset h) segments.Usc (elements_of g)) (λ p. p.1.0.1.1) (λ p. (q.in_subset.0, ((q.in_subset.1.0.0, (tt, p)), q.in_subset.1.1)))
            ∙ usc-row (subset h) g,
      )
      (λ i. holds-check (refs z) q.nine)
      (λ i j. holds-check (counts y.version z) q.ten)
      (λ i. holds-check (scopes z) q.eleven)
      (λ i j. refl)
  usc (msg h (hs ▷ header d us (cs ▷ certificate e vs r)) (plain nil) nil) q =
      let z : Reading = busy u ms (msg h (hs ▷ header d us (cs ▷ certificate e vs r ▷ certificate (elements_of g) nil none)) (plain nil) nil) in
      here z (
        alike (order z) (test (ltb (suc (size cs)) 2)) (λ p. p.1.1.0.1.1.0)
            (λ p. (q.seven.0, (q.seven.1.0, ((q.seven.1.1.0.0, (q.seven.1.1.0.1.0, (p, (q.seven.1.1.0.1.1.1, tt)))), q.seven.1.1.1)))),
        alike (subsets z) (formed_in (subset h) segments.Usc (elements_of g)) (λ p. p.1.0.1.1) (λ p. (q.in_subset.0, ((q.in_subset.1.0.0, (q.in_subset.1.0.1, p)), q.in_subset.1.1)))
            ∙ usc-row (subset h) g,
      )
      (λ i. holds-check (refs z) q.nine)
      (λ i j. holds-check (counts y.version z) q.ten)
      (λ i. holds-check (scopes z) q.eleven)
      (λ i j. refl)
  usc (msg h hs (plain (b ▷ i)) nil) q = nowhere refl
  usc (msg h hs (ack d ls) nil) q = nowhere refl
  usc (msg h hs b (ts ▷ trailer t r)) q = nowhere refl

  usr : (o : Open) → Good y (busy u ms o) → Follow y.version (busy u ms o) Usr (asked g) (grow_named segments.Usr (elements_of g) (busy u ms o))
  usr (msg h nil (plain nil) nil) q = nowhere refl
  usr (msg h (hs ▷ header d us nil) (plain nil) nil) q = nowhere refl
  usr (msg h (hs ▷ header d us (cs ▷ certificate e vs none)) (plain nil) nil) q =
      let z : Reading = busy u ms (msg h (hs ▷ header d us (cs ▷ certificate e vs (some (elements_of g)))) (plain nil) nil) in
      here z (
        holds-check (order z) q.seven,
        holds-check (subsets z) q.in_subset,
      )
      (λ i. holds-check (refs z) q.nine)
      (λ i j. holds-check (counts y.version z) q.ten)
      (λ i. holds-check (scopes z) q.eleven)
      (λ i j. refl)
  usr (msg h (hs ▷ header d us (cs ▷ certificate e vs (some r))) (plain nil) nil) q = nowhere refl
  usr (msg h hs (plain (b ▷ i)) nil) q = nowhere refl
  usr (msg h hs (ack d ls) nil) q = nowhere refl
  usr (msg h hs b (ts ▷ trailer t none)) q =
      let z : Reading = busy u ms (msg h hs b (ts ▷ trailer t (some (elements_of g)))) in
      here z (
        holds-check (order z) q.seven,
        holds-check (subsets z) q.in_subset,
      )
      (λ i. holds-check (refs z) q.nine)
      (λ i j. holds-check (counts y.version z) q.ten)
      (λ i. holds-check (scopes z) q.eleven)
      (λ i j. refl)
  usr (msg h hs b (ts ▷ trailer t (some r))) q = nowhere refl

  -- what a trailer or UNT asks of the body: nothing after a trailer
  as-autack : (h : Leaf) (hs : Snoc Header) (b : Body) (ts : Snoc Trailer) → Good y (busy u ms (msg h hs b ts))
      → check (whole (autack h) b) ≡ closes (autack h) (group_of (msg h hs b ts))
  as-autack h nil (plain nil) nil q = refl
  as-autack h (hs ▷ header d us nil) (plain nil) nil q = refl
  as-autack h (hs ▷ header d us (cs ▷ certificate e vs r)) (plain nil) nil q = refl
  as-autack h hs (plain (b ▷ i)) nil q = holds-check (test (not (autack h))) q.seven.1.1.1.0.0
  as-autack h hs (ack d nil) nil q = refl
  as-autack h hs (ack d (ls ▷ link e ys)) nil q = alike (every filled (ls ▷ link e ys)) (test (any ys)) (λ p. p.1) (λ p. (q.seven.1.1.1.0.1.1, p))
  as-autack h hs b (ts ▷ trailer t r) q = holds-check (whole (autack h) b) q.seven.1.1.1.1.0

  ends : (h : Leaf) (hs : Snoc Header) (b : Body) (ts : Snoc Trailer) → Good y (busy u ms (msg h hs b ts))
      → check (whole (autack h) b) ≡ closes (is_autack (subset h)) (group_of (msg h hs b ts))
  ends h hs b ts q = as-autack h hs b ts q ∙ ap (λ (a : Bool). closes a (group_of (msg h hs b ts))) (sym (is-autack h))

  -- what the search for the header that a UST names finds
  ust-found : (hs : Snoc Header) (names : Snoc (List ℕ)) (o : Maybe ℕ) → Spot (ust0534 (elements_of g)) hs names o
      → (not (among names (ust0534 (elements_of g))) && among (each ref_h hs) (ust0534 (elements_of g))) ≡ is_found o
  ust-found hs names o (no k) = k
  ust-found hs names o (yes i k l s f) = k

  ust-next : (h : Leaf) (hs : Snoc Header) (b : Body) (ts : Snoc Trailer) (o : Maybe ℕ) → Spot (ust0534 (elements_of g)) hs (each ref_t ts) o
      → is_found o ≡ true
      → state_of (busy u ms (msg h hs b (ts ▷ trailer (elements_of g) none))) ≡ busy_s (unb0020 u) (each ref_m ms) (ust_next (summary_of (msg h hs b ts)) (asked g) o)
  ust-next h hs b ts o (no k) e = absurd (false≢true e)
  ust-next h hs b ts o (yes i k l s f) e = rw (pairs-right hs ts, s, f)

  ust-refs : (h : Leaf) (hs : Snoc Header) (b : Body) (ts : Snoc Trailer) → Good y (busy u ms (msg h hs b ts))
      → check (refs (busy u ms (msg h hs b (ts ▷ trailer (elements_of g) none)))) ≡ is_found (free_at (ust0534 (elements_of g)) (each ref_h hs) (flags_of (each ref_t ts) (each ref_h hs)))
  ust-refs h hs b ts q =
      alike (refs (busy u ms (msg h hs b (ts ▷ trailer (elements_of g) none)))) (test (not (among (each ref_t ts) (ust0534 (elements_of g)))) and test (among (each ref_h hs) (ust0534 (elements_of g))))
      (λ p. (p.1.1.1.1.0.1, p.1.1.1.1.1.1))
      (λ p. (q.nine.0, (q.nine.1.0, (q.nine.1.1.0, (q.nine.1.1.1.0, ((q.nine.1.1.1.1.0, p.0), (q.nine.1.1.1.1.1, p.1)))))))
      ∙ ust-found hs (each ref_t ts) _ (spot (ust0534 (elements_of g)) hs (each ref_t ts) q.nine.1.1.0)

  ust : (o : Open) → Good y (busy u ms o) → Follow y.version (busy u ms o) Ust (asked g) (grow_named segments.Ust (elements_of g) (busy u ms o))
  ust (msg h hs b ts) q =
      let z : Reading = busy u ms (msg h hs b (ts ▷ trailer (elements_of g) none)) in
      here z (
        alike (order z) (whole (autack h) b)
            (λ p. p.1.1.1.1.0) (λ p. (q.seven.0, (q.seven.1.0, (q.seven.1.1.0, (q.seven.1.1.1.0, (p, q.seven.1.1.1.1.1))))))
            ∙ ends h hs b ts q,
        holds-check (subsets z) q.in_subset,
      )
      (λ i. ust-refs h hs b ts q)
      (λ i j. holds-check (counts y.version z) q.ten)
      (λ i. holds-check (scopes z) q.eleven)
      (λ i j. ust-next h hs b ts _ (spot (ust0534 (elements_of g)) hs (each ref_t ts) q.nine.1.1.0) (sym (ust-refs h hs b ts q) ∙ holds-check (refs z) j))

  usb : (o : Open) → Good y (busy u ms o) → Follow y.version (busy u ms o) Usb (asked g) (grow_named segments.Usb (elements_of g) (busy u ms o))
  usb (msg h hs (plain nil) nil) q =
      let z : Reading = busy u ms (msg h hs (ack (elements_of g) nil) nil) in
      here z (
        rw (heads h hs, is-autack h)
            (alike (order z) (latest (subset h) hs and test (autack h) and test (any hs))
            (λ p. (latest-of (subset h) hs p.1.1.1.1.1, (p.1.1.1.0.0, p.1.1.1.0.1.0)))
            (λ p. (q.seven.0, (q.seven.1.0, (q.seven.1.1.0, ((p.1.0, (p.1.1, tt)), (tt, latest-too (subset h) hs q.seven.1.1.1.1.1 p.0))))))
            ∙ ap (λ (b : Bool). check (latest (subset h) hs) && (autack h && b)) (any-size ref_h hs)),
        alike (subsets z) (formed_in (subset h) segments.Usb (elements_of g)) (λ p. p.1.1.0) (λ p. (q.in_subset.0, (q.in_subset.1.0, (p, tt)))) ∙ usb-row (subset h) g,
      )
      (λ i. holds-check (refs z) q.nine)
      (λ i j. holds-check (counts y.version z) q.ten)
      (λ i. holds-check (scopes z) q.eleven)
      (λ i j. refl)
  usb (msg h hs (plain (b ▷ i)) nil) q = nowhere refl
  usb (msg h hs (ack d ls) nil) q = nowhere refl
  usb (msg h hs b (ts ▷ trailer t r)) q = nowhere refl

  usx : (o : Open) → Good y (busy u ms o) → Follow y.version (busy u ms o) Usx (asked g) (grow_named segments.Usx (elements_of g) (busy u ms o))
  usx (msg h nil (plain nil) nil) q = nowhere refl
  usx (msg h (hs ▷ header d us nil) (plain nil) nil) q = nowhere refl
  usx (msg h (hs ▷ header d us (cs ▷ certificate e vs r)) (plain nil) nil) q = nowhere refl
  usx (msg h hs (plain (b ▷ i)) nil) q = nowhere refl
  usx (msg h hs (ack d nil) nil) q =
      let z : Reading = busy u ms (msg h hs (ack d (nil ▷ link (elements_of g) nil)) nil) in
      here z (
        holds-check (order z) q.seven,
        alike (subsets z) (formed_in (subset h) segments.Usx (elements_of g)) (λ p. p.1.1.1.1)
            (λ p. (q.in_subset.0, (q.in_subset.1.0, (q.in_subset.1.1.0, (q.in_subset.1.1.1, p))))) ∙ usx-row (subset h) g,
      )
      (λ i. holds-check (refs z) q.nine)
      (λ i j. holds-check (counts y.version z) q.ten)
      (λ i. holds-check (scopes z) q.eleven)
      (λ i j. refl)
  usx (msg h hs (ack d (ls ▷ link e ys)) nil) q =
      let z : Reading = busy u ms (msg h hs (ack d (ls ▷ link e ys ▷ link (elements_of g) nil)) nil) in
      here z (
        alike (order z) (test (any ys)) (λ p. p.1.1.1.0.1.1.1)
            (λ p. (q.seven.0, (q.seven.1.0, (q.seven.1.1.0, ((q.seven.1.1.1.0.0, (q.seven.1.1.1.0.1.0, (q.seven.1.1.1.0.1.1, p))), q.seven.1.1.1.1))))),
        alike (subsets z) (formed_in (subset h) segments.Usx (elements_of g)) (λ p. p.1.1.1.1)
            (λ p. (q.in_subset.0, (q.in_subset.1.0, (q.in_subset.1.1.0, (q.in_subset.1.1.1, p))))) ∙ usx-row (subset h) g,
      )
      (λ i. holds-check (refs z) q.nine)
      (λ i j. holds-check (counts y.version z) q.ten)
      (λ i. holds-check (scopes z) q.eleven)
      (λ i j. refl)
  usx (msg h hs b (ts ▷ trailer t r)) q = nowhere refl

  usy : (o : Open) → Good y (busy u ms o) → Follow y.version (busy u ms o) Usy (asked g) (grow_named segments.Usy (elements_of g) (busy u ms o))
  usy (msg h nil (plain nil) nil) q = nowhere refl
  usy (msg h (hs ▷ header d us nil) (plain nil) nil) q = nowhere refl
  usy (msg h (hs ▷ header d us (cs ▷ certificate e vs r)) (plain nil) nil) q = nowhere refl
  usy (msg h hs (plain (b ▷ i)) nil) q = nowhere refl
  usy (msg h hs (ack d nil) nil) q = nowhere refl
  usy (msg h hs (ack d (ls ▷ link e ys)) nil) q =
      let z : Reading = busy u ms (msg h hs (ack d (ls ▷ link e (ys ▷ elements_of g))) nil) in
      here z (
        holds-check (order z) q.seven,
        holds-check (subsets z) q.in_subset,
      )
      (λ i. alike (refs z) (test (among (each ref_h hs) (usy0534 (elements_of g))))
      (λ p. p.1.1.1.0.1) (λ p. (q.nine.0, (q.nine.1.0, (q.nine.1.1.0, ((q.nine.1.1.1.0, p), q.nine.1.1.1.1))))))
      (λ i j. holds-check (counts y.version z) q.ten)
      (λ i. holds-check (scopes z) q.eleven)
      (λ i j. refl)
  usy (msg h hs b (ts ▷ trailer t r)) q = nowhere refl

  unt : (o : Open) → Good y (busy u ms o) → Follow y.version (busy u ms o) Unt (asked g) (grow_named segments.Unt (elements_of g) (busy u ms o))
  unt (msg h hs b ts) q =
      let z : Reading = idle u (ms ▷ message (msg h hs b ts) (elements_of g)) in
      here z (
        alike (order z) (whole (autack h) b) (λ p. p.1.1) (λ p. (q.seven.0, (q.seven.1, p))) ∙ ends h hs b ts q,
        holds-check (subsets z) q.in_subset,
      )
      (λ i. alike (refs z) (test (same (unt0062 (elements_of g)) (unh0062 h)) and every (one (each ref_t ts)) (each ref_h hs))
      (λ p. p.1.1.1) (λ p. (q.nine.0, (q.nine.1.0, (q.nine.1.1, p))))
      ∙ ap (λ (n : Bool). same (unt0062 (elements_of g)) (unh0062 h) && n) (all_named_lem (each ref_t ts) (each ref_h hs)))
      (λ i j. rw (← pairs-counted y.version hs ts, ← totals b)
      (alike (counts y.version z) (test (eqb (unt0074 (elements_of g)) (suc (size (show_open (msg h hs b ts))))) and paired y.version hs ts and total b)
      (λ p. p.1) (λ p. (q.ten, p))))
      (λ i. holds-check (scopes z) q.eleven)
      (λ i j. refl)

  -- ---- between messages

  unh : Good y (idle u ms) → Follow y.version (idle u ms) Unh (asked g) (grow_named segments.Unh (elements_of g) (idle u ms))
  unh q =
      let z : Reading = busy u ms (msg (elements_of g) nil (plain nil) nil) in
      here z (
        holds-check (order z) (q.seven, (tt, (tt, (tt, (tt, tt))))),
        holds-check (subsets z) (q.in_subset, (tt, tt)),
      )
      (λ i. alike (refs z) (test (not (among (each ref_m ms) (unh0062 (elements_of g)))))
      (λ p. p.0.1) (λ p. ((q.nine.0, p), (q.nine.1, (tt, (tt, (tt, tt)))))))
      (λ i j. holds-check (counts y.version z) q.ten)
      (λ i. holds-check (scopes z) (q.eleven, tt))
      (λ i j. refl)

  unz : Good y (idle u ms) → Follow y.version (idle u ms) Unz (asked g) (grow_named segments.Unz (elements_of g) (idle u ms))
  unz q =
      let z : Reading = done u ms (elements_of g) in
      here z (
        rw (any-each ref_m ms) (alike (order z) (test (any ms)) (λ p. p.1) (λ p. (q.seven, p))),
        holds-check (subsets z) q.in_subset,
      )
      (λ i. alike (refs z) (test (same (unz0020 (elements_of g)) (unb0020 u))) (λ p. p.1.1) (λ p. (q.nine.0, (q.nine.1, p))))
      (λ i j. rw (each-size ref_m ms) (alike (counts y.version z) (test (eqb (unz0036 (elements_of g)) (size ms))) (λ p. p.1) (λ p. (q.ten, p))))
      (λ i. holds-check (scopes z) q.eleven)
      (λ i j. refl)

  -- ---- a segment of a body: of QTY, CNT or another tag

  -- 7 asks only that the message is no AUTACK; and what is kept then, given its sums
  item-placed : (h : Leaf) (hs : Snoc Header) (b : Snoc Segment) → Good y (busy u ms (msg h hs (plain b) nil)) → holds (every ok_item b) → T (is_free (segments.segment_kind g))
      → check (order (busy u ms (msg h hs (plain (b ▷ g)) nil))) ≡ not (is_autack (subset h))
  item-placed h hs b q e f =
      alike (order (busy u ms (msg h hs (plain (b ▷ g)) nil))) (test (not (autack h)))
      (λ p. p.1.1.1.0.0) (λ p. (q.seven.0, (q.seven.1.0, (q.seven.1.1.0, ((p, (e, f)), q.seven.1.1.1.1)))))
      ∙ ap not (sym (is-autack h))

  item-next : (h : Leaf) (hs : Snoc Header) (b : Snoc Segment) (s : Sums) → sums_of (plain (b ▷ g)) ≡ s
      → state_of (busy u ms (msg h hs (plain (b ▷ g)) nil)) ≡ busy_s (unb0020 u) (each ref_m ms) (item_next (summary_of (msg h hs (plain b) nil)) s)
  item-next h hs b s e = ap (λ (t : Sums). busy_s (unb0020 u) (each ref_m ms) (item_next (summary_of (msg h hs (plain b) nil)) t)) e

  qty-sums : control_in (asked g) ≡ none → (b : Snoc Segment) → sums_of (plain (b ▷ g)) ≡ loaded (sums_of (plain b)) (load_in (asked g))
  qty-sums l b = rw l (load-sums (loads b) (controls b) (load_in (asked g)))

  qty : control_in (asked g) ≡ none → T (is_free (segments.segment_kind g)) → (o : Open) → Good y (busy u ms o) → Follow y.version (busy u ms o) Qty (asked g) (in_open (in_body (item_b g)) (busy u ms o))
  qty l f (msg h hs (plain nil) nil) q =
      let z : Reading = busy u ms (msg h hs (plain (nil ▷ g)) nil) in
      here z (
        rw (items h hs) (item-placed h hs nil q tt f),
        holds-check (subsets z) q.in_subset,
      )
      (λ i. holds-check (refs z) q.nine)
      (λ i j. holds-check (counts y.version z) q.ten)
      (λ i. holds-check (scopes z) q.eleven)
      (λ i j. item-next h hs nil _ (qty-sums l nil))
  qty l f (msg h hs (plain (b ▷ w)) nil) q =
      let z : Reading = busy u ms (msg h hs (plain (b ▷ w ▷ g)) nil) in
      here z (
        (item-placed h hs (b ▷ w) q q.seven.1.1.1.0.1 f),
        holds-check (subsets z) q.in_subset,
      )
      (λ i. holds-check (refs z) q.nine)
      (λ i j. holds-check (counts y.version z) q.ten)
      (λ i. holds-check (scopes z) q.eleven)
      (λ i j. item-next h hs (b ▷ w) _ (qty-sums l (b ▷ w)))
  qty l f (msg h hs (ack d ls) nil) q = nowhere refl
  qty l f (msg h hs b (ts ▷ trailer t r)) q = nowhere refl

  cnt-sums : load_in (asked g) ≡ none → (b : Snoc Segment) → sums_of (plain (b ▷ g)) ≡ controlled (sums_of (plain b)) (control_in (asked g))
  cnt-sums l b = rw l (control-sums (loads b) (controls b) (control_in (asked g)))

  cnt : load_in (asked g) ≡ none → T (is_free (segments.segment_kind g)) → (o : Open) → Good y (busy u ms o) → Follow y.version (busy u ms o) Cnt (asked g) (in_open (in_body (item_b g)) (busy u ms o))
  cnt l f (msg h hs (plain nil) nil) q =
      let z : Reading = busy u ms (msg h hs (plain (nil ▷ g)) nil) in
      here z (
        rw (items h hs) (item-placed h hs nil q tt f),
        holds-check (subsets z) q.in_subset,
      )
      (λ i. holds-check (refs z) q.nine)
      (λ i j. holds-check (counts y.version z) q.ten)
      (λ i. holds-check (scopes z) q.eleven)
      (λ i j. item-next h hs nil _ (cnt-sums l nil))
  cnt l f (msg h hs (plain (b ▷ w)) nil) q =
      let z : Reading = busy u ms (msg h hs (plain (b ▷ w ▷ g)) nil) in
      here z (
        (item-placed h hs (b ▷ w) q q.seven.1.1.1.0.1 f),
        holds-check (subsets z) q.in_subset,
      )
      (λ i. holds-check (refs z) q.nine)
      (λ i j. holds-check (counts y.version z) q.ten)
      (λ i. holds-check (scopes z) q.eleven)
      (λ i j. item-next h hs (b ▷ w) _ (cnt-sums l (b ▷ w)))
  cnt l f (msg h hs (ack d ls) nil) q = nowhere refl
  cnt l f (msg h hs b (ts ▷ trailer t r)) q = nowhere refl

  other-sums : load_in (asked g) ≡ none → control_in (asked g) ≡ none → (b : Snoc Segment) → sums_of (plain (b ▷ g)) ≡ sums_of (plain b)
  other-sums l m b = rw (l, m)

  other : load_in (asked g) ≡ none → control_in (asked g) ≡ none → T (is_free (segments.segment_kind g)) → (o : Open) → Good y (busy u ms o) → Follow y.version (busy u ms o) Other (asked g) (in_open (in_body (item_b g)) (busy u ms o))
  other l m f (msg h hs (plain nil) nil) q =
      let z : Reading = busy u ms (msg h hs (plain (nil ▷ g)) nil) in
      here z (
        rw (items h hs) (item-placed h hs nil q tt f),
        holds-check (subsets z) q.in_subset,
      )
      (λ i. holds-check (refs z) q.nine)
      (λ i j. holds-check (counts y.version z) q.ten)
      (λ i. holds-check (scopes z) q.eleven)
      (λ i j. item-next h hs nil _ (other-sums l m nil))
  other l m f (msg h hs (plain (b ▷ w)) nil) q =
      let z : Reading = busy u ms (msg h hs (plain (b ▷ w ▷ g)) nil) in
      here z (
        (item-placed h hs (b ▷ w) q q.seven.1.1.1.0.1 f),
        holds-check (subsets z) q.in_subset,
      )
      (λ i. holds-check (refs z) q.nine)
      (λ i j. holds-check (counts y.version z) q.ten)
      (λ i. holds-check (scopes z) q.eleven)
      (λ i j. item-next h hs (b ▷ w) _ (other-sums l m (b ▷ w)))
  other l m f (msg h hs (ack d ls) nil) q = nowhere refl
  other l m f (msg h hs b (ts ▷ trailer t r)) q = nowhere refl

-- ---- all kinds

pub named-follows : (y : Syntax) (x : Reading) (g : Segment) (n : Name) → Good y x → Follow y.version x (of_name n) (asked g) (grow_named n (elements_of g) x)
named-follows y start g segments.Unb q = here (idle (elements_of g) nil) (refl, refl) (λ i. refl) (λ i j. refl) (λ i. refl) (λ i j. refl)
named-follows y start g segments.Unh q = nowhere refl
named-follows y start g segments.Unt q = nowhere refl
named-follows y start g segments.Unz q = nowhere refl
named-follows y start g segments.Ush q = nowhere refl
named-follows y start g segments.Usa q = nowhere refl
named-follows y start g segments.Usc q = nowhere refl
named-follows y start g segments.Usr q = nowhere refl
named-follows y start g segments.Ust q = nowhere refl
named-follows y start g segments.Usb q = nowhere refl
named-follows y start g segments.Usx q = nowhere refl
named-follows y start g segments.Usy q = nowhere refl
named-follows y (idle u ms) g segments.Unb q = nowhere refl
named-follows y (idle u ms) g segments.Unh q = unh y u ms g q
named-follows y (idle u ms) g segments.Unt q = nowhere refl
named-follows y (idle u ms) g segments.Unz q = unz y u ms g q
named-follows y (idle u ms) g segments.Ush q = nowhere refl
named-follows y (idle u ms) g segments.Usa q = nowhere refl
named-follows y (idle u ms) g segments.Usc q = nowhere refl
named-follows y (idle u ms) g segments.Usr q = nowhere refl
named-follows y (idle u ms) g segments.Ust q = nowhere refl
named-follows y (idle u ms) g segments.Usb q = nowhere refl
named-follows y (idle u ms) g segments.Usx q = nowhere refl
named-follows y (idle u ms) g segments.Usy q = nowhere refl
named-follows y (busy u ms o) g segments.Unb q = nowhere refl
named-follows y (busy u ms o) g segments.Unh q = nowhere refl
named-follows y (busy u ms o) g segments.Unt q = unt y u ms g o q
named-follows y (busy u ms o) g segments.Unz q = nowhere refl
named-follows y (busy u ms o) g segments.Ush q = ush y u ms g o q
named-follows y (busy u ms o) g segments.Usa q = usa y u ms g o q
named-follows y (busy u ms o) g segments.Usc q = usc y u ms g o q
named-follows y (busy u ms o) g segments.Usr q = usr y u ms g o q
named-follows y (busy u ms o) g segments.Ust q = ust y u ms g o q
named-follows y (busy u ms o) g segments.Usb q = usb y u ms g o q
named-follows y (busy u ms o) g segments.Usx q = usx y u ms g o q
named-follows y (busy u ms o) g segments.Usy q = usy y u ms g o q
named-follows y (done u ms z) g segments.Unb q = nowhere refl
named-follows y (done u ms z) g segments.Unh q = nowhere refl
named-follows y (done u ms z) g segments.Unt q = nowhere refl
named-follows y (done u ms z) g segments.Unz q = nowhere refl
named-follows y (done u ms z) g segments.Ush q = nowhere refl
named-follows y (done u ms z) g segments.Usa q = nowhere refl
named-follows y (done u ms z) g segments.Usc q = nowhere refl
named-follows y (done u ms z) g segments.Usr q = nowhere refl
named-follows y (done u ms z) g segments.Ust q = nowhere refl
named-follows y (done u ms z) g segments.Usb q = nowhere refl
named-follows y (done u ms z) g segments.Usx q = nowhere refl
named-follows y (done u ms z) g segments.Usy q = nowhere refl

-- QTY is not CNT
no-control : (g : Segment) → same (tag_text g) (octets "QTY") ≡ true → control_in (asked g) ≡ none
no-control g e =
    let k : tag_text g ≡ octets "QTY" = same-eq (tag_text g) (octets "QTY") (subst T (sym e) tt) in
    let n : same (tag_text g) (octets "CNT") ≡ false = ap (λ (t : List ℕ). same t (octets "CNT")) k in
    rw n

no-load : (g : Segment) → same (tag_text g) (octets "QTY") ≡ false → load_in (asked g) ≡ none
no-load g e = rw e

not-control : (g : Segment) → same (tag_text g) (octets "CNT") ≡ false → control_in (asked g) ≡ none
not-control g e = rw e

free-follows : (y : Syntax) (x : Reading) (g : Segment) (a b : Bool) → same (tag_text g) (octets "QTY") ≡ a → same (tag_text g) (octets "CNT") ≡ b
    → T (is_free (segments.segment_kind g)) → Good y x → Follow y.version x (cond a Qty (cond b Cnt Other)) (asked g) (in_open (in_body (item_b g)) x)
free-follows y start g true b e k f q = nowhere refl
free-follows y start g false true e k f q = nowhere refl
free-follows y start g false false e k f q = nowhere refl
free-follows y (idle u ms) g true b e k f q = nowhere refl
free-follows y (idle u ms) g false true e k f q = nowhere refl
free-follows y (idle u ms) g false false e k f q = nowhere refl
free-follows y (busy u ms o) g true b e k f q = qty y u ms g (no-control g e) f o q
free-follows y (busy u ms o) g false true e k f q = cnt y u ms g (no-load g e) f o q
free-follows y (busy u ms o) g false false e k f q = other y u ms g (no-load g e) (not-control g k) f o q
free-follows y (done u ms z) g true b e k f q = nowhere refl
free-follows y (done u ms z) g false true e k f q = nowhere refl
free-follows y (done u ms z) g false false e k f q = nowhere refl

reserved : (x : Reading) → order_k (state_of x) Reserved ≡ false
reserved start = refl
reserved (idle u ms) = refl
reserved (busy u ms o) = refl
reserved (done u ms z) = refl

kind-follows : (y : Syntax) (x : Reading) (g : Segment) (k : segments.Kind) → segments.segment_kind g ≡ k → Good y x
    → Follow y.version x (of_kind k (tag_text g)) (asked g) (grow k g x)
kind-follows y x g (Named n) e q = named-follows y x g n q
kind-follows y x g segments.Reserved e q = nowhere (reserved x)
kind-follows y x g Free e q = free-follows y x g (same (tag_text g) (octets "QTY")) (same (tag_text g) (octets "CNT")) refl refl (subst (λ (k : segments.Kind). T (is_free k)) (sym e) tt) q

-- of every segment
pub follows : (y : Syntax) (x : Reading) (g : Segment) → Good y x → Follow y.version x (tag_kind (tag_text g)) (asked g) (place x g)
follows y x g q = kind-follows y x g (segments.segment_kind g) refl q

-- ---- each test, and the step

module _ {v : Version} {x : Reading} {k : Kind} {a : Asked} where
  order-of : (o : Maybe Reading) → Follow v x k a o → on order o ≡ order_k (state_of x) k
  order-of o (nowhere e) = sym e
  order-of o (here z e r c s n) = e.0

  refs-of : (o : Maybe Reading) → Follow v x k a o → (z : Reading) → o ≡ some z → holds (order z) → check (refs z) ≡ refs_k (state_of x) k a
  refs-of o (nowhere e) z p = absurd (none-ne-some _ p)
  refs-of o (here w e r c s n) z p = let h : w ≡ z = cc in subst (λ (v : Reading). holds (order v) → check (refs v) ≡ refs_k (state_of x) k a) h r

  counts_of : (o : Maybe Reading) → Follow v x k a o → (z : Reading) → o ≡ some z → holds (order z) → holds (refs z) → check (counts v z) ≡ counts_k v (state_of x) k a
  counts_of o (nowhere e) z p = absurd (none-ne-some _ p)
  counts_of o (here w e r c s n) z p = let h : w ≡ z = cc in subst (λ (b : Reading). holds (order b) → holds (refs b) → check (counts v b) ≡ counts_k v (state_of x) k a) h c

  scopes-of : (o : Maybe Reading) → Follow v x k a o → (z : Reading) → o ≡ some z → holds (order z) → check (scopes z) ≡ scope_k (state_of x) k a
  scopes-of o (nowhere e) z p = absurd (none-ne-some _ p)
  scopes-of o (here w e r c s n) z p = let h : w ≡ z = cc in subst (λ (v : Reading). holds (order v) → check (scopes v) ≡ scope_k (state_of x) k a) h s

  next_of : (o : Maybe Reading) → Follow v x k a o → (z : Reading) → o ≡ some z → holds (order z) → holds (refs z) → state_of z ≡ next_k (state_of x) k a
  next_of o (nowhere e) z p = absurd (none-ne-some _ p)
  next_of o (here w e r c s n) z p = let h : w ≡ z = cc in subst (λ (v : Reading). holds (order v) → holds (refs v) → state_of v ≡ next_k (state_of x) k a) h n

module _ (y : Syntax) (x : Reading) (g : Segment) (q : Good y x) where
  -- 7, where the segment is placed or not
  pub follow-order : on order (place x g) ≡ order_s (state_of x) (asked g)
  follow-order = order-of (place x g) (follows y x g q)

  -- 9
  pub follow-refs : (z : Reading) → place x g ≡ some z → holds (order z) → check (refs z) ≡ refs_s (state_of x) (asked g)
  follow-refs z e = refs-of (place x g) (follows y x g q) z e

  -- 10
  pub follow-counts : (z : Reading) → place x g ≡ some z → holds (order z) → holds (refs z) → check (counts y.version z) ≡ counts_s y.version (state_of x) (asked g)
  follow-counts z e = counts_of (place x g) (follows y x g q) z e

  -- 11
  pub follow-scopes : (z : Reading) → place x g ≡ some z → holds (order z) → check (scopes z) ≡ scope_s (state_of x) (asked g)
  follow-scopes z e = scopes-of (place x g) (follows y x g q) z e

  -- the step
  pub follow-next : (z : Reading) → place x g ≡ some z → holds (order z) → holds (refs z) → state_of z ≡ next_s (state_of x) (asked g)
  follow-next z e = next_of (place x g) (follows y x g q) z e

-- ---- the answer on a segment

module _ (v p : ℕ) where
  -- the tests in their order, where 7 to 11 answer alike, given those before
  passes : (z : Reading) (i o f r c s l o' f' r' c' s' : Bool) (n : StateS)
      → o ≡ o' → f ≡ f' → (o ≡ true → r ≡ r') → (o ≡ true → r ≡ true → c ≡ c') → (o ≡ true → s ≡ s') → (o ≡ true → r ≡ true → state_of z ≡ n)
      → answer_of (decided (tested 3 v i ∷ tested 7 p o ∷ tested 8 p f ∷ tested 9 p r ∷ tested 10 p c ∷ tested 11 p s ∷ tested 12 p l ∷ []) (some z))
      ≡ decided_s (tested 3 v i ∷ tested 7 p o' ∷ tested 8 p f' ∷ tested 9 p r' ∷ tested 10 p c' ∷ tested 11 p s' ∷ tested 12 p l ∷ []) n
  passes z false o f r c s l o' f' r' c' s' n a t b d e h = refl
  passes z true false f r c s l o' f' r' c' s' n a t b d e h = rw (← a)
  passes z true true false r c s l o' f' r' c' s' n a t b d e h = rw (← a, ← t)
  passes z true true true false c s l o' f' r' c' s' n a t b d e h = rw (← a, ← t, ← b refl)
  passes z true true true true false s l o' f' r' c' s' n a t b d e h = rw (← a, ← t, ← b refl, ← d refl refl)
  passes z true true true true true false l o' f' r' c' s' n a t b d e h = rw (← a, ← t, ← b refl, ← d refl refl, ← e refl)
  passes z true true true true true true false o' f' r' c' s' n a t b d e h = rw (← a, ← t, ← b refl, ← d refl refl, ← e refl)
  passes z true true true true true true true o' f' r' c' s' n a t b d e h = rw (← a, ← t, ← b refl, ← d refl refl, ← e refl, h refl refl)

  -- a segment that has no place
  lost : (i o : Bool) (w : AnswerS) → o ≡ false → answer_of (cond i (refused 7 p) (refused 3 v)) ≡ cond i (cond o w (refused_s 7 p)) (refused_s 3 v)
  lost true o w e = rw e
  lost false o w e = refl

-- the answer on a segment, in what is kept, is the answer from what is kept
pub follow : (y : Syntax) (x : Reading) (g : Segment) (p : ℕ) → Good y x
    → answer_of (decided (tests y g p (place x g)) (place x g))
    ≡ decided_s (tests_s y (asked g) (check (inside_s y g)) (found_at p (first_outside y (print_s y.service g) p)) p (state_of x)) (next_s (state_of x) (asked g))
follow y x g p q = by (place x g) (follows y x g q)
  where
    by : (o : Maybe Reading) → Follow y.version x (tag_kind (tag_text g)) (asked g) o
        → answer_of (decided (tests y g p o) o)
        ≡ decided_s (tests_s y (asked g) (check (inside_s y g)) (found_at p (first_outside y (print_s y.service g) p)) p (state_of x)) (next_s (state_of x) (asked g))
    by o (nowhere e) = lost (found_at p (first_outside y (print_s y.service g) p)) p (check (inside_s y g)) (order_s (state_of x) (asked g)) _ e
    by o (here z e r c s n) =
        passes (found_at p (first_outside y (print_s y.service g) p)) p z (check (inside_s y g)) (check (order z)) (check (formed_s y g) && check (subsets z)) (check (refs z)) (check (counts y.version z)) (check (scopes z)) (check (amount_s g))
        (order_s (state_of x) (asked g)) (check (formed_s y g) && subset_s (state_of x) (asked g)) (refs_s (state_of x) (asked g)) (counts_s y.version (state_of x) (asked g)) (scope_s (state_of x) (asked g)) (next_s (state_of x) (asked g))
        e.0
        (ap (λ (u : Bool). check (formed_s y g) && u) e.1)
        (λ a. r (check-holds (order z) a))
        (λ a b. c (check-holds (order z) a) (check-holds (refs z) b))
        (λ a. s (check-holds (order z) a))
        (λ a b. n (check-holds (order z) a) (check-holds (refs z) b))
