-- A run from the start ends in a good reading that shows the segments run over, and each good reading is so reached.
use Rattle.std.specs.Prelude.{List, [], ◌∷◌, ◌++◌, ◌≡◌, refl}
use Rattle.std.proofs.Math.Option.{none, some}
use Rattle.std.proofs.Common.{ap, ◌∙◌, sym, subst}
use Rattle.syntax.specs.Tree.{Segment}
use Rattle.syntax.specs.declared.Syntax.{Syntax}
use Rattle.grammar.specs.Lists.{Snoc, nil, ◌▷◌, list, Rule, holds, every}
use Rattle.grammar.specs.Segments.{Name, Unb, Unh, Unt, Unz, Ush, Usa, Usc, Usr, Ust, Usb, Usx, Usy, Kind, Named, Reserved, Free, segment_kind, elements_of}
use Rattle.grammar.specs.Interchange.{Leaf, Message, Reading, start, done, shown}
use Rattle.grammar.specs.Rules.{inside_s, inside, order, formed_s, well_formed, subsets, refs, counts, scopes, amount_s, amounts}
use Rattle.grammar.specs.Placing.{grow_named, grow, place}
use Rattle.grammar.specs.Running.{Passed, Runs, stay, go, Good}
use Rattle.grammar.specs.SnocLaws.{onto, list-onto, not-nil}
use Rattle.grammar.proofs.PlacingLaws.{shows, Back, first, from, LastFree, last-free, back, Before, shut-order, shut-subsets, shut-refs, shut-counts, shut-scopes, shut-each}

-- ---- a run keeps what is good

-- nothing read is good
pub good_start : (y : Syntax) → Good y start
good_start y = record { three = tt; seven = tt; eight = tt; in_subset = tt; nine = tt; ten = tt; eleven = tt; twelve = tt }

-- a rule on single segments, of what was read and of the segment placed
every-placed : (p : Segment → Rule) (x : Reading) (g : Segment) {z : Reading} → place x g ≡ some z → holds (every p (shown x)) → holds (p g) → holds (every p (shown z))
every-placed p x g e h k = subst (λ (s : Snoc Segment). holds (every p s)) (sym (shows x g e)) (h, k)

-- a segment that passes takes a good reading to a good one
pub passed-good : {y : Syntax} {x z : Reading} {g : Segment} → Good y x → Passed y x g z → Good y z
passed-good {y = y} {x = x} {g = g} h p = record {
  three = every-placed (inside_s y) x g p.placed h.three p.three;
  seven = p.seven;
  eight = every-placed (formed_s y) x g p.placed h.eight p.eight;
  in_subset = p.in_subset;
  nine = p.nine;
  ten = p.ten;
  eleven = p.eleven;
  twelve = every-placed amount_s x g p.placed h.twelve p.twelve;
}

-- a run from a good reading ends in a good one that shows the segments run over behind those shown before
pub runs-onto : {y : Syntax} {x w : Reading} {gs : List Segment} → Good y x → Runs y x gs w → Good y w × (shown w ≡ onto (shown x) gs)
runs-onto h stay = (h, refl)
runs-onto h (go {x = x} {g = g} {gs = gs} p r) =
    let q = runs-onto (passed-good h p) r in
    (q.0, q.1 ∙ ap (λ (s : Snoc Segment). onto s gs) (shows x g p.placed))

-- a run from the start ends in a good reading that shows the segments run over
pub runs-good : (y : Syntax) {gs : List Segment} {w : Reading} → Runs y start gs w → Good y w × (list (shown w) ≡ gs)
runs-good y {gs = gs} r =
    let q = runs-onto (good_start y) r in
    (q.0, ap list q.1 ∙ list-onto nil gs)

-- ---- each good reading is reached

-- a run goes on by a segment that passes
pub runs-end : {y : Syntax} {x z w : Reading} {gs : List Segment} {g : Segment} → Runs y x gs z → Passed y z g w → Runs y x (gs ++ g ∷ []) w
runs-end stay p = go p stay
runs-end (go q r) p = go q (runs-end r p)

-- what is good before its last segment, if there is one
abbrev GoodBefore : {z : Reading} → Syntax → Back z → Type 0
GoodBefore y first = Unit {0}
GoodBefore y (from x g q) = Good y x

good-all : (y : Syntax) {z : Reading} (b : Back z) → Before (inside y) b → Before order b → Before (well_formed y) b → Before subsets b → Before refs b → Before (counts y.version) b → Before scopes b
    → Before amounts b → GoodBefore y b
good-all y first a b c i d e f g = tt
good-all y (from x k q) a b c i d e f g = record { three = a; seven = b; eight = c; in_subset = i; nine = d; ten = e; eleven = f; twelve = g }

good-back : (y : Syntax) (z : Reading) (f : LastFree z) → Good y z → GoodBefore y (back z f)
good-back y z f h =
    good-all y (back z f) (shut-each (inside_s y) z f h.three) (shut-order z f h.seven) (shut-each (formed_s y) z f h.eight) (shut-subsets z f h.in_subset) (shut-refs z f h.nine)
    (shut-counts y.version z f h.ten) (shut-scopes z f h.eleven) (shut-each amount_s z f h.twelve)

every-last : (p : Segment → Rule) (x : Reading) (g : Segment) {z : Reading} → place x g ≡ some z → holds (every p (shown z)) → holds (p g)
every-last p x g e h = (subst (λ (s : Snoc Segment). holds (every p s)) (shows x g e) h).1

-- the last segment of a good reading passes
good-passed : {y : Syntax} {x z : Reading} {g : Segment} → place x g ≡ some z → Good y z → Passed y x g z
good-passed {y = y} {x = x} {g = g} e h = record {
  placed = e;
  three = every-last (inside_s y) x g e h.three;
  seven = h.seven;
  eight = every-last (formed_s y) x g e h.eight;
  in_subset = h.in_subset;
  nine = h.nine;
  ten = h.ten;
  eleven = h.eleven;
  twelve = every-last amount_s x g e h.twelve;
}

run_none : {y : Syntax} {w : Reading} → Back w → shown w ≡ nil → Runs y start [] w
run_none first e = stay
run_none (from x g q) e = absurd (not-nil (shown x) g (sym e ∙ shows x g q))

run-last : {y : Syntax} {w : Reading} (s : Snoc Segment) (g : Segment) → ((x : Reading) → Good y x → shown x ≡ s → Runs y start (list s) x)
    → (b : Back w) → GoodBefore y b → Good y w → shown w ≡ s ▷ g → Runs y start (list s ++ g ∷ []) w
run-last s g ih first k h e = absurd (not-nil s g e)
run-last {y = y} {w = w} s g ih (from x f q) k h e =
    let p = shows x f q in
    let i : shown x ≡ s = cc in
    let j : f ≡ g = cc in
    subst (λ (d : Segment). Runs y start (list s ++ d ∷ []) w) j (runs-end (ih x k i) (good-passed q h))

good-run : (y : Syntax) (s : Snoc Segment) (w : Reading) → Good y w → shown w ≡ s → Runs y start (list s) w
good-run y nil w h e = run_none (back w (last-free w h.seven)) e
good-run y (s ▷ g) w h e =
    let f = last-free w h.seven in
    run-last s g (good-run y s) (back w f) (good-back y w f h) h e

-- a run over the segments that a good reading shows ends in it
pub good-runs : (y : Syntax) (w : Reading) → Good y w → Runs y start (list (shown w)) w
good-runs y w h = good-run y (shown w) w h refl

-- ---- a run's end is settled, and nothing follows a whole interchange

-- a run from one reading over the same segments has one end
pub runs_same : {y : Syntax} {x w v : Reading} {gs : List Segment} → Runs y x gs w → Runs y x gs v → w ≡ v
runs_same stay stay = refl
runs_same (go {z = z} p r) (go {z = z'} q s) =
    let a = p.placed in
    let b = q.placed in
    let h : z' ≡ z = cc in
    runs_same r (rw h at s)

-- runs from the start over the same segments have one end
pub runs-one : (y : Syntax) {gs : List Segment} {w v : Reading} → Runs y start gs w → Runs y start gs v → w ≡ v
runs-one y r s = runs_same r s

-- a whole interchange takes no further segment
pub done-stops : (u : Leaf) (ms : Snoc Message) (z : Leaf) (g : Segment) → place (done u ms z) g ≡ none
done-stops u ms z g = by (segment_kind g)
  where
    named : (n : Name) → grow_named n (elements_of g) (done u ms z) ≡ none
    named Unb = refl
    named Unh = refl
    named Unt = refl
    named Unz = refl
    named Ush = refl
    named Usa = refl
    named Usc = refl
    named Usr = refl
    named Ust = refl
    named Usb = refl
    named Usx = refl
    named Usy = refl

    by : (k : Kind) → grow k g (done u ms z) ≡ none
    by (Named n) = named n
    by Reserved = refl
    by Free = refl
