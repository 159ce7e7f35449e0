-- The walk over a chain reads just where a run over its segments ends in a whole interchange; and so over octets.
use Rattle.std.specs.Prelude.{ℕ, ◌+◌, true, false, ◌&&◌, List, [], ◌∷◌, ◌≡◌, refl, T, length}
use Rattle.std.proofs.Common.{arith, ap, sym, ◌∙◌, subst}
use Rattle.std.proofs.Math.Option.{Option, none, some, none-ne-some}
use Rattle.syntax.specs.RepertoireLaws.{and_l, and_r}
use Rattle.syntax.specs.Service.{fit}
use Rattle.syntax.specs.Tree as syntax
use Rattle.syntax.specs.Tree.{Component, Repeat, Element, Segment, print_s, well}
use Rattle.syntax.specs.Reader.{Chain, over, left, open', chain, cut, before, gathered}
use Rattle.syntax.proofs.ReaderLaws.{chain-print, read_back}
use Rattle.syntax.specs.declared.Syntax.{Syntax}
use Rattle.grammar.specs.Lists.{Snoc, Rule, check}
use Rattle.grammar.specs.Segments.{Unb, Unh, Unt, Unz, Ush, Usa, Usc, Usr, Ust, Usb, Usx, Usy, Kind, Named, Reserved, Free, segment_kind}
use Rattle.grammar.specs.Interchange.{Leaf, Message, Reading, start, idle, busy, done}
use Rattle.grammar.specs.Rules.{inside_s, order, formed_s, subsets, refs, counts, scopes, amount_s}
use Rattle.grammar.specs.RuleLaws.{check-holds, holds-check}
use Rattle.grammar.specs.Placing.{grow, place}
use Rattle.grammar.proofs.RunningLaws.{done-stops}
use Rattle.grammar.specs.Running.{Passed, Runs, stay, go}
use Rattle.grammar.specs.Verdict.{Test, tested, on, tests, Answer, read, refused, decided, then, at_end, unless-done, tagged-or, walk}

refusal : {n p : ℕ} {z : Reading} → refused n p ≡ read z → ⊥
refusal e = let z : ◌≡◌ {A = ℕ} 0 1 = cc in omega arith

-- ---- one step

-- every test of a list is passed
abbrev AllPassed : List Test → Type 0
AllPassed [] = Unit {0}
AllPassed (tested n p b ∷ ts) = (b ≡ true) × AllPassed ts

decided-passed : (ts : List Test) (o : Option Reading) {z : Reading} → decided ts o ≡ read z → AllPassed ts × (o ≡ some z)
decided-passed [] none e = absurd (refusal e)
decided-passed [] (some x) {z} e = let k : x ≡ z = cc in (tt, ap some k)
decided-passed (tested n p true ∷ ts) o e = let k = decided-passed ts o e in ((refl, k.0), k.1)
decided-passed (tested n p false ∷ ts) o e = absurd (refusal e)

passed-decided : (ts : List Test) (o : Option Reading) {z : Reading} → AllPassed ts → o ≡ some z → decided ts o ≡ read z
passed-decided [] o h e = ap (decided []) e
passed-decided (tested n p b ∷ ts) o h e = rw h.0 (passed-decided ts o h.1 e)

-- a rule of what was placed
on_some : (r : Reading → Rule) {o : Option Reading} {z : Reading} → o ≡ some z → on r o ≡ true → check (r z) ≡ true
on_some r h e = sym (ap (on r) h) ∙ e

some-on : (r : Reading → Rule) {o : Option Reading} {z : Reading} → o ≡ some z → check (r z) ≡ true → on r o ≡ true
some-on r h e = ap (on r) h ∙ e

-- where a segment's tests decide to read on, the segment has its place and every rule holds
pub step-passed : (y : Syntax) (x : Reading) (g : Segment) (p : ℕ) {z : Reading} → decided (tests y g p (place x g)) (place x g) ≡ read z → Passed y x g z
step-passed y x g p {z} e =
    let k = decided-passed (tests y g p (place x g)) (place x g) e in
    let a = k.0 in
    record {
      placed = k.1;
      three = check-holds (inside_s y g) a.0;
      seven = check-holds (order z) (on_some order k.1 a.1.0);
      eight = check-holds (formed_s y g) (and_l (check (formed_s y g)) (on subsets (place x g)) a.1.1.0);
      in_subset = check-holds (subsets z) (on_some subsets k.1 (and_r (check (formed_s y g)) (on subsets (place x g)) a.1.1.0));
      nine = check-holds (refs z) (on_some refs k.1 a.1.1.1.0);
      ten = check-holds (counts y.version z) (on_some (counts y.version) k.1 a.1.1.1.1.0);
      eleven = check-holds (scopes z) (on_some scopes k.1 a.1.1.1.1.1.0);
      twelve = check-holds (amount_s g) a.1.1.1.1.1.1.0;
    }

-- where a segment has its place and every rule holds, its tests decide to read on, wherever it stands
pub passed-step : (y : Syntax) (x : Reading) (g : Segment) {z : Reading} → Passed y x g z → (p : ℕ) → decided (tests y g p (place x g)) (place x g) ≡ read z
passed-step y x g {z} k p =
    let h : place x g ≡ some z = k.placed in
    passed-decided (tests y g p (place x g)) (place x g) (
      holds-check (inside_s y g) k.three,
      (
        some-on order h (holds-check (order z) k.seven),
        (
          rw (holds-check (formed_s y g) k.eight) (some-on subsets h (holds-check (subsets z) k.in_subset)),
          (
            some-on refs h (holds-check (refs z) k.nine),
            (
              some-on (counts y.version) h (holds-check (counts y.version z) k.ten),
              (some-on scopes h (holds-check (scopes z) k.eleven), (holds-check (amount_s g) k.twelve, tt)),
            ),
          ),
        ),
      ),
    )
    h

-- ---- the walk over a chain

-- a whole interchange was read
abbrev pub Finished : Reading → Type 0
Finished start = ⊥
Finished (idle u ms) = ⊥
Finished (busy u ms o) = ⊥
Finished (done u ms z) = Unit {0}

end_read : (x : Reading) (p : ℕ) {w : Reading} → at_end x p ≡ read w → (x ≡ w) × Finished w
end_read start p e = absurd (refusal e)
end_read (idle u ms) p e = absurd (refusal e)
end_read (busy u ms o) p e = absurd (refusal e)
end_read (done u ms z) p {w} e = let k : done u ms z ≡ w = cc in (k, subst Finished k tt)

unless-read : (x : Reading) (p : ℕ) (a : Answer) {w : Reading} → unless-done x p a ≡ read w → a ≡ read w
unless-read start p a e = e
unless-read (idle u ms) p a e = e
unless-read (busy u ms o) p a e = e
unless-read (done u ms z) p a e = absurd (refusal e)

tagged-read : (p : ℕ) (o : Option Segment) (k : Segment → Answer) {w : Reading} → tagged-or p o k ≡ read w → (g : Segment) × (o ≡ some g) × (k g ≡ read w)
tagged-read p none k e = absurd (refusal e)
tagged-read p (some g) k e = (g, refl, e)

then-read : (a : Answer) (k : Reading → Answer) {w : Reading} → then a k ≡ read w → (z : Reading) × (a ≡ read z) × (k z ≡ read w)
then-read (read z) k e = (z, refl, e)
then-read (refused n p) k e = absurd (refusal e)

before-both : {o : Option Segment} {q : Option (List Segment)} {g : Segment} {gs : List Segment} → o ≡ some g → q ≡ some gs → before o q ≡ some (g ∷ gs)
before-both h k = rw (h, k)

-- a run over the chain's segments goes from x to w, which is whole
abbrev Reached : Syntax → Reading → Chain → Reading → Type 0
Reached y x n w = (gs : List Segment) × (gathered n ≡ some gs) × Runs y x gs w × Finished w

further : (y : Syntax) (x : Reading) (g : Segment) (p : ℕ) (c : Component) (cs : List Component) (rs : List Repeat) (es : List Element) (n : Chain) (z : Reading) {w : Reading}
    → cut c cs rs es ≡ some g → decided (tests y g p (place x g)) (place x g) ≡ read z → Reached y z n w → Reached y x (open' c cs rs es n) w
further y x g p c cs rs es n z h d (gs, k, r, f) = (g ∷ gs, before-both h k, go (step-passed y x g p d) r, f)

-- where the walk reads, the chain is of segments, a run over them ends in what is read, and that is whole
pub walk-runs : (y : Syntax) (n : Chain) (x : Reading) (p : ℕ) {w : Reading} → walk y x n p ≡ read w
    → (gs : List Segment) × (gathered n ≡ some gs) × Runs y x gs w × Finished w
walk-runs y over x p e = let k = end_read x p e in ([], refl, subst (λ (v : Reading). Runs y x [] v) k.0 stay, k.1)
walk-runs y left x p e = absurd (refusal (unless-read x p (refused 4 p) e))
walk-runs y (open' c cs rs es n) x p e =
    let rest : Segment → Reading → Answer = λ (g : Segment) (z : Reading). walk y z n (p + length (print_s y.service g)) in
    let turn : Segment → Answer = λ (g : Segment). then (decided (tests y g p (place x g)) (place x g)) (rest g) in
    let k = tagged-read p (cut c cs rs es) turn (unless-read x p (tagged-or p (cut c cs rs es) turn) e) in
    let g : Segment = k.0 in
    let d = then-read (decided (tests y g p (place x g)) (place x g)) (rest g) k.2 in
    further y x g p c cs rs es n d.0 k.1 d.1 (walk-runs y n d.0 (p + length (print_s y.service g)) d.2)

-- ---- and back

none_left : {y : Syntax} {x w : Reading} → Runs y x [] w → x ≡ w
none_left stay = refl

first-passed : {y : Syntax} {x w : Reading} {g : Segment} {gs : List Segment} → Runs y x (g ∷ gs) w → (z : Reading) × Passed y x g z × Runs y z gs w
first-passed (go {z = z} k r) = (z, k, r)

before-some : (o : Option Segment) (q : Option (List Segment)) {gs : List Segment} → before o q ≡ some gs
    → (g : Segment) × (hs : List Segment) × (o ≡ some g) × (q ≡ some hs) × (g ∷ hs ≡ gs)
before-some none q e = absurd (none-ne-some _ e)
before-some (some g) none e = absurd (none-ne-some _ e)
before-some (some g) (some hs) {gs} e = let k : g ∷ hs ≡ gs = cc in (g, hs, refl, refl, k)

unless-placed : (x : Reading) (g : Segment) {z : Reading} → place x g ≡ some z → (p : ℕ) (a : Answer) → unless-done x p a ≡ a
unless-placed start g h p a = refl
unless-placed (idle u ms) g h p a = refl
unless-placed (busy u ms o) g h p a = refl
unless-placed (done u ms z) g h p a = absurd (none-ne-some _ (sym (done-stops u ms z g) ∙ h))

-- where a run over the chain's segments ends in a whole interchange, the walk reads it
pub runs-walk : (y : Syntax) (n : Chain) (x : Reading) (p : ℕ) (gs : List Segment) (u : Leaf) (ms : Snoc Message) (z : Leaf)
    → gathered n ≡ some gs → Runs y x gs (done u ms z) → walk y x n p ≡ read (done u ms z)
runs-walk y over x p gs u ms z e r =
    let k : gs ≡ [] = cc in
    let s : Runs y x [] (done u ms z) = subst (λ (l : List Segment). Runs y x l (done u ms z)) k r in
    ap (λ (v : Reading). at_end v p) (none_left s)
runs-walk y left x p gs u ms z e r = absurd (none-ne-some _ e)
runs-walk y (open' c cs rs es n) x p gs u ms z e r =
    let rest : Segment → Reading → Answer = λ (g : Segment) (v : Reading). walk y v n (p + length (print_s y.service g)) in
    let turn : Segment → Answer = λ (g : Segment). then (decided (tests y g p (place x g)) (place x g)) (rest g) in
    let b = before-some (cut c cs rs es) (gathered n) e in
    let g : Segment = b.0 in
    let f = first-passed (subst (λ (l : List Segment). Runs y x l (done u ms z)) (sym b.4) r) in
    unless-placed x g f.1.placed p (tagged-or p (cut c cs rs es) turn)
    ∙ ap (λ (o : Option Segment). tagged-or p o turn) b.2
    ∙ ap (λ (a : Answer). then a (rest g)) (passed-step y x g f.1 p)
    ∙ runs-walk y n f.0 (p + length (print_s y.service g)) b.1 u ms z b.3 f.2

-- ---- over octets

-- where the walk over octets reads, they are the printing of well-formed segments, and a run over these ends in what is read, which is whole
pub walk-sound : (y : Syntax) → T (fit y.service) → (s : List ℕ) (p : ℕ) {w : Reading} → walk y start (chain y.service false s) p ≡ read w
    → (gs : List Segment) × T (well y.service gs) × (syntax.print y.service gs ≡ s) × Runs y start gs w × Finished w
walk-sound y d s p e =
    let k = walk-runs y (chain y.service false s) start p e in
    let b = read_back y.service d s k.0 k.1 in
    (k.0, b.0, b.1, k.2, k.3)

-- where a run over well-formed segments ends in a whole interchange, the walk over their printing reads it
pub walk-complete : (y : Syntax) → T (fit y.service) → (gs : List Segment) (p : ℕ) (u : Leaf) (ms : Snoc Message) (z : Leaf)
    → T (well y.service gs) → Runs y start gs (done u ms z)
    → walk y start (chain y.service false (syntax.print y.service gs)) p ≡ read (done u ms z)
walk-complete y d gs p u ms z w r =
    runs-walk y (chain y.service false (syntax.print y.service gs)) start p gs u ms z (chain-print y.service d gs w) r
