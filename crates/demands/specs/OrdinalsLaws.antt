-- Every refusal from 3 on names the segment at its place: the segments before it are one fewer than its ordinal.
use Rattle.std.specs.Prelude.{ℕ, zero, suc, ◌+◌, ◌-◌, ◌≤◌, ◌<◌, List, [], ◌∷◌, ◌++◌, ◌≡◌, refl, Bool, true, false, cond, not, ◌&&◌, T, eqb, leb, ltb, length, take, drop, Option, Result, Some, None, Ok, Err}
use Rattle.std.proofs.Common.{arith, append_assoc, ap, sym, subst, ◌∙◌, ne_eqb, eqb-true, leb-true, leb-false, ltb-true, lit<, length-append, drop_at, take_at}
use Rattle.std.proofs.Math.Option.{Option as Maybe, none, some}
use Rattle.std.proofs.lemmas.Bool.{eqb-false}
use Rattle.std.proofs.Math.Seq.{slice, slice_empty}
use Rattle.syntax.specs.Service.{kind, without_repetition, fit}
use Rattle.syntax.specs.Repertoire.{outside}
use Rattle.syntax.specs.Content.{content}
use Rattle.syntax.specs.Cutting.{stop_from, end_at, ends, first_outside, tag_of}
use Rattle.syntax.proofs.CuttingLaws.{slice-take}
use Rattle.syntax.specs.Opening.{goes, repeating, starts_una, una_service, read_una, opening_of, level_named, version_named, settled, both_named, is_tag, is_unb, is_there, begun_at, begun_by, begun_of}
use Rattle.syntax.specs.Ordinal.{ordinal_by, ordinal_of}
use Rattle.syntax.specs.Refusals.{refusal_at}
use Rattle.syntax.specs.Segment.{component_at, part_of}
use Rattle.syntax.specs.Reader.{chain}
use Rattle.syntax.proofs.ReaderLaws.{no_place, same_place, well-cons, well-uncons}
use Rattle.syntax.specs.Tree.{Segment, print_s, print, well}
use Rattle.syntax.proofs.TreeLaws.{print-cons, segment-end}
use Rattle.syntax.proofs.BridgeLaws.{alone}
use Rattle.syntax.specs.declared.Breach.{Breach}
use Rattle.syntax.specs.declared.Refusal.{Refusal}
use Rattle.syntax.specs.declared.Service.{Service}
use Rattle.syntax.specs.declared.Syntax.{Syntax}
use Rattle.syntax.specs.declared.Level.{Level}
use Rattle.syntax.specs.declared.Version.{Version}
use Rattle.syntax.specs.declared.opening.Opening.{Opening}
use Rattle.syntax.specs.declared.opening.Start.{Start}
use Rattle.grammar.specs.Lists.{check}
use Rattle.grammar.specs.TestLaws.{is_true, passes}
use Rattle.grammar.specs.Interchange.{Reading, start, idle, busy, done}
use Rattle.grammar.specs.Rules.{inside_s, order, formed_s, subsets, refs, counts, scopes, amount_s}
use Rattle.grammar.specs.Valid.{Una}
use Rattle.grammar.specs.Placing.{place}
use Rattle.grammar.specs.Verdict.{on, found_at, Answer, read, refused, tests, decided, then, at_end, unless-done, walk, una_at, accepted, refused_with, Verdict, concluded, verdict_by, verdict_of}
use Rattle.grammar.proofs.WalkLaws.{Finished, walk-runs}
use Rattle.grammar.specs.StartLaws.{start-read}
use Rattle.refusals.specs.OrdinalLaws.{end_is, free-is}
use Rattle.turns.specs.TurnLaws.{print-some, walk-over, walk_none, walk-bad, Turned, walk_turn}
use Rattle.demands.specs.NumbersLaws.{either}
use Rattle.demands.specs.Ordinals.{SegmentAt}

-- ---- how many segments end in octets

-- the repetition has no part in it
ends_same : (σ : Service) (f : Bool) (l : List ℕ) (i : ℕ) → ends (without_repetition σ) f l i ≡ ends σ f l i
ends_same σ f [] i = refl
ends_same σ f (b ∷ l) i =
    ap (λ (t : Bool). cond t (i ∷ ends (without_repetition σ) (eqb (kind (without_repetition σ) f b) 0) l (suc i)) (ends (without_repetition σ) (eqb (kind (without_repetition σ) f b) 0) l (suc i))) (ending f)
    ∙ ap (λ (r : List ℕ). cond (leb 5 (kind σ f b)) (i ∷ r) r) (ap (λ (g : Bool). ends (without_repetition σ) g l (suc i)) (freeing f) ∙ ends_same σ (eqb (kind σ f b) 0) l (suc i))
  where
    ending : (f : Bool) → leb 5 (kind (without_repetition σ) f b) ≡ leb 5 (kind σ f b)
    ending true = refl
    ending false = end_is (without_repetition σ) b ∙ sym (end_is σ b)

    freeing : (f : Bool) → eqb (kind (without_repetition σ) f b) 0 ≡ eqb (kind σ f b) 0
    freeing true = refl
    freeing false = free-is (without_repetition σ) b ∙ sym (free-is σ b)

no-release : (k : ℕ) → 5 ≤ k → eqb k 0 ≡ false
no-release k h = ne_eqb k 0 (λ q. omega (arith, q, h))

module _ (σ : Service) where
  -- a terminator that is not released is one end, and what is behind it starts anew
  ends-stop : (f : Bool) (l : List ℕ) (i e : ℕ) → stop_from σ 5 f l i ≡ Some e
      → (k : ℕ) × (e ≡ i + k) × (length (ends σ f l i) ≡ suc (length (ends σ false (drop (suc k) l) (suc e))))
  ends-stop f [] i e h = absurd (no_place e h)
  ends-stop f (b ∷ l) i e h = by (leb 5 (kind σ f b)) refl h (ends-stop (eqb (kind σ f b) 0) l (suc i) e)
    where
      by : (t : Bool) → leb 5 (kind σ f b) ≡ t → cond t (Some i) (stop_from σ 5 (eqb (kind σ f b) 0) l (suc i)) ≡ Some e
          → (stop_from σ 5 (eqb (kind σ f b) 0) l (suc i) ≡ Some e
          → (k : ℕ) × (e ≡ suc i + k) × (length (ends σ (eqb (kind σ f b) 0) l (suc i)) ≡ suc (length (ends σ false (drop (suc k) l) (suc e)))))
          → (k : ℕ) × (e ≡ i + k) × (length (ends σ f (b ∷ l) i) ≡ suc (length (ends σ false (drop (suc k) (b ∷ l)) (suc e))))
      by true q h ih =
          let p : i ≡ e = same_place i e h in
          let z : eqb (kind σ f b) 0 ≡ false = no-release (kind σ f b) (leb-true 5 (kind σ f b) q) in (
            0,
            omega (arith, p),
            ap (λ (t : Bool). length (cond t (i ∷ ends σ (eqb (kind σ f b) 0) l (suc i)) (ends σ (eqb (kind σ f b) 0) l (suc i)))) q
                ∙ ap (λ (g : Bool). suc (length (ends σ g l (suc i)))) z ∙ ap (λ (m : ℕ). suc (length (ends σ false l (suc m)))) p,
          )
      by false q h ih =
          let r = ih h in (
            suc r.0,
            omega (arith, r.1),
            ap (λ (t : Bool). length (cond t (i ∷ ends σ (eqb (kind σ f b) 0) l (suc i)) (ends σ (eqb (kind σ f b) 0) l (suc i)))) q ∙ r.2,
          )

  -- before it nothing ends
  ends-none : (f : Bool) (l : List ℕ) (i e k : ℕ) → stop_from σ 5 f l i ≡ Some e → i + k ≤ e → (j : ℕ) → length (ends σ f (take k l) j) ≡ 0
  ends-none f [] i e k h n j = absurd (no_place e h)
  ends-none f (b ∷ l) i e zero h n j = refl
  ends-none f (b ∷ l) i e (suc k) h n j = by (leb 5 (kind σ f b)) refl h (λ m. ends-none (eqb (kind σ f b) 0) l (suc i) e k m (omega (arith, n)) (suc j))
    where
      by : (t : Bool) → leb 5 (kind σ f b) ≡ t → cond t (Some i) (stop_from σ 5 (eqb (kind σ f b) 0) l (suc i)) ≡ Some e
          → (stop_from σ 5 (eqb (kind σ f b) 0) l (suc i) ≡ Some e → length (ends σ (eqb (kind σ f b) 0) (take k l) (suc j)) ≡ 0)
          → length (ends σ f (b ∷ take k l) j) ≡ 0
      by true q h ih = absurd (omega (arith, same_place i e h, n))
      by false q h ih = ap (λ (t : Bool). length (cond t (j ∷ ends σ (eqb (kind σ f b) 0) (take k l) (suc j)) (ends σ (eqb (kind σ f b) 0) (take k l) (suc j)))) q ∙ ih h

  -- printed segments have one each
  ends-print : T (fit σ) → (gs : List Segment) → T (well σ gs) → (r : List ℕ) (i : ℕ)
      → length (ends σ false (print σ gs ++ r) i) ≡ length gs + length (ends σ false r (i + length (print σ gs)))
  ends-print d [] w r i =
      let n : i ≡ i + 0 = omega arith in
      let z : length (ends σ false r (i + 0)) ≡ 0 + length (ends σ false r (i + 0)) = omega arith in
      ap (λ (m : ℕ). length (ends σ false r m)) n ∙ z
  ends-print d (g ∷ gs) w r i =
      let u = well-uncons σ g gs w in
      let rest : List ℕ = print σ gs ++ r in
      let c = ends-stop false (print_s σ g ++ rest) i (i + (length (print_s σ g) - 1)) (segment-end σ d g (alone σ g u.0) rest i) in
      let n : length (print_s σ g) ≡ suc c.0 = omega (arith, c.1, print-some σ g) in
      let e : ℕ = i + (length (print_s σ g) - 1) in
      let long : length (print σ (g ∷ gs)) ≡ length (print_s σ g) + length (print σ gs) = ap length (print-cons σ g gs) ∙ length-append (print_s σ g) (print σ gs) in
      let m : suc e + length (print σ gs) ≡ i + length (print σ (g ∷ gs)) = omega (arith, long, n) in
      ap (λ (l : List ℕ). length (ends σ false l i)) (ap (λ (l : List ℕ). l ++ r) (print-cons σ g gs) ∙ append_assoc (print_s σ g) (print σ gs) r)
      ∙ c.2
      ∙ ap (λ (l : List ℕ). suc (length (ends σ false l (suc e)))) (drop_at (print_s σ g) rest (suc c.0) n)
      ∙ ap suc (ends-print d gs u.1 r (suc e))
      ∙ ap (λ (k : ℕ). suc (length gs + length (ends σ false r k))) m ∙ more (length gs) (length (ends σ false r (i + length (print σ (g ∷ gs)))))
    where
      more : (a b : ℕ) → suc (a + b) ≡ suc a + b
      more a b = omega arith

-- ---- a walk that is refused: whole segments up to where it is, or for 3 to where the segment starts that the octet is in

record Halts (σ : Service) (s : List ℕ) (i n p : ℕ) : Type 0 where
  pub late : 3 ≤ n
  pub gs : List Segment
  pub good : T (well σ gs)
  pub start : ℕ
  pub size : start ≡ i + length (print σ gs)
  pub rest : drop i s ≡ print σ gs ++ drop start s
  pub at : (n ≡ 3 → ⊥) → p ≡ start
  pub inside : n ≡ 3 → (start ≤ p) × ((e : ℕ) × ((end_at σ s start ≡ Some e) × (p ≤ e)))

abbrev OfAnswer : Service → List ℕ → ℕ → Answer → Type 0
OfAnswer σ s i (read x) = Unit {0}
OfAnswer σ s i (refused n p) = Halts σ s i n p

abbrev Between : ℕ → ℕ → Option ℕ → Type 0
Between a z None = Unit {0}
Between a z (Some q) = (a ≤ q) × (q < z)

outside-between : (y : Syntax) (l : List ℕ) (i : ℕ) → Between i (i + length l) (first_outside y l i)
outside-between y [] i = tt
outside-between y (b ∷ l) i = by (outside y b) (first_outside y l (suc i)) (outside-between y l (suc i))
  where
    by : (t : Bool) (r : Option ℕ) → Between (suc i) (suc i + length l) r → Between i (i + suc (length l)) (cond t (Some i) r)
    by true r h = (omega arith, omega arith)
    by false None h = tt
    by false (Some q) h = (omega (arith, h.0), omega (arith, h.1))

found_between : (i z : ℕ) (r : Option ℕ) → i < z → Between i z r → (i ≤ found_at i r) × (found_at i r < z)
found_between i z None l h = (omega arith, l)
found_between i z (Some q) l h = h

module _ (y : Syntax) (s : List ℕ) where
  -- at i itself
  here : (i n : ℕ) → 3 < n → Halts y.service s i n i
  here i n l = record {
    late = omega (arith, l);
    gs = [];
    good = tt;
    start = i;
    size = omega arith;
    rest = refl;
    at = λ q. refl;
    inside = λ q. absurd (omega (arith, q, l));
  }

  end_of : (x : Reading) (i : ℕ) → OfAnswer y.service s i (at_end x i)
  end_of start i = here i 7 (lit< tt)
  end_of (idle u ms) i = here i 7 (lit< tt)
  end_of (busy u ms o) i = here i 7 (lit< tt)
  end_of (done u ms z) i = tt

  unless-of : (x : Reading) (i : ℕ) (a : Answer) → OfAnswer y.service s i a → OfAnswer y.service s i (unless-done x i a)
  unless-of start i a h = h
  unless-of (idle u ms) i a h = h
  unless-of (busy u ms o) i a h = h
  unless-of (done u ms z) i a h = here i 7 (lit< tt)

  then-of : (i : ℕ) (a : Answer) (k : Reading → Answer) → OfAnswer y.service s i a → ((z : Reading) → OfAnswer y.service s i (k z)) → OfAnswer y.service s i (then a k)
  then-of i (read x) k h f = f x
  then-of i (refused n p) k h f = h

  module _ {x : Reading} {i e a b c : ℕ} (h : end_at y.service s i ≡ Some e) (t : Turned y x s i e a b c) where
    -- 3: an octet of the segment
    spoilt : Halts y.service s i 3 (found_at i (first_outside y (print_s y.service t.g) i))
    spoilt =
        let long : i < i + length (print_s y.service t.g) = omega (arith, t.size, t.low) in
        let q = found_between i (i + length (print_s y.service t.g)) (first_outside y (print_s y.service t.g) i) long (outside-between y (print_s y.service t.g) i) in
        record {
          late = omega arith;
          gs = [];
          good = tt;
          start = i;
          size = omega arith;
          rest = refl;
          at = λ ne. absurd (ne refl);
          inside = λ z. (q.0, (e, (h, omega (arith, q.1, t.size))));
        }

    -- a segment's own tests
    decided-of : (o : Maybe Reading) → OfAnswer y.service s i (decided (tests y t.g i o) o)
    decided-of none = either (OfAnswer y.service s i) (check (inside_s y t.g)) (here i 7 (lit< tt)) spoilt
    decided-of (some z) =
        either (OfAnswer y.service s i) (check (inside_s y t.g))
        (either (OfAnswer y.service s i) (check (order z))
        (either (OfAnswer y.service s i) (check (formed_s y t.g) && check (subsets z))
        (either (OfAnswer y.service s i) (check (refs z))
        (either (OfAnswer y.service s i) (check (counts y.version z))
        (either (OfAnswer y.service s i) (check (scopes z))
        (either (OfAnswer y.service s i) (check (amount_s t.g)) tt
        (here i 12 (lit< tt))) (here i 11 (lit< tt))) (here i 10 (lit< tt))) (here i 9 (lit< tt)))
        (here i 8 (lit< tt))) (here i 7 (lit< tt))) spoilt

    -- a walk from behind it, seen from where it starts
    further : (r : Answer) → OfAnswer y.service s (e + 1) r → OfAnswer y.service s i r
    further (read z) k = tt
    further (refused n p) k =
        let long : length (print y.service (t.g ∷ k.gs)) ≡ length (print_s y.service t.g) + length (print y.service k.gs) =
        ap length (print-cons y.service t.g k.gs) ∙ length-append (print_s y.service t.g) (print y.service k.gs) in
        record {
          late = k.late;
          gs = t.g ∷ k.gs;
          good = well-cons y.service t.g k.gs t.written k.good;
          start = k.start;
          size = omega (arith, k.size, t.size, long);
          rest = t.rest ∙ ap (λ (l : List ℕ). print_s y.service t.g ++ l) k.rest ∙ sym (append_assoc (print_s y.service t.g) (print y.service k.gs) (drop k.start s))
              ∙ ap (λ (l : List ℕ). l ++ drop k.start s) (sym (print-cons y.service t.g k.gs));
          at = k.at;
          inside = k.inside;
        }

  module _ (d : T (fit y.service)) where
    walk_of : (fuel : ℕ) (x : Reading) (i : ℕ) → length s ≤ i + fuel → OfAnswer y.service s i (walk y x (chain y.service false (drop i s)) i)
    walk_of zero x i l = subst (OfAnswer y.service s i) (sym (walk-over y x s i (omega (arith, l)))) (end_of x i)
    walk_of (suc fuel) x i l = by (leb (length s) i) refl (end_at y.service s i) refl (tag_of y.service (drop i s)) refl (λ e z m. walk_of fuel z (e + 1) m)
      where
        by : (t : Bool) → leb (length s) i ≡ t → (q : Option ℕ) → end_at y.service s i ≡ q → (g : Option (ℕ × ℕ × ℕ)) → tag_of y.service (drop i s) ≡ g
            → ((e : ℕ) (z : Reading) → length s ≤ e + 1 + fuel → OfAnswer y.service s (e + 1) (walk y z (chain y.service false (drop (e + 1) s)) (e + 1)))
            → OfAnswer y.service s i (walk y x (chain y.service false (drop i s)) i)
        by true k q h g j ih = subst (OfAnswer y.service s i) (sym (walk-over y x s i (leb-true (length s) i k))) (end_of x i)
        by false k None h g j ih =
            subst (OfAnswer y.service s i) (sym (walk_none y x s i (leb-false (length s) i k) h)) (unless-of x i (refused 4 i) (here i 4 (lit< tt)))
        by false k (Some e) h None j ih =
            subst (OfAnswer y.service s i) (sym (walk-bad y x s i d h j)) (unless-of x i (refused 4 i) (here i 4 (lit< tt)))
        by false k (Some e) h (Some (a, b, c)) j ih =
            let t = walk_turn y x s i d h j in
            let onward : Reading → Answer = λ (z : Reading). walk y z (chain y.service false (drop (e + 1) s)) (e + 1) in
            let own : Answer = decided (tests y t.g i (place x t.g)) (place x t.g) in
            subst (OfAnswer y.service s i) (sym t.goes)
            (unless-of x i (then own onward)
            (then-of i own onward (decided-of h t (place x t.g)) (λ z. further h t (onward z) (ih e z (omega (arith, l, t.low))))))

-- ---- the start of an interchange: refused at UNB, or its syntax

abbrev OfOpened : Result Opening Breach → Type 0
OfOpened (Err f) = T (ltb f.number 3)
OfOpened (Ok o) = T (fit o.service)

opened_of : (s : List ℕ) → OfOpened (opening_of s)
opened_of s =
    either OfOpened (eqb (length s) 0) tt
    (either OfOpened (ltb 65535 (length s)) tt
    (either OfOpened (starts_una s) (either OfOpened (ltb (length s) 9) tt (by (fit (una_service s)) refl)) tt))
  where
    by : (b : Bool) → fit (una_service s) ≡ b → OfOpened (cond b (Ok (record { service = una_service s; una = true; at = 9 })) (Err (record { number = 2; place = 0 })))
    by true h = passes (fit (una_service s)) h
    by false h = tt

abbrev OfBegun : Opening → Result Start Breach → Type 0
OfBegun o (Err f) = (f.place ≡ o.at) × T (ltb 3 f.number)
OfBegun o (Ok x) = (x.at ≡ o.at) × (without_repetition x.syntax.service ≡ without_repetition o.service)

settled-of : (o : Opening) (l : Level) (v : Version) → OfBegun o (settled o l v)
settled-of o l v =
    either (OfBegun o) (repeating v) (refl, refl) (either (OfBegun o) (o.una && not (eqb o.service.repetition 32)) (refl, tt) (refl, refl))

named-of : (o : Opening) (l : Option Level) (v : Option Version) → OfBegun o (both_named o l v)
named-of o (Some l) (Some v) = either (OfBegun o) (goes l v) (settled-of o l v) (refl, tt)
named-of o (Some l) None = (refl, tt)
named-of o None v = (refl, tt)

begun-of : (s : List ℕ) (o : Opening) → OfBegun o (begun_at s o)
begun-of s o =
    either (OfBegun o) (leb (length s) o.at) (refl, tt)
    (either (OfBegun o) (not (is_there (end_at (without_repetition o.service) s o.at))) (refl, tt)
    (either (OfBegun o) (not (is_tag (tag_of o.service (drop o.at s)))) (refl, tt)
    (either (OfBegun o) (not (is_unb (tag_of o.service (drop o.at s)))) (refl, tt)
    (named-of o (level_named (content (without_repetition o.service).release (part_of s (component_at (without_repetition o.service) s o.at 1 0))))
    (version_named (content (without_repetition o.service).release (part_of s (component_at (without_repetition o.service) s o.at 1 1))))))))

-- ---- the ordinal

module _ (s : List ℕ) (o : Opening) (e : opening_of s ≡ Ok o) (σ : Service) (d : T (fit σ)) (force : without_repetition σ ≡ without_repetition o.service) where
  module _ {n p : ℕ} (h : Halts σ s o.at n p) where
    long-at : h.start - o.at ≡ length (print σ h.gs)
    long-at = omega (arith, h.size)

    octets-at : slice o.at h.start s ≡ print σ h.gs
    octets-at =
        slice-take o.at h.start s ∙ ap (λ (l : List ℕ). take (h.start - o.at) l) h.rest
        ∙ take_at (print σ h.gs) (drop h.start s) (h.start - o.at) (sym long-at)

    -- the octets up to the place are the segments, and then k octets of the next one
    up-to : (k : ℕ) → p ≡ h.start + k → slice o.at p s ≡ print σ h.gs ++ take k (drop h.start s)
    up-to k q =
        let m : p - o.at ≡ length (print σ h.gs) + k = omega (arith, h.size, q) in
        slice-take o.at p s ∙ ap (λ (l : List ℕ). take (p - o.at) l) h.rest
        ∙ ap (λ (j : ℕ). take j (print σ h.gs ++ drop h.start s)) m ∙ take_more (print σ h.gs) k (drop h.start s)
      where
        take_more : (a : List ℕ) (k : ℕ) (b : List ℕ) → take (length a + k) (a ++ b) ≡ a ++ take k b
        take_more [] k b = let n : 0 + k ≡ k = omega arith in ap (λ (m : ℕ). take m b) n
        take_more (x ∷ a) k b =
            let n : suc (length a) + k ≡ suc (length a + k) = omega arith in
            ap (λ (m : ℕ). take m (x ∷ (a ++ b))) n ∙ ap (λ (l : List ℕ). x ∷ l) (take_more a k b)

    counted-at : (k : ℕ) → p ≡ h.start + k → ((j : ℕ) → length (ends σ false (take k (drop h.start s)) j) ≡ 0) → ordinal_of s p ≡ suc (length h.gs)
    counted-at k q quiet =
        let same : (l : List ℕ) → ends o.service false l 0 ≡ ends σ false l 0 =
        λ (l : List ℕ). sym (ends_same o.service false l 0) ∙ ap (λ (τ : Service). ends τ false l 0) (sym force) ∙ ends_same σ false l 0 in
        let tail : List ℕ = take k (drop h.start s) in
        let z = ends-print σ d h.gs h.good tail 0 in
        let w = quiet (0 + length (print σ h.gs)) in
        let c : length (ends σ false (print σ h.gs ++ tail) 0) ≡ length h.gs = omega (arith, z, w) in
        ap (λ (x : Result Opening Breach). ordinal_by x s p) e ∙ ap suc (ap length (same (slice o.at p s)) ∙ ap (λ (l : List ℕ). length (ends σ false l 0)) (up-to k q) ∙ c)

    ordinal-at : ordinal_of s p ≡ suc (length h.gs)
    ordinal-at = by (eqb n 3) refl
      where
        by : (t : Bool) → eqb n 3 ≡ t → ordinal_of s p ≡ suc (length h.gs)
        by true q =
            let i = h.inside (eqb-true n 3 q) in
            let k : p ≡ h.start + (p - h.start) = omega (arith, i.0) in
            let m : h.start + (p - h.start) ≤ i.1.0 = omega (arith, i.0, i.1.1.1) in
            counted-at (p - h.start) k (ends-none σ false (drop h.start s) h.start i.1.0 (p - h.start) i.1.1.0 m)
        by false q =
            let k : p ≡ h.start + 0 = omega (arith, h.at (eqb-false n 3 q)) in
            counted-at 0 k (λ j. refl)

    segment-at : SegmentAt s (refusal_at s n p)
    segment-at = record {
      opening = o;
      opened = e;
      σ = σ;
      in-force = force;
      segments = h.gs;
      written = h.good;
      start = h.start;
      start_is = h.size;
      octets = octets-at;
      ordinal = ordinal-at;
      at = h.at;
      inside = h.inside;
    }

-- ---- the verdict

told_with : {f g : Refusal} → refused_with f ≡ refused_with g → f ≡ g
told_with h = cc

not-told : {A : Type 0} {t : _} {f : Refusal} → accepted t ≡ refused_with f → A
not-told h = let z : ◌≡◌ {A = ℕ} 0 1 = cc in let w : ⊥ = omega arith in absurd w

-- what a refusal carries: none where it is 1 or 2, else the segment at its place
abbrev pub Named : List ℕ → Refusal → Type 0
Named s f = (f.number ≤ 2 → f.segment ≡ 0) × (3 ≤ f.number → SegmentAt s f)

module _ (s : List ℕ) where
  before-unb : (b : Breach) → opening_of s ≡ Err b → OfOpened (Err b) → Named s (refusal_at s b.number b.place)
  before-unb b e h =
      let l : b.number < 3 = ltb-true b.number 3 (is_true (ltb b.number 3) h) in
      (λ q. ap (λ (x : Result Opening Breach). ordinal_by x s b.place) e, λ q. absurd (omega (arith, q, l)))

  module _ (o : Opening) (e : opening_of s ≡ Ok o) (d : T (fit o.service)) where
    at-unb : (b : Breach) → OfBegun o (Err b) → Named s (refusal_at s b.number b.place)
    at-unb b h =
        let four : 3 < b.number = ltb-true 3 b.number (is_true (ltb 3 b.number) h.1) in
        let w : Halts o.service s o.at b.number b.place = record {
          late = omega (arith, four);
          gs = [];
          good = tt;
          start = o.at;
          size = omega arith;
          rest = refl;
          at = λ q. h.0;
          inside = λ q. absurd (omega (arith, q, four));
        } in
        (λ q. absurd (omega (arith, q, four)), λ q. segment-at s o e o.service d refl w)

    behind-unb : (x : Start) → begun_of s ≡ Ok x → OfBegun o (Ok x) → (a : Answer)
        → walk x.syntax start (chain x.syntax.service false (drop x.at s)) x.at ≡ a → OfAnswer x.syntax.service s x.at a
        → {f : Refusal} → concluded s (una_at s) a ≡ refused_with f → Named s f
    behind-unb x k g (read start) w h c = absurd (walk-runs x.syntax (chain x.syntax.service false (drop x.at s)) start x.at w).3
    behind-unb x k g (read (idle u ms)) w h c = absurd (walk-runs x.syntax (chain x.syntax.service false (drop x.at s)) start x.at w).3
    behind-unb x k g (read (busy u ms p)) w h c = absurd (walk-runs x.syntax (chain x.syntax.service false (drop x.at s)) start x.at w).3
    behind-unb x k g (read (done u ms z)) w h c = not-told c
    behind-unb x k g (refused n p) w h c =
        let at : Halts x.syntax.service s o.at n p = subst (λ (i : ℕ). Halts x.syntax.service s i n p) g.0 h in
        subst (Named s) (told_with c)
        (λ q. absurd (omega (arith, q, h.late)), λ q. segment-at s o e x.syntax.service (start-read s x k).fits g.1 at)

pub segment-named : (s : List ℕ) (f : Refusal) → verdict_of s ≡ refused_with f → Named s f
segment-named s f v = by (opening_of s) refl (opened_of s)
  where
    by : (q : Result Opening Breach) → opening_of s ≡ q → OfOpened q → Named s f
    by (Err b) e h =
        let c : refused_with (refusal_at s b.number b.place) ≡ refused_with f = ap (λ (q : Result Opening Breach). verdict_by s (begun_by s q)) (sym e) ∙ v in
        subst (Named s) (told_with c) (before-unb s b e h)
    by (Ok o) e h = go (begun_at s o) refl (begun-of s o)
      where
        go : (b : Result Start Breach) → begun_at s o ≡ b → OfBegun o b → Named s f
        go (Err b) k g =
            let c : refused_with (refusal_at s b.number b.place) ≡ refused_with f = ap (verdict_by s) (sym (ap (begun_by s) e ∙ k)) ∙ v in
            subst (Named s) (told_with c) (at-unb s o e h b g)
        go (Ok x) k g =
            let n : begun_of s ≡ Ok x = ap (begun_by s) e ∙ k in
            let l : length s ≤ x.at + length s = omega arith in
            behind-unb s o e h x n g (walk x.syntax start (chain x.syntax.service false (drop x.at s)) x.at) refl
            (walk_of x.syntax s (start-read s x n).fits (length s) start x.at l)
            (ap (verdict_by s) (sym n) ∙ v)
