-- The loop over the segments: what holds at its head, and one law for each way through it.
use Rattle.std.specs.Prelude.{ℕ, ◌+◌, ◌*◌, ◌≤◌, ◌<◌, List, [], ◌∷◌, ◌≡◌, refl, Bool, true, false, T, leb, length, drop, replicate, Option, Result, Some, None, Ok, Err}
use Rattle.std.proofs.Common.{arith, ap, sym, ◌∙◌, subst, leb→le}
use Rattle.std.proofs.lemmas.Bool.{false≢true}
use Rattle.std.proofs.lemmas.List.{length-replicate}
use Rattle.std.proofs.Math.Seq.{slice}
use Rattle.syntax.specs.Service.{fit}
use Rattle.syntax.specs.Content.{content, compared}
use Rattle.syntax.specs.Cutting.{end_at, tag_of}
use Rattle.syntax.specs.Scanning.{cut_at}
use Rattle.syntax.specs.Opening.{begun_of}
use Rattle.syntax.specs.Tree.{Segment, segment, print_s}
use Rattle.syntax.proofs.TreeLaws.{and_right}
use Rattle.syntax.specs.Reader.{chain}
use Rattle.syntax.specs.declared.Breach.{Breach}
use Rattle.syntax.specs.declared.Service.{Service}
use Rattle.syntax.specs.declared.Syntax.{Syntax}
use Rattle.syntax.specs.declared.cutting.Cut.{Cut}
use Rattle.syntax.specs.declared.cutting.Cut.TheVariants.{Ends, Spoilt, Open}
use Rattle.syntax.specs.declared.opening.Start.{Start as Opening}
use Rattle.grammar.specs.Lists.{Snoc}
use Rattle.grammar.specs.Segments.{Asked, asked}
use Rattle.grammar.specs.Interchange.{Leaf, Message, Reading, start, idle, busy, done, shown}
use Rattle.grammar.specs.Placing.{place}
use Rattle.grammar.specs.Places.{wide}
use Rattle.grammar.proofs.PlacingLaws.{shows}
use Rattle.grammar.specs.SnocLaws.{not-nil}
use Rattle.grammar.specs.Running.{Passed}
use Rattle.grammar.proofs.RunningLaws.{good_start, passed-good}
use Rattle.grammar.proofs.WalkLaws.{step-passed}
use Rattle.grammar.specs.StartLaws.{start-read}
use Rattle.grammar.specs.Verdict.{Answer, read, refused, tests, decided, then, at_end, unless-done, walk, concluded, verdict_of, verdict_by, una_at}
use Rattle.elements.specs.Kinds.{tag_kind}
use Rattle.elements.specs.Octets.{asked_at}
use Rattle.references.specs.Refs.{refs_in}
use Rattle.references.specs.RefsLaws.{indexed-none}
use Rattle.message.specs.Steps.{summary_in}
use Rattle.message.specs.Summary.{Summary, StateS, start_s, idle_s, busy_s, done_s, state_of, AnswerS, answer_of}
use Rattle.turns.specs.FollowLaws.{follow}
use Rattle.turns.specs.TurnLaws.{Turned, walk-over, walk_none, walk-bad, walk_turn, cut-open, cut-ends, cut-spoilt, turned-inside, turned-three}
use Rattle.turns.specs.Held.{looked_at, seen_by, phased, state_in, open_size, decided_from, StepIs}
use Rattle.elements.specs.declared.Kind.{Kind}
use Rattle.turns.specs.declared.state.Phase.{Phase}
use Rattle.turns.specs.declared.state.Phase.TheVariants.{Start, Idle, Busy, Done}
use Rattle.turns.specs.declared.state.State.{State}
use Rattle.turns.specs.declared.state.Ahead.{Ahead}
use Rattle.walk.specs.Runs.{unread_as, is_done, is_busy, Fresh, answer_from, Walking, Going, AdvancedIs, Onward}

-- ---- before UNB, and behind UNZ

abbrev over : StateS → Bool
over start_s = false
over (idle_s u rs) = false
over (busy_s u rs S) = false
over done_s = true

over-phased : (p : Phase) (u : List ℕ) (rs : Snoc (List ℕ)) (S : Summary) → over (phased p u rs S) ≡ is_done p
over-phased Start u rs S = refl
over-phased Idle u rs S = refl
over-phased Busy u rs S = refl
over-phased Done u rs S = refl

over-in : (ρ : ℕ) (s : List ℕ) (x : State) (h l : List ℕ) → over (state_in ρ s x h l) ≡ is_done x.phase
over-in ρ s x h l =
    over-phased x.phase (compared (content ρ (slice x.unb.start x.unb.end s))) (refs_in l x.count) (summary_in ρ s x.message x.unh.start x.unh.end h)

start-in : (ρ : ℕ) (s : List ℕ) (x : State) (h l : List ℕ) → x.phase ≡ Start → state_in ρ s x h l ≡ start_s
start-in ρ s x h l e =
    ap (λ (p : Phase). phased p (compared (content ρ (slice x.unb.start x.unb.end s))) (refs_in l x.count)
    (summary_in ρ s x.message x.unh.start x.unh.end h)) e

-- ---- what holds at the head of the loop

-- all was read: the answer is the reading, and it ends with UNZ
abbrev pub ReadAll : {y : Syntax} {s : List ℕ} {from : ℕ} {x : State} {h l b : List ℕ} {i : ℕ} → Walking y s from x h l b i → Type 0
ReadAll {y = y} {s = s} {from = from} w = (answer_from y s from ≡ read w.tree) × ((u : Leaf) × (ms : Snoc Message) × (z : Leaf) × (w.tree ≡ done u ms z))

-- nothing read yet
pub walking_start : {y : Syntax} {s h l b : List ℕ} {x : State} {i : ℕ} → Fresh y s l b → length h ≡ 36 → x ≡ unread_as
    → Walking y s i x h l b i
walking_start {y} {s} {h} {l} {b} {x} {i} f n e =
    subst (λ (x : State). Walking y s i x h l b i) (sym e)
    (record {
      tree = start;
      good = good_start y;
      same = refl;
      held = record {
        indexed = f.indexed;
        roomy = record {
          headers = omega arith;
          loads = omega arith;
          grams = omega arith;
          back = omega arith;
          base = omega arith;
          own = omega arith;
          sizes = λ i a. let z : ⊥ = omega arith in absurd z;
        };
        begun = omega arith;
        long = n;
        taken = omega arith;
        offered = λ e. absurd (false≢true (ap is_busy e));
      };
      names = f.room;
      short = f.short;
      first = λ e. refl;
      goes = refl;
      placed = omega arith;
    })

pub unread-idle : {A : Type 0} {x : State} → x ≡ unread_as → is_busy x.phase ≡ true → A
unread-idle e t = absurd (false≢true (sym (ap (λ (x : State). is_busy x.phase) e) ∙ t))

-- ---- by what the walk makes of octets that are left

not_done : (x : Reading) → over (state_of x) ≡ false → (i : ℕ) (a : Answer) → unless-done x i a ≡ a
not_done start e i a = refl
not_done (idle u ms) e i a = refl
not_done (busy u ms o) e i a = refl
not_done (done u ms z) e i a = absurd (false≢true (sym e))

when-done : (x : Reading) → over (state_of x) ≡ true → (i : ℕ) (a : Answer) → unless-done x i a ≡ refused 7 i
when-done start e i a = absurd (false≢true e)
when-done (idle u ms) e i a = absurd (false≢true e)
when-done (busy u ms o) e i a = absurd (false≢true e)
when-done (done u ms z) e i a = refl

-- where octets are left, the walk's answer is there unless all is read
some_left : (y : Syntax) → T (fit y.service) → (x : Reading) (s : List ℕ) (i : ℕ) → i < length s
    → (a : Answer) × (walk y x (chain y.service false (drop i s)) i ≡ unless-done x i a)
some_left y f x s i l = by (end_at y.service s i) refl (tag_of y.service (drop i s)) refl
  where
    by : (q : Option ℕ) → end_at y.service s i ≡ q → (t : Option (ℕ × ℕ × ℕ)) → tag_of y.service (drop i s) ≡ t
        → (a : Answer) × (walk y x (chain y.service false (drop i s)) i ≡ unless-done x i a)
    by None h t k = (_, walk_none y x s i l h)
    by (Some e) h None k = (_, walk-bad y x s i f h k)
    by (Some e) h (Some (a, b, c)) k = (_, (walk_turn y x s i f h k).goes)

-- ---- a look

unlike : {A : Type 0} {e : ℕ} {k : Kind} {f : Breach} → ◌≡◌ {A = Result (ℕ × Kind) Breach} (Ok (e, k)) (Err f) → A
unlike h = let z : ◌≡◌ {A = ℕ} 0 1 = cc in let w : ⊥ = omega arith in absurd w

good-same : {A E : Type 0} {x y : A} → ◌≡◌ {A = Result A E} (Ok x) (Ok y) → x ≡ y
good-same h = cc

bad-same : {A : Type 0} {f g : Breach} → ◌≡◌ {A = Result A Breach} (Err f) (Err g) → f ≡ g
bad-same h = cc

numbered : {A : Type 0} {n p : ℕ} {f : Breach} {a : Answer} → ◌≡◌ {A = Result A Breach} (Err (record { number = n; place = p })) (Err f) → a ≡ refused n p → a ≡ refused f.number f.place
numbered {n} {p} {f} {a} h e = e ∙ ap (λ (f : Breach). refused f.number f.place) (bad-same h)

bad-look : (y : Syntax) → T (fit y.service) → (x : Reading) → over (state_of x) ≡ false → (s : List ℕ) (i : ℕ) → i < length s → {f : Breach} → looked_at y s i ≡ Err f
    → walk y x (chain y.service false (drop i s)) i ≡ refused f.number f.place
bad-look y d x o s i l {f} e = by (cut_at y s i) refl (tag_of y.service (drop i s)) refl e
  where
    by : (q : Cut) → cut_at y s i ≡ q → (t : Option (ℕ × ℕ × ℕ)) → tag_of y.service (drop i s) ≡ t → seen_by q t i ≡ Err f
        → walk y x (chain y.service false (drop i s)) i ≡ refused f.number f.place
    by Open h None k e = numbered e (walk_none y x s i l (cut-open y s i h) ∙ not_done x o i (refused 4 i))
    by (Ends q) h None k e = numbered e (walk-bad y x s i d (cut-ends y s i h) k ∙ not_done x o i (refused 4 i))
    by (Spoilt q p) h None k e = numbered e (walk-bad y x s i d (cut-spoilt y s i h) k ∙ not_done x o i (refused 4 i))
    by Open h (Some (a, b, c)) k e = numbered e (walk_none y x s i l (cut-open y s i h) ∙ not_done x o i (refused 4 i))
    by (Ends q) h (Some (a, b, c)) k e = unlike e
    by (Spoilt q p) h (Some (a, b, c)) k e =
        let t = walk_turn y x s i d (cut-spoilt y s i h) k in
        numbered e (t.goes ∙ not_done x o i _
        ∙ ap (λ (a : Answer). then a (λ (z : Reading). walk y z (chain y.service false (drop (q + 1) s)) (q + 1))) (turned-three t h (place x t.g)))

-- a segment has a tag and a terminator
pub long-print : (σ : Service) (g : Segment) → 4 ≤ length (print_s σ g)
long-print σ (segment a b c []) = omega arith
long-print σ (segment a b c (e ∷ es)) = omega arith

-- what was seen of a segment
pub record Whole (y : Syntax) (s : List ℕ) (i e : ℕ) (k : Kind) : Type 0 where
  pub cut : cut_at y s i ≡ Ends e
  pub a : ℕ
  pub b : ℕ
  pub c : ℕ
  pub tag : tag_of y.service (drop i s) ≡ Some (a, b, c)
  pub ends : i + 4 ≤ e + 1
  pub inside : e + 1 ≤ length s
  pub kind : k ≡ tag_kind (slice i (i + 3) s)

pub whole : (y : Syntax) → T (fit y.service) → {s : List ℕ} {i e : ℕ} {k : Kind} → looked_at y s i ≡ Ok (e, k) → Whole y s i e k
whole y d {s} {i} {e} {k} h = by (cut_at y s i) refl (tag_of y.service (drop i s)) refl h
  where
    by : (q : Cut) → cut_at y s i ≡ q → (t : Option (ℕ × ℕ × ℕ)) → tag_of y.service (drop i s) ≡ t → seen_by q t i ≡ Ok (e, k) → Whole y s i e k
    by Open h None m n = unlike (sym n)
    by (Ends q) h None m n = unlike (sym n)
    by (Spoilt q p) h None m n = unlike (sym n)
    by Open h (Some (a, b, c)) m n = unlike (sym n)
    by (Spoilt q p) h (Some (a, b, c)) m n = unlike (sym n)
    by (Ends q) h (Some (a, b, c)) m n =
        let t = walk_turn y start s i d (cut-ends y s i h) m in
        let o : ◌≡◌ {A = ℕ × Kind} (q, tag_kind (a ∷ b ∷ c ∷ [])) (e, k) = good-same n in
        let u : q ≡ e = ap (λ z. z.0) o in
        let v : tag_kind (a ∷ b ∷ c ∷ []) ≡ k = ap (λ z. z.1) o in
        let w : 4 ≤ length (print_s y.service t.g) = long-print y.service t.g in
        let z : i + length (print_s y.service t.g) ≡ q + 1 = t.size in
        let g : q < length s = t.high in
        record {
          cut = h ∙ ap Ends u;
          a = a;
          b = b;
          c = c;
          tag = m;
          ends = omega (arith, u, w, z);
          inside = omega (arith, u, g);
          kind = sym v ∙ ap tag_kind (sym (ap (λ (a : Asked). a.tag) t.asked ∙ t.tagged));
        }

-- where it ends
pub record Ending (s : List ℕ) (i e : ℕ) : Type 0 where
  pub far : i + 4 ≤ e + 1
  pub near : e + 1 ≤ length s
  pub fits : e + 1 ≤ 65535

pub ending : (y : Syntax) → T (fit y.service) → (s : List ℕ) (i : ℕ) {e : ℕ} {k : Kind} {r : Result (ℕ × Kind) Breach} → length s ≤ 65535 → r ≡ looked_at y s i → r ≡ Ok (e, k) → Ending s i e
ending y f s i l a b =
    let w = whole y f (sym a ∙ b) in
    let n = w.inside in
    record { far = w.ends; near = n; fits = omega (arith, n, l) }

-- ---- the ways through the loop

never-start : {y : Syntax} {x : Reading} (z : Reading) {g : Segment} → Passed y x g z → state_of z ≡ start_s → ⊥
never-start {x = x} start {g = g} p e = not-nil (shown x) g (shows x g p.placed)
never-start (idle u ms) p e = let z : ◌≡◌ {A = ℕ} 0 1 = cc in omega arith
never-start (busy u ms o) p e = let z : ◌≡◌ {A = ℕ} 0 1 = cc in omega arith
never-start (done u ms w) p e = let z : ◌≡◌ {A = ℕ} 0 1 = cc in omega arith

module _ {y : Syntax} {s : List ℕ} {from : ℕ} {x : State} {h l b : List ℕ} {i : ℕ} (w : Walking y s from x h l b i) where
  stands : {t : Bool} → is_done x.phase ≡ t → over (state_of w.tree) ≡ t
  stands e = ap over w.same ∙ over-in y.service.release s x h l ∙ e

  -- the whole was read
  pub walking-read : length s ≤ i → is_done x.phase ≡ true → ReadAll w
  walking-read k e = by w.tree (stands e) refl
    where
      by : (t : Reading) → over (state_of t) ≡ true → w.tree ≡ t → ReadAll w
      by start a d = absurd (false≢true a)
      by (idle u ms) a d = absurd (false≢true a)
      by (busy u ms o) a d = absurd (false≢true a)
      by (done u ms z) a d = (sym w.goes ∙ walk-over y w.tree s i k ∙ ap (λ (t : Reading). at_end t i) d ∙ ap read (sym d), (u, ms, z, d))

  -- the octets are over, and not all was read; or all is read, and octets are left
  pub walking-short : length s ≤ i → is_done x.phase ≡ false → answer_from y s from ≡ refused 7 i
  walking-short k e = sym w.goes ∙ walk-over y w.tree s i k ∙ by w.tree (stands e)
    where
      by : (t : Reading) → over (state_of t) ≡ false → at_end t i ≡ refused 7 i
      by start a = refl
      by (idle u ms) a = refl
      by (busy u ms o) a = refl
      by (done u ms z) a = absurd (false≢true (sym a))

  pub walking-over : T (fit y.service) → i < length s → is_done x.phase ≡ true → answer_from y s from ≡ refused 7 i
  walking-over f k e =
      let a = some_left y f w.tree s i k in
      sym w.goes ∙ a.1 ∙ when-done w.tree (stands e) i a.0

  module _ (f : T (fit y.service)) (m : is_done x.phase ≡ false) where
    -- no segment, or one outside the repertoire
    pub walking-bad : i < length s → {r : Breach} → looked_at y s i ≡ Err r → answer_from y s from ≡ refused r.number r.place
    walking-bad k e = sym w.goes ∙ bad-look y f w.tree (stands m) s i k e

    module _ {e : ℕ} {k : Kind} (v : looked_at y s i ≡ Ok (e, k)) where
      seen : Whole y s i e k
      seen = whole y f v

      turned : Turned y w.tree s i e seen.a seen.b seen.c
      turned = walk_turn y w.tree s i f (cut-ends y s i seen.cut) seen.tag

      abbrev decision : Answer
      decision = decided (tests y turned.g i (place w.tree turned.g)) (place w.tree turned.g)

      abbrev onward : Reading → Answer
      onward z = walk y z (chain y.service false (drop (e + 1) s)) (e + 1)

      goes_so : answer_from y s from ≡ then decision onward
      goes_so = sym w.goes ∙ turned.goes ∙ not_done w.tree (stands m) i (then decision onward)

      tells : decided_from y.version (state_in y.service.release s x h l) (asked_at y.service s i) i ≡ answer_of decision
      tells =
          ap (λ (a : Asked). decided_from y.version (state_in y.service.release s x h l) a i) turned.asked
          ∙ ap (λ (S : StateS). decided_from y.version S (asked turned.g) i) (sym w.same)
          ∙ sym (follow y w.tree turned.g i w.good ∙ rw (turned-inside turned seen.cut))

      stops : {r : Breach} (h' l' b' : List ℕ)
          → StepIs (decided_from y.version (state_in y.service.release s x h l) (asked_at y.service s i) i) (Err r) y.service.release s h' l' b' (e + 1)
          → answer_from y s from ≡ refused r.number r.place
      stops {r} h' l' b' g =
          by decision goes_so (subst (λ (a : AnswerS). StepIs a (Err r) y.service.release s h' l' b' (e + 1)) tells g)
        where
          by : (d : Answer) → answer_from y s from ≡ then d onward → StepIs (answer_of d) (Err r) y.service.release s h' l' b' (e + 1) → answer_from y s from ≡ refused r.number r.place
          by (read z) q g = absurd g
          by (refused n p) q g = q ∙ rw (g.0, g.1)

      -- the step stops
      pub walking-stop : (r : Result State Breach) {g : Breach} (h' l' b' : List ℕ) → r ≡ Err g
          → StepIs (decided_from y.version (state_in y.service.release s x h l) (asked_at y.service s i) i) r y.service.release s h' l' b' (e + 1)
          → answer_from y s from ≡ refused g.number g.place
      walking-stop r h' l' b' q a =
          stops h' l' b'
          (subst (λ (r : Result State Breach). StepIs (decided_from y.version (state_in y.service.release s x h l) (asked_at y.service s i) i) r y.service.release s h' l' b' (e + 1))
          q a)

      goes_on_lem : {x' : State} {h' l' b' : List ℕ} → length l' ≡ length l
          → StepIs (decided_from y.version (state_in y.service.release s x h l) (asked_at y.service s i) i) (Ok x') y.service.release s h' l' b' (e + 1)
          → Onward w (record { state = x'; next = e + 1; kind = k }) h' l' b'
      goes_on_lem {x'} {h'} {l'} {b'} n g =
          by decision refl goes_so (subst (λ (a : AnswerS). StepIs a (Ok x') y.service.release s h' l' b' (e + 1)) tells g)
        where
          by : (d : Answer) → decision ≡ d → answer_from y s from ≡ then d onward → StepIs (answer_of d) (Ok x') y.service.release s h' l' b' (e + 1)
              → Onward w (record { state = x'; next = e + 1; kind = k }) h' l' b'
          by (refused n p) u q g = absurd g
          by (read z) u q g =
              let a : Passed y w.tree turned.g z = step-passed y w.tree turned.g i u in
              record {
                walks = record {
                  tree = z;
                  good = passed-good w.good a;
                  same = sym g.0;
                  held = g.1;
                  names = let a = w.names in omega (arith, a, n);
                  short = w.short;
                  first = λ n. absurd (never-start z a (sym g.0 ∙ start-in y.service.release s x' h' l' n));
                  goes = sym q;
                  placed = let n = turned.size in let m = w.placed in let k = ap (wide y.service) (shows w.tree turned.g a.placed) in omega (arith, n, m, k);
                };
                g = turned.g;
                passed = a;
                view = turned.asked;
                octets = turned.octets;
                size = turned.size;
                inside = seen.inside;
                kind = seen.kind ∙ ap tag_kind (ap (λ (a : Asked). a.tag) turned.asked);
              }

      -- the step goes on
      pub walking_on : (r : Result State Breach) {x' : State} {h' l' b' : List ℕ} → length l' ≡ length l → r ≡ Ok x'
          → StepIs (decided_from y.version (state_in y.service.release s x h l) (asked_at y.service s i) i) r y.service.release s h' l' b' (e + 1)
          → Onward w (record { state = x'; next = e + 1; kind = k }) h' l' b'
      walking_on r {x'} {h'} {l'} {b'} n q a =
          goes_on_lem n
          (subst (λ (r : Result State Breach). StepIs (decided_from y.version (state_in y.service.release s x h l) (asked_at y.service s i) i) r y.service.release s h' l' b' (e + 1))
          q a)

-- ---- what a caller of a turn has

-- the room for the open message's reference, by the octets
pub room-here : {y : Syntax} {s : List ℕ} {from : ℕ} {x : State} {h l b : List ℕ} {i q : ℕ} → Walking y s from x h l b i → i + 4 ≤ q → q ≤ length s → x.phase ≡ Busy
    → 2 * x.count + 2 ≤ length l
room-here {x = x} {i = i} w d e b =
    let t : 8 * x.count + 4 * x.message.segments ≤ i = subst (λ (p : Phase). 8 * x.count + 4 * open_size p x.message ≤ i) b w.held.taken in
    let k = w.names in
    let n = w.held.begun in
    omega (arith, t, k, n, d, e)

pub going : {y : Syntax} {s : List ℕ} {from : ℕ} {x : State} {h l b m : List ℕ} {i : ℕ} → Walking y s from x h l b i → T (fit y.service) → i < length s
    → is_done x.phase ≡ false → length m ≡ 40 → Going y s x h l b i m
going {from = from} w f n d k = record { fits = f; inside = n; before = d; begun = from; walks = w; marks = k }

module _ {y : Syntax} {s : List ℕ} {from : ℕ} {x : State} {h l b : List ℕ} {i : ℕ} (w : Walking y s from x h l b i) {h' l' b' : List ℕ} where
  pub further : (r : Result Ahead Breach) {a : Ahead} → r ≡ Ok a → AdvancedIs w r h' l' b' → Onward w a h' l' b'
  further r q a = subst (λ (r : Result Ahead Breach). AdvancedIs w r h' l' b') q a

  pub onward-far : {a : Ahead} → Onward w a h' l' b' → i + 4 ≤ a.next
  onward-far o =
      let n = long-print y.service o.g in
      let z = o.size in
      omega (arith, n, z)

module _ {y : Syntax} {s : List ℕ} {from : ℕ} {x : State} {h l b : List ℕ} {i : ℕ} (w : Walking y s from x h l b i) where
  pub halted : (h' l' b' : List ℕ) (r : Result Ahead Breach) {f : Breach} → r ≡ Err f → AdvancedIs w r h' l' b' → answer_from y s from ≡ refused f.number f.place
  halted h' l' b' r q a = subst (λ (r : Result Ahead Breach). AdvancedIs w r h' l' b') q a

-- ---- what was begun

pub begun-fits : (s : List ℕ) {b : Opening} {r : Result Opening Breach} → r ≡ begun_of s → r ≡ Ok b → T (fit b.syntax.service) × (length s ≤ 65535)
begun-fits s {b} e d =
    let a = start-read s b (sym e ∙ d) in
    (a.fits, leb→le (length s) 65535 (and_right (leb 1 (length s)) (leb (length s) 65535) a.lengths))

-- what the verdict is, by the walk from UNB on
pub verdict-by : (s : List ℕ) {b : Opening} {r : Result Opening Breach} {a : Answer} → r ≡ begun_of s → r ≡ Ok b → answer_from b.syntax s b.at ≡ a → verdict_of s ≡ concluded s (una_at s) a
verdict-by s {b} e d q = ap (verdict_by s) (sym e ∙ d) ∙ ap (concluded s (una_at s)) q

-- ---- empty tables

pub fresh-tables : (m k : ℕ) {y : Syntax} {s l b : List ℕ} → m < k → l ≡ replicate {A = ℕ} m 0 → b ≡ replicate {A = ℕ} k 0
    → T (fit y.service) → length s ≤ 65535 → length s ≤ 4 * m → Fresh y s l b
fresh-tables m k {s = s} {l = l} z e d f h n =
    let q : length l ≡ m = ap length e ∙ length-replicate {A = ℕ} m 0 in
    record { fits = f; short = h; room = rw q n; indexed = indexed-none m k z e d }
