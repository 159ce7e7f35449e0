-- Laws of the walk for the F01 run: a message more, a section more, and the end.
use Rattle.syntax.specs.declared.Breach.{Breach}
use Rattle.std.specs.Prelude.{ℕ, ◌+◌, ◌≤◌, Bool, true, false, cond, not, ◌&&◌, List, ◌≡◌, refl, T, length, Result, Option}
use Rattle.std.proofs.Common.{arith, ap, sym, ◌∙◌, subst}
use Rattle.std.proofs.Math.Bool.{and-true, and-false}
use Rattle.std.proofs.Math.Option.{Option as Maybe, none, some}
use Rattle.syntax.specs.Tree.{print_s}
use Rattle.syntax.specs.declared.Service.{Service}
use Rattle.syntax.specs.declared.Syntax.{Syntax}
use Rattle.grammar.specs.Lists.{Snoc, nil, ◌▷◌, ◌+++◌, joined, check, every}
use Rattle.grammar.specs.Segments.{Unb, Unt, seg}
use Rattle.grammar.specs.Interchange.{Leaf, Open, msg, Message, message, Reading, idle, done, shown, show_open, show_message}
use Rattle.grammar.specs.Places.{wide}
use Rattle.grammar.proofs.PlacesLaws.{wide-join}
use Rattle.grammar.specs.TestLaws.{is_true}
use Rattle.grammar.specs.Verdict.{read}
use Rattle.walk.specs.RunLaws.{ReadAll}
use Rattle.walk.specs.Runs.{Fresh, answer_from, Walking, unread_as}
use Rattle.walk.specs.Sections.{autack_o, Stays, begins, ends, breaks, SectionBy, Passing}
use Rattle.walk.specs.SectionLaws.{Looping, looping-start, looping-on, unread-start}
use Rattle.spans.specs.Span.{autack_m, Parted, parted, joined_by, parted_of, other, run_right, Span, span, span_by}
use Rattle.spans.specs.SpanLaws.{PartsOf, parts}
use Rattle.spans.specs.Spanning.{sofar_by, sofar_at, step_of, section_of, start_of, end_of, told_as, WholeBy, SpanIs}
use Rattle.walk.specs.declared.sections.Section.{Section}
use Rattle.turns.specs.declared.state.State.{State}
use Rattle.spans.specs.declared.span.Run.{Run}
use Rattle.spans.specs.declared.span.Sofar.{Sofar}
use Rattle.spans.specs.declared.span.Sofar.TheVariants.{Before, Inside, Behind, Broken}

-- ---- whether a run is right, with a message more

-- a message that is no AUTACK leaves the run as right as it was
right-more : (r : Snoc Message) (x m : Message) → autack_m m ≡ false → run_right (r ▷ x ▷ m) ≡ run_right (r ▷ x)
right-more r x m e = ap (λ (b : Bool). check (every other (r ▷ x)) && not b) e ∙ and-true (check (every other (r ▷ x)))

-- an AUTACK drawn into it breaks it
right-broken : (r : Snoc Message) (n m : Message) → T (autack_m n) → run_right (r ▷ n ▷ m) ≡ false
right-broken r n m t = ap (λ (b : Bool). check (every other r) && not b && not (autack_m m)) (is_true (autack_m n) t) ∙ ap (λ (b : Bool). b && not (autack_m m)) (and-false (check (every other r)))

-- ---- what is kept, with a message more

module _ (x : Run) (p e : ℕ) where
  kept-behind : (g : Bool) → cond g (Behind x) Broken ≡ step_of (cond g (Inside x) Broken) true p e
  kept-behind true = refl
  kept-behind false = refl

  kept-still : (g : Bool) → cond g (Behind x) Broken ≡ step_of (cond g (Behind x) Broken) true p e
  kept-still true = refl
  kept-still false = refl

  kept-inside : (g : Bool) → cond g (Inside (record { start = x.start; end = e })) Broken ≡ step_of (cond g (Inside x) Broken) false p e
  kept-inside true = refl
  kept-inside false = refl

  kept-broken : (g : Bool) → Broken ≡ step_of (cond g (Behind x) Broken) false p e
  kept-broken true = refl
  kept-broken false = refl

-- what it tells of the run
abbrev span_of : Sofar → Maybe Span
span_of Before = none
span_of (Inside x) = some (span x.start x.end)
span_of (Behind x) = some (span x.start x.end)
span_of Broken = none

module _ (σ : Service) (p : ℕ) (u : Leaf) where
  -- the place behind the messages
  abbrev behind_at : Snoc Message → ℕ
  behind_at ms = p + wide σ (shown (idle u ms))

  abbrev run_of : Snoc Message → Snoc Message → Run
  run_of b r = record { start = behind_at b; end = behind_at (b +++ r) }

  sofar-on : (ms : Snoc Message) (m : Message) (q : Parted) → PartsOf ms q → sofar_by σ p u (joined_by q m) ≡ step_of (sofar_by σ p u q) (autack_m m) (behind_at ms) (behind_at (ms ▷ m))
  sofar-on ms m (parted b nil a) h = by (autack_m m) refl
    where
      before : b ≡ ms
      before = sym (h.whole ∙ ap (λ (s : Snoc Message). b +++ s) (h.alone refl))

      by : (c : Bool) → autack_m m ≡ c → sofar_by σ p u (cond c (parted (b ▷ m) nil nil) (parted b (nil ▷ m) nil)) ≡ step_of Before c (behind_at ms) (behind_at (ms ▷ m))
      by true e = refl
      by false e =
          ap (λ (g : Bool). cond (not g) (Inside (run_of b (nil ▷ m))) Broken) e
          ∙ ap (λ (s : Snoc Message). Inside (record { start = behind_at s; end = behind_at (s ▷ m) })) before
  sofar-on ms m (parted b (r ▷ x) nil) h = by (autack_m m) refl
    where
      by : (c : Bool) → autack_m m ≡ c
          → sofar_by σ p u (cond c (parted b (r ▷ x) (nil ▷ m)) (parted b (r ▷ x ▷ m) nil)) ≡ step_of (sofar_by σ p u (parted b (r ▷ x) nil)) c (behind_at ms) (behind_at (ms ▷ m))
      by true e = kept-behind (run_of b (r ▷ x)) (behind_at ms) (behind_at (ms ▷ m)) (run_right (r ▷ x))
      by false e =
          ap (λ (g : Bool). cond g (Inside (run_of b (r ▷ x ▷ m))) Broken) (right-more r x m e)
          ∙ ap (λ (s : Snoc Message). cond (run_right (r ▷ x)) (Inside (record { start = behind_at b; end = behind_at (s ▷ m) })) Broken) (sym h.whole)
          ∙ kept-inside (run_of b (r ▷ x)) (behind_at ms) (behind_at (ms ▷ m)) (run_right (r ▷ x))
  sofar-on ms m (parted b (r ▷ x) (a ▷ n)) h = by (autack_m m) refl
    where
      by : (c : Bool) → autack_m m ≡ c
          → sofar_by σ p u (cond c (parted b (r ▷ x) (a ▷ n ▷ m)) (parted b (r ▷ x +++ (a ▷ n) ▷ m) nil))
          ≡ step_of (sofar_by σ p u (parted b (r ▷ x) (a ▷ n))) c (behind_at ms) (behind_at (ms ▷ m))
      by true e = kept-still (run_of b (r ▷ x)) (behind_at ms) (behind_at (ms ▷ m)) (run_right (r ▷ x))
      by false e =
          ap (λ (g : Bool). cond g (Inside (run_of b (r ▷ x +++ (a ▷ n) ▷ m))) Broken) (right-broken (r ▷ x +++ a) n m h.behind.1)
          ∙ kept-broken (run_of b (r ▷ x)) (behind_at ms) (behind_at (ms ▷ m)) (run_right (r ▷ x))

  span-so : (q : Parted) → span_by σ p u q ≡ span_of (sofar_by σ p u q)
  span-so (parted b nil a) = refl
  span-so (parted b (r ▷ x) nil) = by (run_right (r ▷ x))
    where
      by : (g : Bool) → cond g (some (span (behind_at b) (behind_at (b +++ (r ▷ x))))) none ≡ span_of (cond g (Inside (run_of b (r ▷ x))) Broken)
      by true = refl
      by false = refl
  span-so (parted b (r ▷ x) (a ▷ n)) = by (run_right (r ▷ x))
    where
      by : (g : Bool) → cond g (some (span (behind_at b) (behind_at (b +++ (r ▷ x))))) none ≡ span_of (cond g (Behind (run_of b (r ▷ x))) Broken)
      by true = refl
      by false = refl

  -- the octets of messages behind others
  idle-wide : (b r : Snoc Message) → wide σ (shown (idle u (b +++ r))) ≡ wide σ (shown (idle u b)) + wide σ (joined show_message r)
  idle-wide b nil = omega arith
  idle-wide b (r ▷ m) =
      let e = idle-wide b r in
      let c = wide-join σ (nil ▷ seg Unb u) (joined show_message (b +++ r) +++ show_message m) in
      let d = wide-join σ (joined show_message (b +++ r)) (show_message m) in
      let f = wide-join σ (nil ▷ seg Unb u) (joined show_message (b +++ r)) in
      let g = wide-join σ (joined show_message r) (show_message m) in
      omega (arith, e, c, d, f, g)

  -- it starts before it ends
  in_order_lem : (q : Parted) → start_of (sofar_by σ p u q) ≤ end_of (sofar_by σ p u q)
  in_order_lem (parted b nil a) = omega arith
  in_order_lem (parted b (r ▷ x) nil) = by (run_right (r ▷ x))
    where
      by : (g : Bool) → start_of (cond g (Inside (run_of b (r ▷ x))) Broken) ≤ end_of (cond g (Inside (run_of b (r ▷ x))) Broken)
      by true = let e = idle-wide b (r ▷ x) in omega (arith, e)
      by false = omega arith
  in_order_lem (parted b (r ▷ x) (a ▷ n)) = by (run_right (r ▷ x))
    where
      by : (g : Bool) → start_of (cond g (Behind (run_of b (r ▷ x))) Broken) ≤ end_of (cond g (Behind (run_of b (r ▷ x))) Broken)
      by true = let e = idle-wide b (r ▷ x) in omega (arith, e)
      by false = omega arith

-- ---- a section more

stays-sofar : (σ : Service) (p : ℕ) {x z : Reading} → Stays x z → sofar_at σ p z ≡ sofar_at σ p x
stays-sofar σ p (begins u) = refl
stays-sofar σ p (ends u ms z) = refl
stays-sofar σ p (breaks u ms o) = refl

autack-closed : (o : Open) (t : Leaf) → autack_m (message o t) ≡ autack_o o
autack-closed (msg h hs b ts) t = refl

-- where a message ends that stands behind others
closed-wide : (σ : Service) (u : Leaf) (ms : Snoc Message) (o : Open) (t : Leaf)
    → wide σ (shown (idle u (ms ▷ message o t))) ≡ wide σ (shown (idle u ms)) + wide σ (show_open o) + length (print_s σ (seg Unt t))
closed-wide σ u ms o t =
    let a = wide-join σ (nil ▷ seg Unb u) (joined show_message ms +++ show_message (message o t)) in
    let b = wide-join σ (joined show_message ms) (show_message (message o t)) in
    let c = wide-join σ (nil ▷ seg Unb u) (joined show_message ms) in
    omega (arith, a, b, c)

ends-within : (k : Sofar) (a : Bool) (p e n : ℕ) → end_of k ≤ n → e ≤ n → end_of (step_of k a p e) ≤ n
ends-within Before true p e n h l = h
ends-within Before false p e n h l = l
ends-within (Inside x) true p e n h l = h
ends-within (Inside x) false p e n h l = l
ends-within (Behind x) true p e n h l = h
ends-within (Behind x) false p e n h l = omega arith
ends-within Broken a p e n h l = h

module _ {y : Syntax} {s : List ℕ} {from : ℕ} {x : State} {h l b : List ℕ} {i : ℕ} (w : Walking y s from x h l b i) {c : Section} {h' l' b' rows : List ℕ} (g : Passing w c h' l' b' rows)
    (k : Sofar) where
  -- it is kept of what was read with the section
  keeps_on : k ≡ sofar_at y.service from w.tree → section_of k c.closed c.layout ≡ sofar_at y.service from g.walks.tree
  keeps_on q = by c.closed g.by
    where
      by : (f : Bool) → SectionBy f y s i w.tree g.walks.tree c.layout rows → section_of k f c.layout ≡ sofar_at y.service from g.walks.tree
      by false v = q ∙ sym (stays-sofar y.service from v)
      by true v =
          let u = v.0 in
          let ms = v.1 in
          let o = v.2 in
          let t = v.3 in
          let e = v.4.0 in
          let z = v.4.1 in
          let a = v.4.2 in
          let n = w.placed ∙ ap (λ (r : Reading). from + wide y.service (shown r)) e in
          let d : c.layout.autack ≡ autack_m (message o t) = a.autack ∙ sym (autack-closed o t) in
          let f : c.layout.unh ≡ from + wide y.service (shown (idle u ms)) = a.unh ∙ n in
          let j : c.layout.end ≡ from + wide y.service (shown (idle u (ms ▷ message o t))) =
          let a1 = a.end in
          let a2 = a.unt in
          let a3 = closed-wide y.service u ms o t in
          omega (arith, n, a1, a2, a3) in
          let m : k ≡ sofar_by y.service from u (parted_of ms) = q ∙ ap (sofar_at y.service from) e in
          rw (d, f, j, m) (sym (sofar-on y.service from u ms (message o t) (parted_of ms) (parts ms)) ∙ ap (sofar_at y.service from) (sym z))

  -- and ends within the octets
  keeps-within : end_of k ≤ length s → end_of (section_of k c.closed c.layout) ≤ length s
  keeps-within n = by c.closed g.by
    where
      by : (f : Bool) → SectionBy f y s i w.tree g.walks.tree c.layout rows → end_of (section_of k f c.layout) ≤ length s
      by false v = n
      by true v = ends-within k c.layout.autack c.layout.unh c.layout.end (length s) n v.4.2.inside

-- ---- the walk: what holds at its head

pub record Spanning (y : Syntax) (s : List ℕ) (from : ℕ) (x : State) (h l b : List ℕ) (i : ℕ) (m rows l₀ b₀ : List ℕ) (k : Sofar) : Type 0 where
  pub looping : Looping y s from x h l b i m rows l₀ b₀
  pub keeps : k ≡ sofar_at y.service from looping.walks.tree
  pub within : end_of k ≤ length s

-- nothing was read yet
pub spanning-start : {y : Syntax} {s : List ℕ} {from : ℕ} {x : State} {h l b m rows : List ℕ} → Fresh y s l b → (length m ≡ 40) × (length h ≡ 36) × (length rows ≡ 18) → x ≡ unread_as
    → Spanning y s from x h l b from m rows l b Before
spanning-start {y} {from = from} f n e =
    let g = looping-start f n e in
    record { looping = g; keeps = sym (ap (sofar_at y.service from) (unread-start g.walks e)); within = omega arith }

pub spanning-on : {y : Syntax} {s : List ℕ} {from : ℕ} {x : State} {h l b : List ℕ} {i : ℕ} {m rows l₀ b₀ : List ℕ} {k : Sofar} (g : Spanning y s from x h l b i m rows l₀ b₀ k)
    {c : Section} {h' l' b' m' rows' : List ℕ} {k' : Sofar} → Passing g.looping.walks c h' l' b' rows' → length m' ≡ 40 → length l' ≡ length l → length b' ≡ length b
    → k' ≡ section_of k c.closed c.layout → Spanning y s from c.state h' l' b' c.next m' rows' l₀ b₀ k'
spanning-on {s = s} {k = k} g p n a d e = record {
  looping = looping-on g.looping p n a d;
  keeps = e ∙ keeps_on g.looping.walks p k g.keeps;
  within = subst (λ (k : Sofar). end_of k ≤ length s) (sym e) (keeps-within g.looping.walks p k g.within);
}

-- ---- the end

module _ (y : Syntax) (s : List ℕ) (p : ℕ) (u : Leaf) (ms : Snoc Message) (z : Leaf) (a : answer_from y s p ≡ read (done u ms z)) where
  tells : {k : Sofar} → k ≡ sofar_by y.service p u (parted_of ms) → WholeBy y s p (span_of k)
  tells q = (u, ms, z, (a, span-so y.service p u (parted_of ms) ∙ ap span_of (sym q)))

  ordered : {k : Sofar} → k ≡ sofar_by y.service p u (parted_of ms) → start_of k ≤ end_of k
  ordered q = subst (λ (k : Sofar). start_of k ≤ end_of k) (sym q) (in_order_lem y.service p u (parted_of ms))

  span-of : (k : Sofar) → k ≡ sofar_by y.service p u (parted_of ms) → end_of k ≤ length s → SpanIs y s p (told_as k)
  span-of Before q n = tells q
  span-of (Inside x) q n = (tells q, ordered q, n)
  span-of (Behind x) q n = (tells q, ordered q, n)
  span-of Broken q n = tells q

-- all was read
pub span-told : {y : Syntax} {s : List ℕ} {from : ℕ} {x : State} {h l b : List ℕ} {i : ℕ} {m rows l₀ b₀ : List ℕ} {k : Sofar} (g : Spanning y s from x h l b i m rows l₀ b₀ k)
    → ReadAll g.looping.walks → {f : Result (Option Run) Breach} → f ≡ told_as k → SpanIs y s from f
span-told {y} {s} {from} {k = k} g a e =
    let t = a.1 in
    subst (λ (f : Result (Option Run) Breach). SpanIs y s from f) (sym e)
    (span-of y s from t.0 t.1 t.2 (a.0 ∙ ap read t.3) k (g.keeps ∙ ap (sofar_at y.service from) t.3) g.within)
