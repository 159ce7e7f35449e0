-- The loop over the segments of a section: what holds at its head, and one law for each way through it.
use Rattle.syntax.specs.declared.Breach.{Breach}
use Rattle.walk.specs.declared.sections.Section.{Section}
use Rattle.std.specs.Prelude.{ℕ, ◌-◌, ◌≤◌, ◌<◌, ◌≡◌, refl, Bool, true, false, List, T, length, take, Result, Ok, Some, None, Err, Option}
use Rattle.std.proofs.Common.{arith, ap, sym, ◌∙◌, subst, take_all}
use Rattle.std.proofs.lemmas.Bool.{false≢true}
use Rattle.syntax.specs.Service.{fit}
use Rattle.syntax.specs.declared.Syntax.{Syntax}
use Rattle.message.specs.declared.Group.{Group}
use Rattle.message.specs.declared.Group.TheVariants.{Opened as Fresh}
use Rattle.turns.specs.declared.state.Phase.{Phase}
use Rattle.turns.specs.declared.state.Phase.TheVariants.{Start, Idle, Busy, Done}
use Rattle.turns.specs.declared.state.State.{State}
use Rattle.turns.specs.declared.state.Ahead.{Ahead}
use Rattle.walk.specs.Layout.{spot_step, row_step, RowRoom}
use Rattle.walk.specs.RunLaws.{going, onward-far, walking-read, walking-short, walking-over}
use Rattle.walk.specs.Runs.{Onward}
use Rattle.walk.specs.Runs.{is_done, is_busy, Walking, Going}
use Rattle.walk.specs.Sections.{laid_out, passed_as, left_open, misplaced_as, ended_as, Starting, UntIs, SectionIs, Between, ReachedIs}
use Rattle.walk.specs.SectionLaws.{Since, row_room, within_on, within-close, section-open, section-other, section-closed}
use Rattle.walk.specs.declared.layout.Spots.{Spots}

-- nothing of the section was read, or the message that its first segment opened is still open
pub data SoFar (y : Syntax) (s : List ℕ) (x₀ : State) (h₀ l₀ b₀ : List ℕ) (i₀ : ℕ) : State → List ℕ → List ℕ → List ℕ → ℕ → Spots → List ℕ → Type 0 where
  ahead : {q : Spots} {rows : List ℕ} → SoFar y s x₀ h₀ l₀ b₀ i₀ x₀ h₀ l₀ b₀ i₀ q rows
  inside : {x : State} {h l b : List ℕ} {i : ℕ} {q : Spots} {rows : List ℕ} → is_busy x.phase ≡ true
      → ((from : ℕ) (w : Walking y s from x₀ h₀ l₀ b₀ i₀) → Since w x h l b i q rows) → SoFar y s x₀ h₀ l₀ b₀ i₀ x h l b i q rows

pub record Sectioning (y : Syntax) (s : List ℕ) (x₀ : State) (h₀ l₀ b₀ : List ℕ) (i₀ : ℕ) (x : State) (h l b : List ℕ) (i : ℕ) (q : Spots) (rows m : List ℕ) : Type 0 where
  pub so : SoFar y s x₀ h₀ l₀ b₀ i₀ x h l b i q rows
  pub marks : length m ≡ 40
  pub room : length rows ≡ 18
  pub names : length l ≡ length l₀
  pub slots : length b ≡ length b₀

busy-before : (p : Phase) → is_busy p ≡ true → is_done p ≡ false
busy-before Start e = refl
busy-before Idle e = refl
busy-before Busy e = refl
busy-before Done e = absurd (false≢true e)

-- the walk up to here
pub walks-so : {y : Syntax} {s : List ℕ} {x₀ : State} {h₀ l₀ b₀ : List ℕ} {i₀ : ℕ} {x : State} {h l b : List ℕ} {i : ℕ} {q : Spots} {rows : List ℕ}
    → SoFar y s x₀ h₀ l₀ b₀ i₀ x h l b i q rows → (from : ℕ) → Walking y s from x₀ h₀ l₀ b₀ i₀ → Walking y s from x h l b i
walks-so ahead from w = w
walks-so (inside t k) from w = (k from w).within.walks

module _ {y : Syntax} {s : List ℕ} {x₀ : State} {h₀ l₀ b₀ : List ℕ} {i₀ : ℕ} {rows₀ m₀ : List ℕ} (g : Starting y s x₀ h₀ l₀ b₀ i₀ rows₀ m₀) where
  before-so : {x : State} {h l b : List ℕ} {i : ℕ} {q : Spots} {rows : List ℕ} → SoFar y s x₀ h₀ l₀ b₀ i₀ x h l b i q rows → is_done x.phase ≡ false
  before-so ahead = g.before
  before-so {x} (inside t k) = busy-before x.phase t

  module _ {x : State} {h l b : List ℕ} {i : ℕ} {q : Spots} {rows : List ℕ} (d : SoFar y s x₀ h₀ l₀ b₀ i₀ x h l b i q rows) where
    -- all that a turn needs
    pub going-so : i < length s → {m : List ℕ} → length m ≡ 40 → Going y s x h l b i m
    going-so k n = going (walks-so d g.from g.walks) g.fits k (before-so d) n

    pub short-so : i < length s → i < 65536
    short-so k = let a = (walks-so d g.from g.walks).short in omega (arith, a, k)

    pub headers-so : x.message.headers ≤ 9
    headers-so = (walks-so d g.from g.walks).held.roomy.headers

  -- a segment further
  module _ {a : Ahead} {h' l' b' : List ℕ} where
    -- the first segment opens a message
    first_group : ((from : ℕ) (w : Walking y s from x₀ h₀ l₀ b₀ i₀) → Onward w a h' l' b') → is_busy a.state.phase ≡ true → Spots → a.state.message.group ≡ Fresh
    first_group f t q = (section-open g.walks g.between (f g.from g.walks) t {rows = rows₀} g.room {q = spot_step Fresh q i₀ a.next} (λ r. refl)).0

    first_rows : (q : Spots) (rows : List ℕ) {rows' : List ℕ} → ((from : ℕ) (w : Walking y s from x₀ h₀ l₀ b₀ i₀) → Onward w a h' l' b') → is_busy a.state.phase ≡ true → length rows ≡ 18
        → rows' ≡ row_step a.state.message.group rows a.state.message.headers q.trailers i₀ → length rows' ≡ 18
    first_rows q rows f t n e = ap length (e ∙ ap (λ (z : Group). row_step z rows a.state.message.headers q.trailers i₀) (first_group f t q)) ∙ n

    pub room-so : {x : State} {h l b : List ℕ} {i : ℕ} {q : Spots} {rows : List ℕ} → SoFar y s x₀ h₀ l₀ b₀ i₀ x h l b i q rows
        → ((from : ℕ) (w : Walking y s from x h l b i) → Onward w a h' l' b') → is_busy a.state.phase ≡ true → length rows ≡ 18
        → RowRoom a.state.message.group a.state.message.headers q.trailers
    room-so {q = q} ahead f t n = rw (first_group f t q) tt
    room-so (inside e k) f t n = let v = (k g.from g.walks).within in row_room v (f g.from v.walks) t

    module _ {q' : Spots} {rows' : List ℕ} where
      pub rows-so : {x : State} {h l b : List ℕ} {i : ℕ} {q : Spots} {rows : List ℕ} → SoFar y s x₀ h₀ l₀ b₀ i₀ x h l b i q rows
          → ((from : ℕ) (w : Walking y s from x h l b i) → Onward w a h' l' b') → is_busy a.state.phase ≡ true → length rows ≡ 18
          → q' ≡ spot_step a.state.message.group q i a.next → rows' ≡ row_step a.state.message.group rows a.state.message.headers q.trailers i
          → length rows' ≡ 18
      rows-so {q = q} {rows = rows} ahead f t n c e = first_rows q rows f t n e
      rows-so (inside z k) f t n c e = let v = (k g.from g.walks).within in (within_on v (f g.from v.walks) t c e).starts.long

      pub on-so : {x : State} {h l b : List ℕ} {i : ℕ} {q : Spots} {rows : List ℕ} → SoFar y s x₀ h₀ l₀ b₀ i₀ x h l b i q rows
          → ((from : ℕ) (w : Walking y s from x h l b i) → Onward w a h' l' b') → is_busy a.state.phase ≡ true → length rows ≡ 18
          → q' ≡ spot_step a.state.message.group q i a.next → rows' ≡ row_step a.state.message.group rows a.state.message.headers q.trailers i
          → SoFar y s x₀ h₀ l₀ b₀ i₀ a.state h' l' b' a.next q' rows'
      on-so {q = q} {rows = rows} ahead f t n c e =
          inside t
          (λ from w. (section-open w g.between (f from w) t (first_rows q rows f t n e)
          (λ r. c ∙ ap (λ (z : Group). spot_step z q i₀ a.next) (first_group f t q))).1)
      on-so (inside z k) f t n c e =
          inside t
          (λ from w. let v = k from w in
          record { u = v.u; ms = v.ms; tree = v.tree; within = within_on v.within (f from v.within.walks) t c e })

    -- no message is open behind the segment
    pub close-so : {x : State} {h l b : List ℕ} {i : ℕ} {q : Spots} {rows : List ℕ} → SoFar y s x₀ h₀ l₀ b₀ i₀ x h l b i q rows
        → ((from : ℕ) (w : Walking y s from x h l b i) → Onward w a h' l' b') → is_busy a.state.phase ≡ false → length rows ≡ 18
        → {r : Result (Option Section) Breach} → r ≡ passed_as x q i a → (from : ℕ) (w : Walking y s from x₀ h₀ l₀ b₀ i₀) → SectionIs w r h' l' b' rows
    close-so {q = q} {rows = rows} ahead f t n e from w =
        subst (λ (k : Result (Option Section) Breach). SectionIs w k h' l' b' rows)
        (sym (e ∙ ap (λ (k : Bool). Ok (Some (record { state = a.state; next = a.next; closed = k; layout = laid_out x₀ q i₀ a.next }))) g.between))
        (record {
          walks = (f from w).walks;
          far = let o = onward-far w (f from w) in omega (arith, o);
          long = n;
          by = section-other w g.between (f from w) t;
          between = λ k. absurd (false≢true (sym t ∙ k));
        })
    close-so {x = x} {i = i} {q = q} {rows = rows} (inside v k) f t n {r} e from w =
        let u = k from w in
        section-closed w u.tree h' l' b' rows r
        (subst (λ (k : Result (Option Section) Breach). UntIs y s from i₀ u.u u.ms k h' l' b' rows)
        (sym (e ∙ ap (λ (k : Bool). Ok (Some (record { state = a.state; next = a.next; closed = k; layout = laid_out x q i a.next }))) v))
        (record { walks = (f from u.within.walks).walks; long = n; by = within-close u.within (f from u.within.walks) t refl 0 }))

  -- the octets are over
  pub end-so : {x : State} {h l b : List ℕ} {i : ℕ} {q : Spots} {rows : List ℕ} → SoFar y s x₀ h₀ l₀ b₀ i₀ x h l b i q rows → length s ≤ i → length rows ≡ 18
      → {r : Result (Option Section) Breach} → r ≡ left_open x q i → (from : ℕ) (w : Walking y s from x₀ h₀ l₀ b₀ i₀) → SectionIs w r h l b rows
  end-so ahead z n e from w = let o = g.left in absurd (omega (arith, o, z))
  end-so {h = h} {l = l} {b = b} {rows = rows} (inside v k) z n {r = r} e from w =
      let u = k from w in
      section-closed w u.tree h l b rows r
      (subst (λ (k : Result (Option Section) Breach). UntIs y s from i₀ u.u u.ms k h l b rows) (sym e)
      (record { walks = u.within.walks; long = n; by = (u.within.o, (u.within.tree, z)) }))

-- ---- a slice of all the octets holds the octets

whole : (s : List ℕ) → take (length s - 0) s ≡ s
whole s = take_all (length s - 0) s (omega arith)

starting : {y : Syntax} {s : List ℕ} {x : State} {h l b : List ℕ} {i : ℕ} {rows m : List ℕ} → Between y s x h l b i rows m → i < length s → is_done x.phase ≡ false
    → Starting y s x h l b i rows m
starting {s = s} {x = x} {i = i} g k d =
    record { fits = g.fits; left = k; before = d; between = by (is_busy x.phase) refl; from = g.from; walks = g.walks; room = g.room; marks = g.marks }
  where
    by : (c : Bool) → is_busy x.phase ≡ c → is_busy x.phase ≡ false
    by true e = let n = g.between e in absurd (omega (arith, n, k))
    by false e = e

pub starting-whole : {y : Syntax} {s : List ℕ} {x : State} {h l b : List ℕ} {i : ℕ} {rows m : List ℕ} → Between y s x h l b i rows m → i < length s → is_done x.phase ≡ false
    → Starting y (take (length s - 0) s) x h l b i rows m
starting-whole {y} {s} {x} {h} {l} {b} {i} {rows} {m} g k d = subst (λ (z : List ℕ). Starting y z x h l b i rows m) (sym (whole s)) (starting g k d)

module _ (y : Syntax) (s : List ℕ) (x : State) (h l b : List ℕ) (i : ℕ) (r : Result (Option Section) Breach) (h' l' b' rows : List ℕ) where
  -- a section that is reached
  pub section-whole : i < length s → ((from : ℕ) (w : Walking y (take (length s - 0) s) from x h l b i) → SectionIs w r h' l' b' rows)
      → (from : ℕ) (w : Walking y s from x h l b i) → ReachedIs w r h' l' b' rows
  section-whole k f from w = by r (subst (λ (z : List ℕ). (from : ℕ) (w : Walking y z from x h l b i) → SectionIs w r h' l' b' rows) (whole s) f from w)
    where
      by : (r : Result (Option Section) Breach) → SectionIs w r h' l' b' rows → ReachedIs w r h' l' b' rows
      by (Ok (Some c)) q = (k, q)
      by (Ok None) q = absurd q
      by (Err f) q = q

-- ---- the end

pub ended-short : {d : Bool} {r : Result (Option Section) Breach} {i : ℕ} → d ≡ false → r ≡ misplaced_as i → r ≡ ended_as d i
ended-short {i = i} e q = q ∙ sym (ap (λ (d : Bool). ended_as d i) e)

module _ (y : Syntax) (s : List ℕ) (x : State) (h l b : List ℕ) (i : ℕ) (r : Result (Option Section) Breach) (h' l' b' rows : List ℕ) where
  -- the octets are over
  pub section-ended : length s ≤ i → {d : Bool} → d ≡ is_done x.phase → r ≡ ended_as d i → (from : ℕ) (w : Walking y s from x h l b i) → ReachedIs w r h' l' b' rows
  section-ended k {d} e q from w = subst (λ (r : Result (Option Section) Breach). ReachedIs w r h' l' b' rows) (sym q) (by d e)
    where
      by : (d : Bool) → d ≡ is_done x.phase → ReachedIs w (ended_as d i) h' l' b' rows
      by true e = walking-read w k (sym e)
      by false e = walking-short w k (sym e)

  -- octets behind UNZ
  pub section-behind : T (fit y.service) → i < length s → is_done x.phase ≡ true → r ≡ misplaced_as i → (from : ℕ) (w : Walking y s from x h l b i) → ReachedIs w r h' l' b' rows
  section-behind f k e q from w = subst (λ (r : Result (Option Section) Breach). ReachedIs w r h' l' b' rows) (sym q) (walking-over w f k e)
