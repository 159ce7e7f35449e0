-- Laws of the walk that lays the report: a section more, the end; and of the call.
use Rattle.std.specs.Prelude.{ℕ, ◌+◌, ◌*◌, ◌≤◌, ◌<◌, Bool, true, false, List, ◌++◌, ◌≡◌, refl, T, ltb, length, Result, Ok, Err}
use Rattle.std.proofs.Common.{arith, append-nil, ap, sym, ◌∙◌, subst, lt-ltb, le-ltb}
use Rattle.syntax.specs.Service.{fit}
use Rattle.syntax.specs.Opening.{begun_of}
use Rattle.syntax.specs.Refusals.{refusal_at}
use Rattle.syntax.specs.declared.Breach.{Breach}
use Rattle.syntax.specs.declared.Refusal.{Refusal}
use Rattle.refusals.specs.Refused.{refused-so}
use Rattle.syntax.specs.declared.Service.{Service}
use Rattle.syntax.specs.declared.Syntax.{Syntax}
use Rattle.syntax.specs.declared.opening.Start.{Start}
use Rattle.grammar.specs.Lists.{Snoc, nil, ◌▷◌, ◌+++◌, joined}
use Rattle.grammar.specs.Segments.{Unb, Unz, seg, element_content, Asked}
use Rattle.grammar.specs.Interchange.{Leaf, Message, message, Reading, idle, done, shown, show_open, show_message}
use Rattle.grammar.specs.Places.{wide}
use Rattle.grammar.proofs.PlacingLaws.{regroup}
use Rattle.grammar.specs.Running.{Good}
use Rattle.grammar.specs.Valid.{Interchange, interchange, opening_in}
use Rattle.grammar.specs.Verdict.{read, accepted, refused_with, verdict_of, verdict_by, una_at}
use Rattle.turns.specs.declared.state.State.{State}
use Rattle.walk.specs.RunLaws.{ReadAll, verdict-by}
use Rattle.walk.specs.Runs.{Fresh, answer_from, Walking, unread_as}
use Rattle.walk.specs.Sections.{Stays, begins, ends, breaks, SectionBy, Passing}
use Rattle.walk.specs.SectionLaws.{Looping, looping-start, looping-on, unread-start}
use Rattle.walk.specs.declared.sections.Section.{Section}
use Rattle.groups.specs.Stand.{Stand}
use Rattle.groups.specs.StandLaws.{stand-front, stand-back, stand-asked}
use Rattle.walk.specs.declared.sections.Layout.{Layout}
use Rattle.groups.specs.Groups.{name_at}
use Rattle.groups.specs.CallsLaws.{begins as begun-so}
use Rattle.writing.specs.Laid.{Laid}
use Rattle.writing.specs.LaidLaws.{laid_same, laid-length, laid-all, laid-front, laid_more, laid_none}
use Rattle.writing.specs.Written.{refused_as, told_written}
use Rattle.writing.specs.WrittenLaws.{told-by}
use Rattle.lines.specs.Words.{accepted_line, refusal_line, line_words}
use Rattle.listing.specs.Listing.{message_of, accepted_of, listing_by, listing_of, listed_as, left_in, Lists}
use Rattle.lines.specs.Seals.{Near, seals_at}
use Rattle.listing.specs.Laying.{section_at, messages_read, LaysAll}
use Rattle.listing.specs.LayingLaws.{near-laid, section-lines}

-- ---- the lines of a section

module _ (σ : Service) (s rows : List ℕ) (c : Layout) {d : Bool} {out : List ℕ} {at : ℕ} where
  pub section-closed : {p : ℕ} {out₁ : List ℕ} {r : ℕ} {out' : List ℕ} → d ≡ true → Laid out at (line_words (name_at σ s c.unh 1) (name_at σ s c.unh 2) c.loads c.below c.grams) p out₁
      → Laid out₁ p (seals_at σ s rows c c.headers c.body) r out' → Laid out at (section_at σ s rows c d) r out'
  section-closed e g h = laid_same (ap (section_at σ s rows c) (sym e)) (laid_more g h)

  pub section-other : d ≡ false → Laid out at (section_at σ s rows c d) at out
  section-other e = laid_same (ap (section_at σ s rows c) (sym e)) laid_none

-- ---- what stands in the octets with a section more

module _ (σ : Service) (s : List ℕ) (p : ℕ) where
  stays-stand : {x z : Reading} → Stays x z → Stand σ s p (shown z) → Stand σ s p (shown x)
  stays-stand (begins u) w = stand-front σ s p nil (nil ▷ seg Unb u) w
  stays-stand (ends u ms z) w = stand-front σ s p (shown (idle u ms)) (nil ▷ seg Unz z) w
  stays-stand (breaks u ms o) w = stand-front σ s p (shown (idle u ms)) (show_open o) w

  stays-read : {x z : Reading} → Stays x z → messages_read σ p x ≡ messages_read σ p z
  stays-read (begins u) = refl
  stays-read (ends u ms z) = refl
  stays-read (breaks u ms o) = refl

  last-stands : (u : Leaf) (ms : Snoc Message) (m : Message) → Stand σ s p (shown (idle u (ms ▷ m))) → Stand σ s p (shown (idle u ms) +++ show_message m)
  last-stands u ms m w = subst (Stand σ s p) (regroup (nil ▷ seg Unb u) (joined show_message ms) (show_message m)) w

-- ---- the walk: what holds at its head

-- behind the first line, of which out₀ and p₀ are left, the lines of what was read are laid
pub record Reporting (y : Syntax) (s : List ℕ) (from : ℕ) (x : State) (h l b : List ℕ) (i : ℕ) (m rows l₀ b₀ out₀ : List ℕ) (p₀ : ℕ) (out : List ℕ) (p : ℕ) : Type 0 where
  pub looping : Looping y s from x h l b i m rows l₀ b₀
  pub near : p ≤ p₀ + 1312000 * i
  pub same : length out ≡ length out₀
  pub laid : Stand y.service s from (shown looping.walks.tree) → Laid out₀ p₀ (messages_read y.service from looping.walks.tree) p out

pub reporting-start : {y : Syntax} {s : List ℕ} {from : ℕ} {x : State} {h l b m rows out : List ℕ} {p : ℕ} → Fresh y s l b → (length m ≡ 40) × (length h ≡ 36) × (length rows ≡ 18)
    → x ≡ unread_as → Reporting y s from x h l b from m rows l b out p out p
reporting-start {y} {from = from} f n e =
    let g = looping-start f n e in
    record { looping = g; near = omega arith; same = refl; laid = λ v. laid_same (sym (ap (messages_read y.service from) (unread-start g.walks e))) laid_none }

module _ {y : Syntax} {s : List ℕ} {from : ℕ} {x : State} {h l b : List ℕ} {i : ℕ} (w : Walking y s from x h l b i) {c : Section} {h' l' b' rows : List ℕ} (g : Passing w c h' l' b' rows)
  where
    -- a message that was closed is laid out within the octets
    pub passed-near : length s ≤ 65535 → c.closed ≡ true → Near c.layout rows
    passed-near n e = by (subst (λ (f : Bool). SectionBy f y s i w.tree g.walks.tree c.layout rows) e g.by)
      where
        by : SectionBy true y s i w.tree g.walks.tree c.layout rows → Near c.layout rows
        by v =
            let k : Good y (idle v.0 (v.1 ▷ message v.2 v.3)) = subst (Good y) v.4.1 g.walks.good in
            near-laid y.service s i c.layout rows n v.4.2 k.seven.1 k.nine.1.1

    -- its lines are laid behind the others
    lines-on : T (fit y.service) → {out₀ out out' : List ℕ} {p₀ p r : ℕ}
        → (Stand y.service s from (shown w.tree) → Laid out₀ p₀ (messages_read y.service from w.tree) p out)
        → Laid out p (section_at y.service s rows c.layout c.closed) r out'
        → Stand y.service s from (shown g.walks.tree) → Laid out₀ p₀ (messages_read y.service from g.walks.tree) r out'
    lines-on f {out₀} {out} {out'} {p₀} {p} {r} q d v = by c.closed g.by d
      where
        by : (k : Bool) → SectionBy k y s i w.tree g.walks.tree c.layout rows → Laid out p (section_at y.service s rows c.layout k) r out'
            → Laid out₀ p₀ (messages_read y.service from g.walks.tree) r out'
        by false j d =
            laid_same (append-nil (messages_read y.service from w.tree) ∙ stays-read y.service s from j) (laid_more (q (stays-stand y.service s from j v)) d)
        by true j d =
            let u = j.0 in
            let ms = j.1 in
            let m = message j.2 j.3 in
            let e = j.4.0 in
            let z = j.4.1 in
            let n : i ≡ from + wide y.service (shown (idle u ms)) = w.placed ∙ ap (λ (t : Reading). from + wide y.service (shown t)) e in
            let o : Stand y.service s from (shown (idle u ms) +++ show_message m) = last-stands y.service s from u ms m (subst (λ (t : Reading). Stand y.service s from (shown t)) z v) in
            let b : Stand y.service s from (shown w.tree) =
            subst (λ (t : Reading). Stand y.service s from (shown t)) (sym e) (stand-front y.service s from (shown (idle u ms)) (show_message m) o) in
            let k : Stand y.service s i (show_message m) =
            subst (λ (t : ℕ). Stand y.service s t (show_message m)) (sym n) (stand-back y.service s from (shown (idle u ms)) (show_message m) o) in
            let t : section_at y.service s rows c.layout true ≡ message_of y.service (from + wide y.service (shown (idle u ms))) m =
            section-lines y.service f s i j.2 j.3 c.layout rows j.4.2 k ∙ ap (λ (t : ℕ). message_of y.service t m) n in
            laid_same
            (ap (λ (t : Reading). messages_read y.service from t ++ message_of y.service (from + wide y.service (shown (idle u ms))) m) e
            ∙ ap (messages_read y.service from) (sym z))
            (laid_more (q b) (laid_same t d))

pub reporting-on : {y : Syntax} {s : List ℕ} {from : ℕ} {x : State} {h l b : List ℕ} {i : ℕ} {m rows l₀ b₀ out₀ : List ℕ} {p₀ : ℕ} {out : List ℕ} {p : ℕ}
    (g : Reporting y s from x h l b i m rows l₀ b₀ out₀ p₀ out p) → T (fit y.service)
    → {c : Section} {h' l' b' m' rows' out' : List ℕ} {r : ℕ} → Passing g.looping.walks c h' l' b' rows' → length m' ≡ 40 → length l' ≡ length l → length b' ≡ length b
    → Laid out p (section_at y.service s rows' c.layout c.closed) r out' → r ≤ p + 1312000
    → Reporting y s from c.state h' l' b' c.next m' rows' l₀ b₀ out₀ p₀ out' r
reporting-on g f v n a d e k = record {
  looping = looping-on g.looping v n a d;
  near = omega (arith, g.near, k, v.far);
  same = laid-length e ∙ g.same;
  laid = lines-on g.looping.walks v f g.laid e;
}

-- ---- the end of the walk

-- the reference of the UNB that stands at p
unb-named : (σ : Service) → T (fit σ) → (s : List ℕ) (p : ℕ) (u : Leaf) (ms : Snoc Message) (z : Leaf) → Stand σ s p (shown (done u ms z)) → name_at σ s p 5 ≡ element_content u 5 0
unb-named σ f s p u ms z w =
    ap (λ (a : Asked). a.text 5 0)
    (stand-asked σ s p f (seg Unb u) (stand-front σ s p (nil ▷ seg Unb u) (joined show_message ms) (stand-front σ s p (shown (idle u ms)) (nil ▷ seg Unz z) w)))

-- all was read
pub lays-told : {y : Syntax} {s : List ℕ} {from : ℕ} {x : State} {h l b : List ℕ} {i : ℕ} {m rows l₀ b₀ out out₀ : List ℕ} {p₀ : ℕ} {out' : List ℕ} {p : ℕ}
    (g : Reporting y s from x h l b i m rows l₀ b₀ out₀ p₀ out' p) → Laid out 0 (accepted_line (name_at y.service s from 5)) p₀ out₀ → T (fit y.service)
    → ReadAll g.looping.walks → LaysAll y s from out (Ok p) out'
lays-told {y} {s} {from} g k f a =
    let t = a.1 in
    let e = t.3 in (
      t.0,
      t.1,
      t.2,
      (
        a.0 ∙ ap read e,
        λ w.
            laid_same
            (ap (λ (r : List ℕ). accepted_line r ++ messages_read y.service from g.looping.walks.tree) (unb-named y.service f s from t.0 t.1 t.2 w)
            ∙ ap (λ (r : Reading). accepted_line (element_content t.0 5 0) ++ messages_read y.service from r) e)
            (laid_more k (g.laid (subst (λ (r : Reading). Stand y.service s from (shown r)) (sym e) w))),
      ),
    )

-- ---- the call: a text is measured, refused where it is too long, and then laid

-- the answer and the octets settle the numbers
lists : {t out left : List ℕ} {r : Result ℕ Refusal} → r ≡ listed_as t out → left ≡ left_in t out → Lists t out r left
lists {t} {out} e d = record { answer = e; numbers = ap told_written e ∙ told-by (ltb (length out) (length t)) (length t); octets = d }

module _ {t : List ℕ} {m : ℕ} (e : m ≡ length t) where
  pub lists-full : {out : List ℕ} {r : Result ℕ Refusal} → length out < m → r ≡ refused_as 15 → Lists t out r out
  lists-full h q = lists (q ∙ rw (← e, lt-ltb _ _ h)) (rw (← e, lt-ltb _ _ h))

  pub lists-done : {out out' : List ℕ} {k : ℕ} → m ≤ length out → Laid out 0 t k out' → Lists t out (Ok m) out'
  lists-done {out} h g =
      let f : length t ≤ length out = omega arith in
      lists (rw (← e, le-ltb _ _ h)) (laid-front g f ∙ rw (← e, le-ltb _ _ h))

pub lists-same : {t u out : List ℕ} {r : Result ℕ Refusal} {out' : List ℕ} → t ≡ u → Lists t out r out' → Lists u out r out'
lists-same e g = rw e at g

-- the text that was laid is the report's
abbrev Tells : List ℕ → List ℕ → Result ℕ Refusal → List ℕ → Type 0
Tells s out (Ok n) out' = (i : Interchange) × ((verdict_of s ≡ accepted i) × Laid out 0 (listing_of s) n out')
Tells s out (Err f) out' = verdict_of s ≡ refused_with f

module _ (s : List ℕ) (x : Start) (e : begun_of s ≡ Ok x) where
  tells : (out : List ℕ) (r : Result ℕ Refusal) (out' : List ℕ) → LaysAll x.syntax s x.at out r out' → Tells s out r out'
  tells out (Err f) out' q = refused-so s (una_at s) (answer_from x.syntax s x.at) (verdict-by s refl e refl) q
  tells out (Ok n) out' q = by q.0 q.1 q.2 q.3.0 q.3.1
    where
      by : (u : Leaf) (ms : Snoc Message) (z : Leaf) → answer_from x.syntax s x.at ≡ read (done u ms z)
          → (Stand x.syntax.service s x.at (shown (done u ms z)) → Laid out 0 (accepted_of x.syntax.service x.at u ms) n out') → Tells s out (Ok n) out'
      by u ms z a k =
          let i : Interchange = interchange (una_at s) u ms z in
          let v : verdict_of s ≡ accepted i = verdict-by s refl e a in
          let b = begun-so s i x e v in (
            i,
            (
              v,
              laid_same
                  (sym (ap listing_by v ∙ ap (λ (σ : Service). accepted_of σ (opening_in (una_at s)).at u ms) b.service
                  ∙ ap (λ (n : ℕ). accepted_of x.syntax.service n u ms) b.at))
                  (k b.stands),
            ),
          )

  module _ (none : List ℕ) (r : Result ℕ Refusal) (none' : List ℕ) (g : LaysAll x.syntax s x.at none r none') where
    pub told-refused : {f : Refusal} → r ≡ Err f → refusal_line f ≡ listing_of s
    told-refused {f} d = sym (ap listing_by (subst (λ (r : Result ℕ Refusal). Tells s none r none') d (tells none r none' g)))

    module _ {m : ℕ} (d : r ≡ Ok m) where
      measured : Tells s none (Ok m) none'
      measured = subst (λ (r : Result ℕ Refusal). Tells s none r none') d (tells none r none' g)

      pub told-length : m ≡ length (listing_of s)
      told-length = laid-all measured.1.1

      pub told-laid : {out out' : List ℕ} (k : Result ℕ Refusal) → m ≤ length out → LaysAll x.syntax s x.at out k out' → Lists (listing_of s) out k out'
      told-laid {out} {out'} k h q = by k (tells out k out' q)
        where
          by : (k : Result ℕ Refusal) → Tells s out k out' → Lists (listing_of s) out k out'
          by (Ok n) a =
              let j : n ≡ length (listing_of s) = laid-all a.1.1 in
              let l = told-length in
              lists-done j (omega (arith, j, l, h)) a.1.1
          by (Err f) a =
              let b : accepted measured.0 ≡ refused_with f = sym measured.1.0 ∙ a in
              let z : ◌≡◌ {A = ℕ} 0 1 = cc in
              absurd (omega arith)

-- where the interchange does not begin
pub begun-not : (s : List ℕ) {f : Breach} {g : Refusal} {r : Result Start Breach} → r ≡ begun_of s → r ≡ Err f → g ≡ refusal_at s f.number f.place
    → refusal_line g ≡ listing_of s
begun-not s e d k = ap refusal_line k ∙ sym (ap (λ (b : Result Start Breach). listing_by (verdict_by s b)) (sym e ∙ d))
