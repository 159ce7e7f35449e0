-- What the walk lays is the register of the reading.
use Rattle.syntax.specs.declared.opening.Start.{Start}
use Rattle.std.specs.Prelude.{ℕ, ◌+◌, ◌-◌, ◌*◌, ◌≤◌, ◌<◌, Bool, true, false, cond, ◌||◌, List, [], ◌∷◌, ◌++◌, ◌≡◌, refl, length, replicate, Result, Err, Ok}
use Rattle.std.proofs.Common.{arith, append-nil, ap, sym, ◌∙◌, subst, length-append, lt-ltb, le-ltb}
use Rattle.std.proofs.Math.Seq.{slice}
use Rattle.syntax.proofs.ContentLaws.{plain-content}
use Rattle.syntax.proofs.CuttingLaws.{slice-take}
use Rattle.syntax.specs.Octets.{same}
use Rattle.syntax.specs.Content.{content}
use Rattle.syntax.specs.Opening.{begun_of}
use Rattle.syntax.specs.Refusals.{refusal_at, at_zero}
use Rattle.syntax.specs.declared.Breach.{Breach}
use Rattle.syntax.specs.declared.Refusal.{Refusal}
use Rattle.syntax.specs.declared.Service.{Service}
use Rattle.syntax.specs.declared.Syntax.{Syntax}
use Rattle.grammar.specs.Interchange.{Leaf, Open, message, Reading, idle, shown, show_message}
use Rattle.grammar.specs.Places.{wide}
use Rattle.grammar.specs.Valid.{Interchange, interchange, opening_in}
use Rattle.grammar.specs.Grams.{below}
use Rattle.grammar.specs.Verdict.{Verdict, read, refused, accepted, refused_with, verdict_of, verdict_by, una_at}
use Rattle.turns.specs.declared.state.State.{State}
use Rattle.walk.specs.RunLaws.{ReadAll, verdict-by, begun-fits, fresh-tables}
use Rattle.walk.specs.Runs.{Fresh, answer_from, Walking, unread_as}
use Rattle.walk.specs.Sections.{PartsLie, Stays, begins, ends, breaks, SectionBy, Passing}
use Rattle.walk.specs.SectionLaws.{Looping, looping-start, looping-on, unread-start}
use Rattle.walk.specs.declared.sections.Layout.{Layout}
use Rattle.walk.specs.declared.sections.Section.{Section}
use Rattle.groups.specs.CallsLaws.{begins as begun-so}
use Rattle.writing.specs.Laid.{Laid}
use Rattle.writing.specs.LaidLaws.{laid_same, laid-part, laid_more, laid_none}
use Rattle.writing.specs.Written.{Text, text, no_text, refused_as, Writes, too_long}
use Rattle.writing.specs.WrittenLaws.{writes_as, writes-none, writes-over, writes-fit}
use Rattle.forms.specs.Forms.{grams_of, count_text, entry_text, entries_text, register_text, large, sign_lost, any_below, text_in}
use Rattle.forms.specs.FormsLaws.{count-short, entries-short, entries-joined, light-fits, below_more, or-false}
use Rattle.forms.specs.declared.Form.{Form}
use Rattle.forms.specs.declared.Entry.{Entry}
use Rattle.register.specs.Register.{entry_of, entries_of, entries_in, register_by, register_of, equal_to, checked_by, check_of}
use Rattle.register.specs.Laying.{BeginsAt, entry_at, section_at, entries_read, none_from, Adds, LaysEntries, LaysAll, Measured, MeasuredAs, Lays}
use Rattle.register.specs.declared.entries.Extent.{Extent}

-- ---- entries laid one after the other

adds_same : {f : Form} {out out' : List ℕ} {x r : Extent} {es gs : List Entry} → es ≡ gs → Adds f out x es r out' → Adds f out x gs r out'
adds_same e a = rw e at a

adds_none : {f : Form} {out : List ℕ} {x : Extent} → Adds f out x [] x out
adds_none {x = x} = record { count = omega arith; below = sym (or-false x.below); laid = laid_none }

adds-more : {f : Form} {out out₁ out' : List ℕ} {x z r : Extent} {es gs : List Entry} → Adds f out x es z out₁ → Adds f out₁ z gs r out' → Adds f out x (es ++ gs) r out'
adds-more {f} {x = x} {es = es} {gs = gs} a b = record {
  count = omega (arith, a.count, b.count, length-append es gs);
  below = b.below ∙ ap (λ (t : Bool). t || any_below gs) a.below ∙ or-or x.below (any_below es) (any_below gs) ∙ ap (λ (t : Bool). x.below || t) (sym (below_more es gs));
  laid = laid_same (sym (entries-joined f es gs)) (laid_more a.laid b.laid);
}
  where
    or-or : (a b c : Bool) → ((a || b) || c) ≡ (a || (b || c))
    or-or true b c = refl
    or-or false b c = refl

-- so many messages, and at most 40 octets for each
adds-short : {f : Form} {out out' : List ℕ} {x r : Extent} {es : List Entry} → Adds f out x es r out' → r.end + 40 * x.count ≤ x.end + 40 * r.count
adds-short {f} {es = es} a = omega (arith, a.count, a.laid.place, entries-short f es)

pub section-entry : {f : Form} {b : Bool} (c : Layout) {out out' : List ℕ} {x r : Extent} {e : Entry} → b ≡ true → e ≡ entry_at c → r.count ≡ x.count + 1
    → r.below ≡ (x.below || below (grams_of e)) → Laid out x.end (entry_text f e) r.end out' → Adds f out x (section_at c b) r out'
section-entry {f} {b} c {out} {out'} {x} {r} {e} d q n v l =
    subst (λ (k : Bool). Adds f out x (section_at c k) r out') (sym d)
    (adds_same (ap (λ (e : Entry). e ∷ []) q) (record {
      count = n;
      below = v ∙ ap (λ (t : Bool). x.below || t) (sym (or-false (below (grams_of e))));
      laid = laid_same (sym (append-nil (entry_text f e))) l;
    }))

-- the total of a message is in every form
pub section-light : (f : Form) (c : Layout) {e : Entry} → e ≡ entry_at c → c.grams < 9223372036854775808 → large f (grams_of e) ≡ false
section-light f c d h = subst (λ (e : Entry). large f (grams_of e) ≡ false) (sym d) (light-fits f (entry_at c) h)

pub section-none : {f : Form} {b : Bool} (c : Layout) {out : List ℕ} {x : Extent} → b ≡ false → Adds f out x (section_at c b) x out
section-none {f} c {out} {x} d = subst (λ (k : Bool). Adds f out x (section_at c k) x out) (sym d) adds_none

-- ---- an entry is what the layout says

entry-so : (σ : Service) (s : List ℕ) (q : ℕ) (o : Open) (t : Leaf) (c : Layout) (rows : List ℕ) → PartsLie σ s q o t c rows → entry_at c ≡ entry_of σ q (message o t)
entry-so σ s q o t c rows l =
    let e : c.end - c.unh ≡ wide σ (show_message (message o t)) = omega (arith, l.unh, l.unt, l.end) in
    entry-one l.unh e l.loads l.grams l.below
  where
    entry-one : {a b d e a' b' d' e' : ℕ} {v v' : Bool} → a ≡ a' → b ≡ b' → d ≡ d' → e ≡ e' → v ≡ v'
        → ◌≡◌ {A = Entry} (record { place = a; length = b; loads = d; grams = e; below = v }) (record { place = a'; length = b'; loads = d'; grams = e'; below = v' })
    entry-one p q r s t = rw (p, q, r, s, t)

laid-forward : {σ : Service} {s : List ℕ} {q : ℕ} {o : Open} {t : Leaf} {c : Layout} {rows : List ℕ} → PartsLie σ s q o t c rows → (c.unh ≤ c.end) × (c.grams < 9223372036854775808)
laid-forward l = (omega (arith, l.unh, l.unt, l.end), l.light)

-- ---- the walk: what it starts with, and what holds at its head

pub begun-short : (y : Syntax) (s : List ℕ) (from : ℕ) → BeginsAt y s from → length s ≤ 65535
begun-short y s from e = (begun-fits s refl e).1

pub begun_fresh : (m k : ℕ) (y : Syntax) (s : List ℕ) (from : ℕ) {l b : List ℕ} → BeginsAt y s from → length s ≤ 4 * m → m < k → l ≡ replicate {A = ℕ} m 0 → b ≡ replicate {A = ℕ} k 0 → Fresh y s l b
begun_fresh m k y s from e n z d c = let w = begun-fits s refl e in fresh-tables m k z d c w.0 w.1 n

pub record Registering (f : Form) (p : ℕ) (y : Syntax) (s : List ℕ) (from : ℕ) (x : State) (h l b : List ℕ) (i : ℕ) (m rows l₀ b₀ out₀ : List ℕ) (out : List ℕ) (r : Extent) : Type 0 where
  pub looping : Looping y s from x h l b i m rows l₀ b₀
  pub few : r.count ≤ i
  pub inside : r.count ≤ length s
  pub adds : Adds f out₀ (none_from p) (entries_read y.service from looping.walks.tree) r out

pub registering-start : {f : Form} {p : ℕ} {y : Syntax} {s : List ℕ} {from : ℕ} {x : State} {h l b m rows out : List ℕ} {r : Extent} → Fresh y s l b → (length m ≡ 40) × (length h ≡ 36) × (length rows ≡ 18)
    → x ≡ unread_as → r ≡ none_from p → Registering f p y s from x h l b from m rows l b out out r
registering-start {f} {p} {y} {s} {from} {x} {h} {l} {b} {m} {rows} {out} k n e d =
    let g = looping-start k n e in
    subst (λ (r : Extent). Registering f p y s from x h l b from m rows l b out out r) (sym d)
    (record { looping = g; few = omega arith; inside = omega arith; adds = adds_same (sym (ap (entries_read y.service from) (unread-start g.walks e))) adds_none })

stays-read : (σ : Service) (p : ℕ) {x z : Reading} → Stays x z → entries_read σ p x ≡ entries_read σ p z
stays-read σ p (begins u) = refl
stays-read σ p (ends u ms z) = refl
stays-read σ p (breaks u ms o) = refl

module _ {y : Syntax} {s : List ℕ} {from : ℕ} {x : State} {h l b : List ℕ} {i : ℕ} (w : Walking y s from x h l b i) {c : Section} {h' l' b' rows : List ℕ} (g : Passing w c h' l' b' rows)
  where
    pub passed-forward : c.closed ≡ true → (c.layout.unh ≤ c.layout.end) × (c.layout.grams < 9223372036854775808)
    passed-forward e = by (subst (λ (f : Bool). SectionBy f y s i w.tree g.walks.tree c.layout rows) e g.by)
      where
        by : SectionBy true y s i w.tree g.walks.tree c.layout rows → (c.layout.unh ≤ c.layout.end) × (c.layout.grams < 9223372036854775808)
        by v = laid-forward v.4.2

    -- a section brings its entries
    read-on : entries_read y.service from w.tree ++ section_at c.layout c.closed ≡ entries_read y.service from g.walks.tree
    read-on = by c.closed g.by
      where
        by : (k : Bool) → SectionBy k y s i w.tree g.walks.tree c.layout rows
            → entries_read y.service from w.tree ++ section_at c.layout k ≡ entries_read y.service from g.walks.tree
        by false j = append-nil (entries_read y.service from w.tree) ∙ stays-read y.service from j
        by true j =
            let u = j.0 in
            let ms = j.1 in
            let n : i ≡ from + wide y.service (shown (idle u ms)) = w.placed ∙ ap (λ (t : Reading). from + wide y.service (shown t)) j.4.0 in
            let e : entry_at c.layout ≡ entry_of y.service (from + wide y.service (shown (idle u ms))) (message j.2 j.3) =
            entry-so y.service s i j.2 j.3 c.layout rows j.4.2 ∙ ap (λ (k : ℕ). entry_of y.service k (message j.2 j.3)) n in
            ap (λ (z : Reading). entries_read y.service from z ++ (entry_at c.layout ∷ [])) j.4.0
            ∙ ap (λ (e : Entry). entries_of y.service from u ms ++ (e ∷ [])) e
            ∙ ap (entries_read y.service from) (sym j.4.1)

module _ {f : Form} {p : ℕ} {y : Syntax} {s : List ℕ} {from : ℕ} {x : State} {h l b : List ℕ} {i : ℕ} {m rows l₀ b₀ out₀ : List ℕ} {out : List ℕ} {r : Extent}
    (g : Registering f p y s from x h l b i m rows l₀ b₀ out₀ out r) where
  -- there is room for the numbers of one entry more
  pub registering-fits : p ≤ 65535 → i < length s → (r.count < 65536) × (r.end + 40 < 18446744073709551616)
  registering-fits h k = (omega (arith, g.few, g.looping.walks.short), omega (arith, g.few, adds-short g.adds, g.looping.walks.short))

  pub registering-on : {c : Section} {h' l' b' m' rows' out' : List ℕ} {r' : Extent} → i < length s → Passing g.looping.walks c h' l' b' rows' → length m' ≡ 40 → length l' ≡ length l → length b' ≡ length b
      → Adds f out r (section_at c.layout c.closed) r' out'
      → Registering f p y s from c.state h' l' b' c.next m' rows' l₀ b₀ out₀ out' r'
  registering-on {c} k v n a d e =
      let q : length (section_at c.layout c.closed) ≤ 1 = section-short c.layout c.closed in
      record {
        looping = looping-on g.looping v n a d;
        few = omega (arith, g.few, q, e.count, v.far);
        inside = omega (arith, g.few, q, e.count, k);
        adds = adds_same (read-on g.looping.walks v) (adds-more g.adds e);
      }
    where
      section-short : (c : Layout) (b : Bool) → length (section_at c b) ≤ 1
      section-short c false = omega arith
      section-short c true = omega arith

  -- all was read
  pub lays-told : BeginsAt y s from → ReadAll g.looping.walks → LaysAll f p s out₀ (Ok r) out
  lays-told e a =
      let u = a.1.0 in
      let ms = a.1.1 in
      let i : Interchange = interchange (una_at s) u ms a.1.2 in
      let v : verdict_of s ≡ accepted i = verdict-by s refl e (a.0 ∙ ap read a.1.3) in
      let k = begun-so s i (record { syntax = y; at = from }) e v in
      let n : entries_read y.service from g.looping.walks.tree ≡ entries_in i =
      ap (entries_read y.service from) a.1.3
      ∙ sym (ap (λ (σ : Service). entries_of σ (opening_in (una_at s)).at u ms) k.service ∙ ap (λ (n : ℕ). entries_of y.service n u ms) k.at) in
      record { whole = i; accepts = v; few = omega (arith, g.inside, g.looping.walks.short); adds = adds_same n g.adds }

pub lays-stopped : (y : Syntax) (s : List ℕ) (from : ℕ) (b : Breach) {w : Refusal} → BeginsAt y s from → answer_from y s from ≡ refused b.number b.place
    → w ≡ refusal_at s b.number b.place → verdict_of s ≡ refused_with w
lays-stopped y s from b e a k = verdict-by s refl e a ∙ ap refused_with (sym k)

-- ---- the register is measured, and then laid behind its count

-- by what `lay` and `measure` answer
pub laid-all : (f : Form) (p : ℕ) (s out out' : List ℕ) {a : Result Extent Refusal} {x : Extent} → a ≡ Ok x → LaysAll f p s out a out' → LaysEntries f p s out x out'
laid-all f p s out out' e g = subst (λ (a : Result Extent Refusal). LaysAll f p s out a out') e g

pub laid-refused : (f : Form) (p : ℕ) (s out out' : List ℕ) {a : Result Extent Refusal} {w : Refusal} → a ≡ Err w → LaysAll f p s out a out' → MeasuredAs f s (Err w)
laid-refused f p s out out' e g = subst (λ (a : Result Extent Refusal). LaysAll f p s out a out') e g

pub measured : (f : Form) (s : List ℕ) {a v : Result Extent Refusal} → a ≡ v → MeasuredAs f s a → MeasuredAs f s v
measured f s e g = subst (MeasuredAs f s) e g

module _ {f : Form} {s out out' : List ℕ} {x : Extent} (g : LaysEntries f 0 s out x out') {q : ℕ} {z z' : List ℕ} (l : Laid z 0 (count_text f x.count) q z') where
  pub measured-fits : q + x.end < 18446744073709551616
  measured-fits = omega (arith, l.place, count-short f x.count, g.few, adds-short g.adds)

  pub measured-so : Measured f s (record { count = x.count; end = q + x.end; below = x.below })
  measured-so =
      let es = entries_in g.whole in
      let n : x.count ≡ length es = omega (arith, g.adds.count) in
      let c : length (count_text f x.count) ≡ length (count_text f (length es)) = ap (λ (k : ℕ). length (count_text f k)) n in
      record {
        whole = g.whole;
        accepts = g.accepts;
        count = n;
        below = g.adds.below;
        long = omega (arith, l.place, c, g.adds.laid.place, length-append (count_text f (length es)) (entries_text f es));
      }

-- the count, and the entries behind it
pub filled : {f : Form} {s : List ℕ} {p : ℕ} {out₀ out out' : List ℕ} {x z : Extent} → Measured f s x → sign_lost f x.below ≡ false → Laid out₀ 0 (count_text f x.count) p out
    → LaysEntries f p s out z out' → Lays (register_of f s) out₀ (Ok z.end) out'
filled {f} {s} {out₀ = out₀} {out' = out'} {x = x} {z = z} w v l g =
    let es = entries_in g.whole in
    let i : w.whole ≡ g.whole = accepted-one (sym w.accepts ∙ g.accepts) in
    let n : x.count ≡ length es = w.count ∙ ap (λ (i : Interchange). length (entries_in i)) i in
    let d : Laid out₀ 0 (register_text f es) z.end out' = laid_more (laid_same (ap (count_text f) n) l) g.adds.laid in
    let k : z.end ≡ length (register_text f es) = omega (arith, d.place) in
    let u : sign_lost f (any_below es) ≡ false = sym (ap (sign_lost f) (w.below ∙ ap (λ (i : Interchange). any_below (entries_in i)) i)) ∙ v in
    let t : register_of f s ≡ text (register_text f es) = ap (register_by f) g.accepts ∙ rw u in
    record { octets = register_text f es; is = t; answer = ap Ok k; laid = rw k at d }
  where
    accepted-one : {i j : Interchange} → accepted i ≡ accepted j → i ≡ j
    accepted-one e = cc

module _ (f : Form) (s : List ℕ) (w : Refusal) (e : MeasuredAs f s (Err w)) where
  pub write-refused : (out : List ℕ) → Writes (register_of f s) out (Err w) out
  write-refused out = writes_as (sym (ap (register_by f) e)) (writes-none refl)

  pub check-refused : (r : List ℕ) → Err w ≡ check_of f s r
  check-refused r = sym (ap (λ (v : Verdict). checked_by f v r) e)

module _ {f : Form} {s : List ℕ} {x : Extent} (w : Measured f s x) where
  -- what is measured is not refused
  pub unrefused : {A : Type 0} (v : Refusal) → MeasuredAs f s (Err v) → A
  unrefused v e =
      let d : accepted w.whole ≡ refused_with v = sym w.accepts ∙ e in
      let z : ◌≡◌ {A = ℕ} 0 1 = cc in
      absurd (omega arith)

  abbrev octets : List ℕ
  octets = register_text f (entries_in w.whole)

  check-is : (r : List ℕ) → check_of f s r ≡ equal_to (text_in f (entries_in w.whole)) r
  check-is r = ap (λ (v : Verdict). checked_by f v r) w.accepts

  sign-is : {t b : Bool} → t ≡ sign_lost f x.below → t ≡ b → sign_lost f (any_below (entries_in w.whole)) ≡ b
  sign-is v e = sym (v ∙ ap (sign_lost f) w.below) ∙ e

  -- by what `sign_lost` answers: a minus that is lost
  module _ {t : Bool} (v : t ≡ sign_lost f x.below) (h : t ≡ true) where
    no_text_lem : text_in f (entries_in w.whole) ≡ no_text (at_zero 19)
    no_text_lem = rw (sign-is v h)

    pub write-negative : {out : List ℕ} {r : Result ℕ Refusal} → r ≡ refused_as 19 → Writes (register_of f s) out r out
    write-negative q = writes_as (sym (ap (register_by f) w.accepts ∙ no_text_lem)) (writes-none q)

    pub check-negative : (r : List ℕ) → Err (at_zero 13) ≡ check_of f s r
    check-negative r = sym (check-is r ∙ ap (λ (t : Text). equal_to t r) no_text_lem)

  -- .. or none
  module _ (v : sign_lost f x.below ≡ false) where
    text-so : text_in f (entries_in w.whole) ≡ text octets
    text-so = rw (sign-is refl v)

    register-so : register_of f s ≡ text octets
    register-so = ap (register_by f) w.accepts ∙ text-so

    check-so : (r : List ℕ) → check_of f s r ≡ equal_to (text octets) r
    check-so r = check-is r ∙ ap (λ (t : Text). equal_to t r) text-so

    lays-so : {out out' : List ℕ} {a : Result ℕ Refusal} → Lays (register_of f s) out a out' → (a ≡ Ok x.end) × Laid out 0 octets x.end out'
    lays-so q =
        let e : text q.octets ≡ text octets = sym q.is ∙ register-so in
        let d : q.octets ≡ octets = cc in
        (q.answer ∙ ap (λ (t : List ℕ). Ok (length t)) d ∙ sym (ap Ok w.long), rw (d, ← w.long) at q.laid)

    -- by what `too_long` answers
    module _ {out : List ℕ} {b : Bool} (d : b ≡ too_long (length out) x.end) where
      pub write-over : {r : Result ℕ Refusal} → b ≡ true → r ≡ refused_as 15 → Writes (register_of f s) out r out
      write-over h q = writes_as (sym register-so) (writes-over w.long d h q)

      pub write-fit : {r : Result ℕ Refusal} {out' : List ℕ} → b ≡ false → Lays (register_of f s) out r out' → Writes (register_of f s) out r out'
      write-fit {r} {out'} h q =
          let g = lays-so q in
          writes_as (sym register-so) (subst (λ (r : Result ℕ Refusal). Writes (text octets) out r out') (sym g.0) (writes-fit w.long d h g.1))

    -- the check: it is compared with what would be written
    pub check-long : (r : List ℕ) → 65535 < x.end → Err (at_zero 13) ≡ check_of f s r
    check-long r h = sym (check-so r ∙ rw (← w.long, lt-ltb _ _ h))

    module _ (r : List ℕ) {out : List ℕ} {a : Result ℕ Refusal} {out' z : List ℕ} {b : Bool} (l : x.end ≤ 65535) (h : x.end ≤ length out) (q : Lays (register_of f s) out a out')
        (d : z ≡ slice 0 x.end out') (e : b ≡ same (content 32 z) r) where
      check-laid : cond b (Ok tt) (Err (at_zero 13)) ≡ check_of f s r
      check-laid =
          let k : length octets ≤ length out = omega (arith, w.long, h) in
          let v : slice 0 x.end out' ≡ octets = slice-take 0 x.end out' ∙ laid-part (lays-so q).1 k in
          let g : b ≡ same octets r = e ∙ ap (λ (y : List ℕ). same y r) (plain-content z ∙ d ∙ v) in
          ap (λ (c : Bool). cond c (Ok tt) (Err (at_zero 13))) g ∙ sym (check-so r ∙ rw (← w.long, le-ltb _ _ l))

      pub check-same : b ≡ true → Ok tt ≡ check_of f s r
      check-same k = sym (ap (λ (c : Bool). cond c (Ok tt) (Err (at_zero 13))) k) ∙ check-laid

      pub check-other : b ≡ false → Err (at_zero 13) ≡ check_of f s r
      check-other k = sym (ap (λ (c : Bool). cond c (Ok tt) (Err (at_zero 13))) k) ∙ check-laid

module _ (s : List ℕ) {g : Result Start Breach} {b : Breach} {w : Refusal} (e : g ≡ begun_of s) (d : g ≡ Err b) (k : w ≡ refusal_at s b.number b.place) where
  pub unbegun : verdict_of s ≡ refused_with w
  unbegun = ap (verdict_by s) (sym e ∙ d) ∙ ap refused_with (sym k)
