-- Laws of the walk by sections: the header that a trailer names, a segment further in a message, and its end.
use Rattle.std.specs.Prelude.{ℕ, suc, ◌+◌, ◌*◌, ◌-◌, ◌≤◌, ◌<◌, ◌≡◌, refl, Bool, true, false, cond, List, [], ◌∷◌, T, eqb, ltb, length, take, drop, get_or, Result, Ok, Some, None, Err, Option}
use Rattle.std.proofs.Common.{arith, ap, sym, ◌∙◌, subst, ne_eqb, drop-cons}
use Rattle.std.proofs.lemmas.Bool.{false≢true}
use Rattle.std.proofs.Math.Option.{some}
use Rattle.std.proofs.Math.Seq.{slice}
use Rattle.syntax.specs.Octets.{octets, same}
use Rattle.syntax.proofs.CuttingLaws.{slice-take}
use Rattle.syntax.specs.Service.{fit}
use Rattle.syntax.specs.Content.{content, compared}
use Rattle.syntax.proofs.ContentLaws.{plain-content}
use Rattle.syntax.specs.Tree.{Segment, print_s}
use Rattle.syntax.specs.declared.Service.{Service}
use Rattle.syntax.specs.declared.Syntax.{Syntax}
use Rattle.syntax.specs.declared.Breach.{Breach}
use Rattle.grammar.specs.Lists.{Snoc, nil, ◌▷◌, ◌+++◌, size, joined}
use Rattle.grammar.specs.Grams.{sum, magnitude, below}
use Rattle.grammar.specs.Weighed.{forward, back, apart}
use Rattle.grammar.specs.WeighedLaws.{apart-most, sum_below, sum-magnitude}
use Rattle.grammar.proofs.ListsLaws.{each-size}
use Rattle.grammar.specs.Segments as segments
use Rattle.grammar.specs.Segments.{Named, Free, kind_in, tags, seg, elements_of}
use Rattle.grammar.specs.Interchange.{Leaf, Body, plain, ack, Open, msg, Message, message, Reading, start, idle, busy, done, show_header, show_body, show_trailer, show_open, show_message, shown}
use Rattle.grammar.specs.Rules.{is_autack, ref_h, ref_o}
use Rattle.grammar.specs.RuleLaws.{is-autack}
use Rattle.grammar.specs.Placing.{place}
use Rattle.grammar.proofs.PlacingLaws.{tag-named}
use Rattle.grammar.specs.Places.{wide, headers_in, trailers_in}
use Rattle.grammar.specs.Going.{Where}
use Rattle.grammar.proofs.PlacesLaws.{wide-join, leads-placed, begin-placed, open-placed, where-placed, close-placed, end-placed}
use Rattle.grammar.proofs.PairLaws.{few-trailers}
use Rattle.grammar.specs.Running.{Good}
use Rattle.grammar.specs.Verdict.{loads_b, loads_m, refused}
use Rattle.elements.specs.Kinds.{of_name, of_kind, tag_kind}
use Rattle.elements.specs.Octets.{text_at}
use Rattle.elements.specs.declared.Kind.{Kind}
use Rattle.elements.specs.declared.Kind.TheVariants.{Ust, Qty, Cnt, Other}
use Rattle.message.specs.Heads.{head_refs, head_flags, pos_or}
use Rattle.message.specs.Summary.{Summary, start_s, idle_s, busy_s, done_s, state_of, summary_of, kept_of, group_of, sums_of, free_at}
use Rattle.message.specs.Steps.{Sought}
use Rattle.message.specs.declared.Group.{Group}
use Rattle.message.specs.declared.Group.TheVariants.{Opened as Fresh}
use Rattle.message.specs.declared.Message.{Message as Kept}
use Rattle.turns.specs.Held.{phased, state_in, open_size}
use Rattle.walk.specs.Layout.{spots_of, spot_step, row_step, RowRoom, Rows}
use Rattle.walk.specs.LayoutLaws.{place-on, spots-on, spots-open, rows_on, rows-open, room-on}
use Rattle.walk.specs.RunLaws.{ReadAll, long-print, walking_start, unread-idle}
use Rattle.walk.specs.Runs.{Onward}
use Rattle.walk.specs.Runs.{unread_as, is_busy, Fresh as Empty, answer_from, Walking}
use Rattle.walk.specs.Sections.{nameable_in, laid_out, autack_o, Stays, begins, ends, breaks, Within, UntBy, AtUnt, SectionBy, Passing, SectionIs, UntIs, Between, ReachedIs}
use Rattle.walk.specs.declared.layout.Spots.{Spots}
use Rattle.walk.specs.declared.sections.Layout.{Layout}
use Rattle.walk.specs.declared.sections.Section.{Section}
use Rattle.turns.specs.declared.state.Phase.{Phase}
use Rattle.turns.specs.declared.state.Phase.TheVariants.{Start, Idle, Busy, Done}
use Rattle.turns.specs.declared.state.State.{State}
use Rattle.turns.specs.declared.state.Ahead.{Ahead}

-- ---- a UST by its octets

ust-name : (n : segments.Name) (t : List ℕ) → of_name n ≡ Ust → t ≡ segments.text_of n → same t (octets "UST") ≡ true
ust-name segments.Unb t e q = let z : ◌≡◌ {A = ℕ} 0 1 = cc in absurd (omega arith)
ust-name segments.Unh t e q = let z : ◌≡◌ {A = ℕ} 0 1 = cc in absurd (omega arith)
ust-name segments.Unt t e q = let z : ◌≡◌ {A = ℕ} 0 1 = cc in absurd (omega arith)
ust-name segments.Unz t e q = let z : ◌≡◌ {A = ℕ} 0 1 = cc in absurd (omega arith)
ust-name segments.Ush t e q = let z : ◌≡◌ {A = ℕ} 0 1 = cc in absurd (omega arith)
ust-name segments.Usa t e q = let z : ◌≡◌ {A = ℕ} 0 1 = cc in absurd (omega arith)
ust-name segments.Usc t e q = let z : ◌≡◌ {A = ℕ} 0 1 = cc in absurd (omega arith)
ust-name segments.Usr t e q = let z : ◌≡◌ {A = ℕ} 0 1 = cc in absurd (omega arith)
ust-name segments.Ust t e q = ap (λ (x : List ℕ). same x (octets "UST")) q
ust-name segments.Usb t e q = let z : ◌≡◌ {A = ℕ} 0 1 = cc in absurd (omega arith)
ust-name segments.Usx t e q = let z : ◌≡◌ {A = ℕ} 0 1 = cc in absurd (omega arith)
ust-name segments.Usy t e q = let z : ◌≡◌ {A = ℕ} 0 1 = cc in absurd (omega arith)

ust-free : (a b : Bool) → cond a Qty (cond b Cnt Other) ≡ Ust → ⊥
ust-free true b e = let z : ◌≡◌ {A = ℕ} 0 1 = cc in omega arith
ust-free false true e = let z : ◌≡◌ {A = ℕ} 0 1 = cc in omega arith
ust-free false false e = let z : ◌≡◌ {A = ℕ} 0 1 = cc in omega arith

ust-text : (t : List ℕ) → tag_kind t ≡ Ust → same t (octets "UST") ≡ true
ust-text t e = by (kind_in tags t) refl e
  where
    by : (k : segments.Kind) → kind_in tags t ≡ k → of_kind k t ≡ Ust → same t (octets "UST") ≡ true
    by (Named n) q e = ust-name n t e (tag-named t n q)
    by segments.Reserved q e = let z : ◌≡◌ {A = ℕ} 0 1 = cc in absurd (omega arith)
    by Free q e = absurd (ust-free (same t (octets "QTY")) (same t (octets "CNT")) e)

module _ (s : List ℕ) (a n : ℕ) where
  pub nameable-none : n ≡ 0 → 0 ≡ nameable_in s a n
  nameable-none e = by (same (slice a (a + 3) s) (octets "UST"))
    where
      by : (c : Bool) → 0 ≡ cond c n 0
      by true = sym e
      by false = refl

  -- another first octet is another tag
  pub nameable-other : a < length s → (get_or s a 0 ≡ 85 → ⊥) → 0 ≡ nameable_in s a n
  nameable-other h e =
      let k : a + 3 - a ≡ 3 = omega arith in
      let z : slice a (a + 3) s ≡ get_or s a 0 ∷ take 2 (drop (suc a) s) = slice-take a (a + 3) s ∙ ap (λ (m : ℕ). take m (drop a s)) k ∙ ap (take 3) (drop-cons s a 0 h) in
      sym (ap (λ (x : List ℕ). cond (same x (octets "UST")) n 0) z ∙ rw (ne_eqb _ _ e))

  module _ {p : List ℕ} {r : Bool} (q : p ≡ slice a (a + 3) s) (d : r ≡ same (content 32 p) (octets "UST")) where
    tells : (c : Bool) → r ≡ c → same (slice a (a + 3) s) (octets "UST") ≡ c
    tells c e = ap (λ (x : List ℕ). same x (octets "UST")) (sym q ∙ sym (plain-content p)) ∙ sym d ∙ e

    pub nameable-all : r ≡ true → n ≡ nameable_in s a n
    nameable-all e = rw (tells true e)

    pub nameable-not : r ≡ false → 0 ≡ nameable_in s a n
    nameable-not e = rw (tells false e)

pub nameable-most : (s : List ℕ) (a n : ℕ) → nameable_in s a n ≤ n
nameable-most s a n = by (same (slice a (a + 3) s) (octets "UST"))
  where
    by : (c : Bool) → cond c n 0 ≤ n
    by true = omega arith
    by false = omega arith

-- what the search found is the header that the UST names
pub sought : (σ : Service) (s : List ℕ) (a : ℕ) (m : Kept) (h : List ℕ) {n i : ℕ} → n ≡ nameable_in s a m.headers
    → i ≡ pos_or n (free_at (compared (text_at σ s a 1 0)) (head_refs σ.release s h n) (head_flags h n)) → i ≤ n → tag_kind (slice a (a + 3) s) ≡ Ust → Sought σ s a m h i
sought σ s a m h {n} {i} e d l k =
    let q : n ≡ m.headers = e ∙ ap (λ (c : Bool). cond c m.headers 0) (ust-text (slice a (a + 3) s) k) in
    record {
      found = d ∙ ap (λ (z : ℕ). pos_or z (free_at (compared (text_at σ s a 1 0)) (head_refs σ.release s h z) (head_flags h z))) q;
      most = omega (arith, l, q);
    }

-- ---- the state of an open message

busy-phased : (p : Phase) (b : List ℕ) (t : Snoc (List ℕ)) {a : List ℕ} {r : Snoc (List ℕ)} {S R : Summary} → busy_s a r S ≡ phased p b t R → (p ≡ Busy) × (S ≡ R)
busy-phased Start b t e = let z : ◌≡◌ {A = ℕ} 0 1 = cc in absurd (omega arith)
busy-phased Idle b t e = let z : ◌≡◌ {A = ℕ} 0 1 = cc in absurd (omega arith)
busy-phased Busy b t e = (refl, cc)
busy-phased Done b t e = let z : ◌≡◌ {A = ℕ} 0 1 = cc in absurd (omega arith)

idle-phased : (p : Phase) (b : List ℕ) (t : Snoc (List ℕ)) (R : Summary) {a : List ℕ} {r : Snoc (List ℕ)} → idle_s a r ≡ phased p b t R → is_busy p ≡ false
idle-phased Start b t R e = refl
idle-phased Idle b t R e = refl
idle-phased Busy b t R e = let z : ◌≡◌ {A = ℕ} 0 1 = cc in absurd (omega arith)
idle-phased Done b t R e = refl

kept-group : (o : Open) → (kept_of o).group ≡ group_of o
kept-group (msg h hs b ts) = refl

kept-headers : (o : Open) → (kept_of o).headers ≡ size (headers_in o)
kept-headers (msg h hs b ts) = each-size ref_h hs

kept-autack : (o : Open) → is_autack (kept_of o).autack ≡ autack_o o
kept-autack (msg h hs b ts) = is-autack h

sums-loads : (b : Body) → (sums_of b).loads ≡ size (loads_b b)
sums-loads (plain b) = refl
sums-loads (ack c ls) = refl

sums-grams : (b : Body) → ((sums_of b).grams ≡ forward (loads_b b)) × ((sums_of b).back ≡ back (loads_b b))
sums-grams (plain b) = (refl, refl)
sums-grams (ack c ls) = (refl, refl)

kept-loads : (o : Open) (t : Leaf) → (kept_of o).sums.loads ≡ size (loads_m (message o t))
kept-loads (msg h hs b ts) t = sums-loads b

kept-grams : (o : Open) (t : Leaf) → ((kept_of o).sums.grams ≡ forward (loads_m (message o t))) × ((kept_of o).sums.back ≡ back (loads_m (message o t)))
kept-grams (msg h hs b ts) t = sums-grams b

-- the two counters of what is kept give the sum's magnitude and its sign
module _ {m : Kept} (o : Open) (t : Leaf) (n : kept_of o ≡ m) where
  kept-magnitude : apart m.sums.grams m.sums.back ≡ magnitude (sum (loads_m (message o t)))
  kept-magnitude = rw (← n, (kept-grams o t).0, (kept-grams o t).1) (sym (sum-magnitude (loads_m (message o t))))

  kept-below : ltb m.sums.grams m.sums.back ≡ below (sum (loads_m (message o t)))
  kept-below = rw (← n, (kept-grams o t).0, (kept-grams o t).1) (sym (sum_below (loads_m (message o t))))

summary-kept : (o : Open) → (summary_of o).m ≡ kept_of o
summary-kept (msg h hs b ts) = refl

summary-ref : (o : Open) → (summary_of o).ref ≡ ref_o o
summary-ref (msg h hs b ts) = refl

room_as : {g j : Group} {n m k i : ℕ} → g ≡ j → n ≡ m → k ≡ i → RowRoom g n k → RowRoom j m i
room_as {j = j} {m = m} {i = i} e d c r = rw (← e, ← d, ← c) r

spot-as : {g j : Group} {q r : Spots} (a n : ℕ) → g ≡ j → q ≡ r → spot_step g q a n ≡ spot_step j r a n
spot-as a n e d = rw (e, d)

row_as : {g j : Group} {n m k i : ℕ} (rows : List ℕ) (a : ℕ) → g ≡ j → n ≡ m → k ≡ i → row_step g rows n k a ≡ row_step j rows m i a
row_as rows a e d c = rw (e, d, c)

-- what is kept of an open message is what its tree says
pub record Opened (σ : Service) (s : List ℕ) (x : State) (o : Open) : Type 0 where
  pub phase : x.phase ≡ Busy
  pub kept : kept_of o ≡ x.message
  pub ref : compared (content σ.release (slice x.unh.start x.unh.end s)) ≡ ref_o o

opened : (σ : Service) (s : List ℕ) (x : State) (h l : List ℕ) (u : Leaf) (ms : Snoc Message) (o : Open) → state_of (busy u ms o) ≡ state_in σ.release s x h l → Opened σ s x o
opened σ s x h l u ms o e =
    let a = busy-phased x.phase _ _ e in
    record {
      phase = a.0;
      kept = sym (summary-kept o) ∙ ap (λ (S : Summary). S.m) a.1;
      ref = sym (ap (λ (S : Summary). S.ref) a.1) ∙ summary-ref o;
    }

-- ---- a segment further in an open message

module _ {y : Syntax} {s : List ℕ} {from p : ℕ} {u : Leaf} {ms : Snoc Message} {x : State} {h l b : List ℕ} {i : ℕ} {q : Spots} {rows : List ℕ}
    (w : Within y s from p u ms x h l b i q rows) where
  pub now-open : Opened y.service s x w.o
  now-open = opened y.service s x h l u ms w.o (ap state_of (sym w.tree) ∙ w.walks.same)

  pub busy-now : x.phase ≡ Busy
  busy-now = now-open.phase

  module _ {a : Ahead} {h' l' b' : List ℕ} (f : Onward w.walks a h' l' b') where
    -- a message has at most 65,535 octets, so that its loads have less than 2^63 grams either way
    weighs-light : apart x.message.sums.grams x.message.sums.back < 9223372036854775808
    weighs-light =
        let t : 8 * x.count + 4 * x.message.segments ≤ i = subst (λ (p : Phase). 8 * x.count + 4 * open_size p x.message ≤ i) busy-now w.walks.held.taken in
        let n = f.inside in
        let e = f.size in
        let o = w.walks.short in
        let j = w.walks.held.roomy.grams in
        let k = w.walks.held.roomy.back in
        apart-most x.message.sums.grams x.message.sums.back 9223372036854775808 (omega arith) (omega arith)

    goes_to : place (busy u ms w.o) f.g ≡ some f.walks.tree
    goes_to = ap (λ (z : Reading). place z f.g) (sym w.tree) ∙ f.passed.placed

    -- the message stays open
    record Grew : Type 0 where
      o' : Open
      tree : f.walks.tree ≡ busy u ms o'
      goes : Where f.g w.o o'
      kept : kept_of o' ≡ a.state.message
      heads : size (headers_in o') ≤ 9
      tails : size (trailers_in o') ≤ 9

    grew : is_busy a.state.phase ≡ true → Grew
    grew t = by f.walks.tree refl
      where
        by : (z : Reading) → f.walks.tree ≡ z → Grew
        by start e = absurd (leads-placed (busy u ms w.o) f.g (goes_to ∙ ap some e))
        by (idle v ns) e =
            absurd (false≢true (sym (idle-phased a.state.phase _ _ _ (ap state_of (sym e) ∙ f.walks.same)) ∙ t))
        by (done v ns z) e = absurd (leads-placed (busy u ms w.o) f.g (goes_to ∙ ap some e))
        by (busy v ns o') e =
            let d = where-placed f.g (goes_to ∙ ap some e) in
            let k : busy v ns o' ≡ busy u ms o' = rw (d.unb, d.messages) in
            let c = opened y.service s a.state h' l' v ns o' (ap state_of (sym e) ∙ f.walks.same) in
            let n = f.walks.held.roomy.headers in
            let m = ap (λ (k : Kept). k.headers) c.kept in
            let j = kept-headers o' in
            let g = subst (λ (z : Reading). Good y z) e f.walks.good in
            let r = few-trailers o' g.nine.1.1 in
            record {
              o' = o';
              tree = e ∙ k;
              goes = d.goes;
              kept = c.kept;
              heads = omega (arith, n, m, j);
              tails = omega (arith, n, m, j, r);
            }

    module _ (t : is_busy a.state.phase ≡ true) where
      group-after : group_of (grew t).o' ≡ a.state.message.group
      group-after = sym (kept-group (grew t).o') ∙ ap (λ (k : Kept). k.group) (grew t).kept

      headers-after : size (headers_in (grew t).o') ≡ a.state.message.headers
      headers-after = sym (kept-headers (grew t).o') ∙ ap (λ (k : Kept). k.headers) (grew t).kept

      trailers-before : size (trailers_in w.o) ≡ q.trailers
      trailers-before = sym (ap (λ (z : Spots). z.trailers) w.spots)

      pub row_room : RowRoom a.state.message.group a.state.message.headers q.trailers
      row_room = room_as group-after headers-after trailers-before (room-on (grew t).goes (grew t).heads (grew t).tails)

      pub within_on : {q' : Spots} {rows' : List ℕ} → q' ≡ spot_step a.state.message.group q i a.next
          → rows' ≡ row_step a.state.message.group rows a.state.message.headers q.trailers i
          → Within y s from p u ms a.state h' l' b' a.next q' rows'
      within_on {q'} {rows'} c d = record {
        walks = f.walks;
        o = (grew t).o';
        tree = (grew t).tree;
        place = place-on y.service p (grew t).goes w.place (sym f.size);
        spots = c ∙ spot-as i a.next (sym group-after) w.spots ∙ sym (spots-on y.service p (grew t).goes w.place (sym f.size));
        starts =
            subst (λ (r : List ℕ). Rows y.service p (grew t).o' r) (sym (d ∙ row_as rows i (sym group-after) (sym headers-after) (sym trailers-before)))
            (rows_on y.service p (grew t).goes (grew t).heads (grew t).tails w.place w.starts);
      }

    -- the message is closed
    pub within-close : is_busy a.state.phase ≡ false → {c : Layout} → c ≡ laid_out x q i a.next → (j : ℕ) → UntBy true y s p u ms f.walks.tree c j rows
    within-close t {c} k j = by f.walks.tree refl
      where
        by : (z : Reading) → f.walks.tree ≡ z → UntBy true y s p u ms f.walks.tree c j rows
        by start e = absurd (leads-placed (busy u ms w.o) f.g (goes_to ∙ ap some e))
        by (done v ns z) e = absurd (leads-placed (busy u ms w.o) f.g (goes_to ∙ ap some e))
        by (busy v ns o') e =
            absurd (false≢true (sym t ∙ ap is_busy (opened y.service s a.state h' l' v ns o' (ap state_of (sym e) ∙ f.walks.same)).phase))
        by (idle v ns) e =
            let d = close-placed f.g (goes_to ∙ ap some e) in
            let n = now-open.kept in (
              w.o,
              elements_of f.g,
              (
                e ∙ rw (d.unb, d.messages),
                record {
                  unh = rw (k, w.spots);
                  heads = rw (k, w.spots);
                  body = rw (k, w.spots);
                  tail = rw (k, w.spots);
                  unt = rw k w.place;
                  end = rw k (sym f.size ∙ ap (λ (g : Segment). i + length (print_s y.service g)) d.unt);
                  inside = rw k f.inside;
                  headers = rw k (sym (ap (λ (m : Kept). m.headers) n) ∙ kept-headers w.o);
                  trailers = rw (k, w.spots);
                  starts = w.starts;
                  autack = rw k (sym (ap (λ (m : Kept). is_autack m.autack) n) ∙ kept-autack w.o);
                  loads = rw k (sym (ap (λ (m : Kept). m.sums.loads) n) ∙ kept-loads w.o (elements_of f.g));
                  grams = rw k (kept-magnitude w.o (elements_of f.g) n);
                  below = rw k (kept-below w.o (elements_of f.g) n);
                  light = rw k weighs-light;
                  reference = rw k now-open.ref;
                },
              ),
            )

-- ---- a section from its first segment

done-phased : (p : Phase) (b : List ℕ) (t : Snoc (List ℕ)) (R : Summary) → done_s ≡ phased p b t R → is_busy p ≡ false
done-phased Start b t R e = refl
done-phased Idle b t R e = refl
done-phased Busy b t R e = let z : ◌≡◌ {A = ℕ} 0 1 = cc in absurd (omega arith)
done-phased Done b t R e = refl

-- the message that the section opened, up to i
pub record Since {y : Syntax} {s : List ℕ} {from : ℕ} {x₀ : State} {h₀ l₀ b₀ : List ℕ} {i₀ : ℕ} (w : Walking y s from x₀ h₀ l₀ b₀ i₀) (x : State) (h l b : List ℕ) (i : ℕ) (q : Spots) (rows : List ℕ) : Type 0 where
  pub u : Leaf
  pub ms : Snoc Message
  pub tree : w.tree ≡ idle u ms
  pub within : Within y s from i₀ u ms x h l b i q rows

module _ {y : Syntax} {s : List ℕ} {from : ℕ} {x : State} {h l b : List ℕ} {i : ℕ} (w : Walking y s from x h l b i) (n : is_busy x.phase ≡ false)
    {a : Ahead} {h' l' b' : List ℕ} (f : Onward w a h' l' b') where
  was-open : {A : Type 0} (v : Leaf) (ns : Snoc Message) (o : Open) → w.tree ≡ busy v ns o → A
  was-open v ns o e = absurd (false≢true (sym n ∙ ap is_busy (opened y.service s x h l v ns o (ap state_of (sym e) ∙ w.same)).phase))

  from-tree : (z : Reading) → w.tree ≡ z → place z f.g ≡ some f.walks.tree
  from-tree z e = ap (λ (r : Reading). place r f.g) (sym e) ∙ f.passed.placed

  -- a message was opened
  pub section-open : is_busy a.state.phase ≡ true → {rows : List ℕ} → length rows ≡ 18 → {q : Spots} → ((r : Spots) → q ≡ spot_step Fresh r i a.next)
      → (a.state.message.group ≡ Fresh) × Since w a.state h' l' b' a.next q rows
  section-open t {rows} k {q} c = by w.tree refl f.walks.tree refl
    where
      closed : {A : Type 0} (v : Leaf) (ns : Snoc Message) → f.walks.tree ≡ idle v ns → A
      closed v ns e = absurd (false≢true (sym (idle-phased a.state.phase _ _ _ (ap state_of (sym e) ∙ f.walks.same)) ∙ t))

      by : (r : Reading) → w.tree ≡ r → (z : Reading) → f.walks.tree ≡ z → (a.state.message.group ≡ Fresh) × Since w a.state h' l' b' a.next q rows
      by start e z d = let j = begin-placed f.g (from-tree start e) in closed (elements_of f.g) nil j.fresh
      by (busy v ns o) e z d = was-open v ns o e
      by (done v ns r) e z d = absurd (leads-placed (done v ns r) f.g (from-tree (done v ns r) e))
      by (idle u ms) e start d = absurd (leads-placed (idle u ms) f.g (from-tree (idle u ms) e ∙ ap some d))
      by (idle u ms) e (idle v ns) d = closed v ns d
      by (idle u ms) e (done v ns r) d = absurd (false≢true (sym (done-phased a.state.phase _ _ _ (ap state_of (sym d) ∙ f.walks.same)) ∙ t))
      by (idle u ms) e (busy v ns o) d =
          let j = open-placed f.g (from-tree (idle u ms) e ∙ ap some d) in
          let r : busy v ns o ≡ busy u ms (msg (elements_of f.g) nil (plain nil) nil) = rw (j.unb, j.messages, j.fresh) in
          let z : a.next ≡ i + length (print_s y.service (seg segments.Unh (elements_of f.g))) = sym f.size ∙ ap (λ (g : Segment). i + length (print_s y.service g)) j.unh in
          let n = opened y.service s a.state h' l' u ms (msg (elements_of f.g) nil (plain nil) nil) (ap state_of (sym (d ∙ r)) ∙ f.walks.same) in (
            sym (ap (λ (m : Kept). m.group) n.kept),
            record {
              u = u;
              ms = ms;
              tree = e;
              within = record {
                walks = f.walks;
                o = msg (elements_of f.g) nil (plain nil) nil;
                tree = d ∙ r;
                place = omega (arith, z);
                spots = c (spots_of y.service i (msg (elements_of f.g) nil (plain nil) nil)) ∙ sym (spots-open y.service i (elements_of f.g) (spots_of y.service i (msg (elements_of f.g) nil (plain nil) nil)) a.next z);
                starts = rows-open y.service i (elements_of f.g) rows 0 0 0 k;
              };
            },
          )

  stays-as : {r z : Reading} → w.tree ≡ r → f.walks.tree ≡ z → Stays r z → Stays w.tree f.walks.tree
  stays-as {r} {z} e d q = subst (λ (v : Reading). Stays v f.walks.tree) (sym e) (subst (λ (v : Reading). Stays r v) (sym d) q)

  -- UNB or UNZ: no message more
  pub section-other : is_busy a.state.phase ≡ false → Stays w.tree f.walks.tree
  section-other t = by w.tree refl f.walks.tree refl
    where
      by : (r : Reading) → w.tree ≡ r → (z : Reading) → f.walks.tree ≡ z → Stays w.tree f.walks.tree
      by start e z d = stays-as e (begin-placed f.g (from-tree start e)).fresh (begins (elements_of f.g))
      by (busy v ns o) e z d = was-open v ns o e
      by (done v ns r) e z d = absurd (leads-placed (done v ns r) f.g (from-tree (done v ns r) e))
      by (idle u ms) e start d = absurd (leads-placed (idle u ms) f.g (from-tree (idle u ms) e ∙ ap some d))
      by (idle u ms) e (idle v ns) d = absurd (leads-placed (idle u ms) f.g (from-tree (idle u ms) e ∙ ap some d))
      by (idle u ms) e (done v ns r) d =
          let j = end-placed f.g (from-tree (idle u ms) e ∙ ap some d) in
          let k : done v ns r ≡ done u ms r = rw (j.unb, j.messages) in
          stays-as e (d ∙ k) (ends u ms r)
      by (idle u ms) e (busy v ns o) d =
          absurd (false≢true (sym t ∙ ap is_busy (opened y.service s a.state h' l' v ns o (ap state_of (sym d) ∙ f.walks.same)).phase))

-- ---- and to its end

open-wide : (σ : Service) (o : Open) → 0 < wide σ (show_open o)
open-wide σ (msg h hs b ts) =
    let n = long-print σ (seg segments.Unh h) in
    let a = wide-join σ (nil ▷ seg segments.Unh h +++ joined show_header hs +++ show_body b) (joined show_trailer ts) in
    let c = wide-join σ (nil ▷ seg segments.Unh h +++ joined show_header hs) (show_body b) in
    let d = wide-join σ (nil ▷ seg segments.Unh h) (joined show_header hs) in
    omega (arith, n, a, c, d)

-- what a message closed, or one that stays open, adds to the octets
until-wide : (y : Syntax) (s : List ℕ) (p : ℕ) (u : Leaf) (ms : Snoc Message) (d : Bool) (z : Reading) (c : Layout) (n : ℕ) (rows : List ℕ) → UntBy d y s p u ms z c n rows
    → wide y.service (shown (idle u ms)) < wide y.service (shown z)
until-wide y s p u ms true z c n rows q =
    let o = q.0 in
    let t = q.1 in
    let k = ap (λ (v : Reading). wide y.service (shown v)) q.2.0 in
    let a = wide-join y.service (nil ▷ seg segments.Unb u) (joined show_message ms +++ show_message (message o t)) in
    let b = wide-join y.service (joined show_message ms) (show_message (message o t)) in
    let d = wide-join y.service (nil ▷ seg segments.Unb u) (joined show_message ms) in
    let f = open-wide y.service o in
    omega (arith, k, a, b, d, f)
until-wide y s p u ms false z c n rows q =
    let k = ap (λ (v : Reading). wide y.service (shown v)) q.1.0 in
    let a = wide-join y.service (nil ▷ seg segments.Unb u +++ joined show_message ms) (show_open q.0) in
    let f = open-wide y.service q.0 in
    omega (arith, k, a, f)

module _ {y : Syntax} {s : List ℕ} {from : ℕ} {x : State} {h l b : List ℕ} {i : ℕ} (w : Walking y s from x h l b i) {u : Leaf} {ms : Snoc Message} (e : w.tree ≡ idle u ms)
    (h' l' b' rows : List ℕ) where
  section-by : (d : Bool) (z : Reading) (c : Layout) (n : ℕ) → UntBy d y s i u ms z c n rows → SectionBy d y s i w.tree z c rows
  section-by true z c n q = (u, ms, q.0, q.1, (e, q.2.0, q.2.1))
  section-by false z c n q = subst (λ (v : Reading). Stays v z) (sym e) (subst (λ (v : Reading). Stays (idle u ms) v) (sym q.1.0) (breaks u ms q.0))

  section-between : (d : Bool) (c : Layout) (n : ℕ) {v : State} (g : Walking y s from v h' l' b' n) → UntBy d y s i u ms g.tree c n rows → is_busy v.phase ≡ true → length s ≤ n
  section-between true c n {v} g q t = absurd (false≢true (sym (idle-phased v.phase _ _ _ (ap state_of (sym q.2.0) ∙ g.same)) ∙ t))
  section-between false c n g q t = q.1.1

  passing : (c : Section) → AtUnt y s from i u ms c h' l' b' rows → Passing w c h' l' b' rows
  passing c r = record {
    walks = r.walks;
    far =
        let p = w.placed in
        let q = r.walks.placed in
        let t = ap (λ (v : Reading). wide y.service (shown v)) e in
        let k = until-wide y s i u ms c.closed r.walks.tree c.layout c.next rows r.by in
        omega (arith, p, q, t, k);
    long = r.long;
    by = section-by c.closed r.walks.tree c.layout c.next r.by;
    between = section-between c.closed c.layout c.next r.walks r.by;
  }

  pub section-closed : (r : Result (Option Section) Breach) → UntIs y s from i u ms r h' l' b' rows → SectionIs w r h' l' b' rows
  section-closed (Ok (Some c)) q = passing c q
  section-closed (Ok None) q = absurd q
  section-closed (Err f) q = q

-- ---- a walk over sections: what holds at its head, with the marks m, the rows, and the lengths of l and b kept

pub record Looping (y : Syntax) (s : List ℕ) (from : ℕ) (x : State) (h l b : List ℕ) (i : ℕ) (m rows l₀ b₀ : List ℕ) : Type 0 where
  pub walks : Walking y s from x h l b i
  pub between : is_busy x.phase ≡ true → length s ≤ i
  pub marks : length m ≡ 40
  pub room : length rows ≡ 18
  pub names : length l ≡ length l₀
  pub slots : length b ≡ length b₀

-- before UNB
pub unread-start : {y : Syntax} {s : List ℕ} {from : ℕ} {x : State} {h l b : List ℕ} {i : ℕ} (w : Walking y s from x h l b i) → x ≡ unread_as → w.tree ≡ start
unread-start {y} {s} {from} {x} {h} {l} w e = by w.tree (w.same ∙ ap (λ (x : State). state_in y.service.release s x h l) e)
  where
    by : (z : Reading) → state_of z ≡ start_s → z ≡ start
    by start q = refl
    by (idle u ms) q = let k : ◌≡◌ {A = ℕ} 0 1 = cc in absurd (omega arith)
    by (busy u ms o) q = let k : ◌≡◌ {A = ℕ} 0 1 = cc in absurd (omega arith)
    by (done u ms z) q = let k : ◌≡◌ {A = ℕ} 0 1 = cc in absurd (omega arith)

pub looping-start : {y : Syntax} {s : List ℕ} {from : ℕ} {x : State} {h l b m rows : List ℕ} → Empty y s l b → (length m ≡ 40) × (length h ≡ 36) × (length rows ≡ 18) → x ≡ unread_as
    → Looping y s from x h l b from m rows l b
looping-start f n e = record { walks = walking_start f n.1 e; between = unread-idle e; marks = n.0; room = n.2; names = refl; slots = refl }

-- a section further
abbrev pub looping-on : {y : Syntax} {s : List ℕ} {from : ℕ} {x : State} {h l b : List ℕ} {i : ℕ} {m rows l₀ b₀ : List ℕ} (g : Looping y s from x h l b i m rows l₀ b₀)
    {c : Section} {h' l' b' m' rows' : List ℕ} → Passing g.walks c h' l' b' rows' → length m' ≡ 40 → length l' ≡ length l → length b' ≡ length b
    → Looping y s from c.state h' l' b' c.next m' rows' l₀ b₀
looping-on g p n a d = record { walks = p.walks; between = p.between; marks = n; room = p.long; names = a ∙ g.names; slots = d ∙ g.slots }

-- all that a section, or the end, needs
pub between-so : {y : Syntax} {s : List ℕ} {from : ℕ} {x : State} {h l b : List ℕ} {i : ℕ} {m rows l₀ b₀ : List ℕ} → Looping y s from x h l b i m rows l₀ b₀ → T (fit y.service)
    → Between y s x h l b i rows m
between-so {from = from} g f = record { fits = f; between = g.between; from = from; walks = g.walks; room = g.room; marks = g.marks }

module _ {y : Syntax} {s : List ℕ} {from : ℕ} {x : State} {h l b : List ℕ} {i : ℕ} (w : Walking y s from x h l b i) (h' l' b' rows : List ℕ) where
  reached-as : (r : Result (Option Section) Breach) {v : Result (Option Section) Breach} → r ≡ v → ReachedIs w r h' l' b' rows → ReachedIs w v h' l' b' rows
  reached-as r q a = subst (λ (r : Result (Option Section) Breach). ReachedIs w r h' l' b' rows) q a

  pub passed : (r : Result (Option Section) Breach) {c : Section} → r ≡ Ok (Some c) → ReachedIs w r h' l' b' rows → Passing w c h' l' b' rows
  passed r q a = (reached-as r q a).1

  -- a section starts before the end, and brings the walk nearer to it
  pub starts : (r : Result (Option Section) Breach) {c : Section} → r ≡ Ok (Some c) → ReachedIs w r h' l' b' rows → i < length s
  starts r q a = (reached-as r q a).0

  pub nearer : (r : Result (Option Section) Breach) {c : Section} → r ≡ Ok (Some c) → ReachedIs w r h' l' b' rows → length s - c.next < length s - i
  nearer r {c} q a =
      let n = starts r q a in
      let f = (passed r q a).far in
      omega (arith, n, f)

  pub read_all : (r : Result (Option Section) Breach) → r ≡ (Ok None) → ReachedIs w r h' l' b' rows → ReadAll w
  read_all r q a = reached-as r q a

  pub stopped : (r : Result (Option Section) Breach) {f : Breach} → r ≡ Err f → ReachedIs w r h' l' b' rows → answer_from y s from ≡ refused f.number f.place
  stopped r q a = reached-as r q a
