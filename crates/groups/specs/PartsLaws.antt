-- Where the parts of the message that is named stand; and that the groups which the code finds are those of the reading.
use Rattle.std.specs.Prelude.{ℕ, ◌+◌, ◌≡◌, List, T, get_or}
use Rattle.std.proofs.Common.{arith, ap, ◌∙◌, sym, subst}
use Rattle.std.proofs.Math.Path.{fun_ext}
use Rattle.std.proofs.Math.Option.{Option, none, some}
use Rattle.syntax.specs.Content.{compared}
use Rattle.syntax.specs.Refusals.{at_zero}
use Rattle.syntax.specs.Service.{fit}
use Rattle.syntax.specs.declared.Refusal.{Refusal}
use Rattle.syntax.specs.declared.Service.{Service}
use Rattle.syntax.specs.declared.Syntax.{Syntax}
use Rattle.grammar.specs.Lists.{Snoc, nil, ◌▷◌, ◌+++◌, joined, list, size, holds}
use Rattle.grammar.specs.Segments.{Unh, Unt, seg}
use Rattle.grammar.specs.Interchange.{Leaf, Header, Trailer, Body, Open, msg, message, show_header, show_trailer, show_body, show_open, show_message}
use Rattle.grammar.specs.Rules.{autack, ok_message, ref_h, ref_t}
use Rattle.grammar.specs.Valid.{Interchange}
use Rattle.grammar.specs.Verdict.{Verdict, accepted, refused_with, verdict_of}
use Rattle.grammar.specs.Places.{wide}
use Rattle.grammar.proofs.PlacesLaws.{wide-join}
use Rattle.grammar.specs.Named.{Placed, placed}
use Rattle.message.specs.Heads.{upto}
use Rattle.walk.specs.Layout.{heads_at, body_at, tail_at}
use Rattle.walk.specs.Sections.{PartsLie}
use Rattle.walk.specs.declared.sections.Layout.{Layout}
use Rattle.groups.specs.Stand.{Row, Stand}
use Rattle.groups.specs.StandLaws.{stand-front, stand-back, stand-row}
use Rattle.groups.specs.Groups.{chosen, chosen_by, sought_in, range_of}
use Rattle.groups.specs.GroupsLaws.{sought-chosen, chosen-stands, names_stand, header-named, trailer-named}
use Rattle.groups.specs.Parts.{header_named, trailer_named, header_at, trailer_at, body_in}
use Rattle.groups.specs.Links.{tie_in, link_from}
use Rattle.groups.specs.LinksLaws.{TieAt, tied}
use Rattle.groups.specs.Calls.{refused_as, or_missing, answered_by, then, message_in, Holds}

-- ---- a call that names a message: where it is refused, and where the message is found

module _ {A : Type 0} (s m : List ℕ) (ask : Interchange → Placed → Option A) where
  -- what a call asks of the message it names
  abbrev asks : Interchange → Option A
  asks i = then (message_in i m) (ask i)

  pub call-refused : {f : Refusal} → verdict_of s ≡ refused_with f → answered_by (verdict_of s) asks ≡ refused_as f
  call-refused e = ap (λ (v : Verdict). answered_by v asks) e

  pub call-missing : (i : Interchange) × ((verdict_of s ≡ accepted i) × (message_in i m ≡ none)) → answered_by (verdict_of s) asks ≡ refused_as (at_zero 13)
  call-missing k = ap (λ (v : Verdict). answered_by v asks) k.1.0 ∙ ap (λ (o : Option Placed). or_missing (then o (ask k.0))) k.1.1

  pub call-holds : {y : Syntax} {c : Layout} {rows : List ℕ} (h : Holds s m y c rows)
      → answered_by (verdict_of s) asks ≡ or_missing (ask h.i (placed (message h.o h.t) h.q))
  call-holds h = ap (λ (v : Verdict). answered_by v asks) h.read ∙ ap (λ (o : Option Placed). or_missing (then o (ask h.i))) h.named

-- ---- the parts of a message that stands at q

module _ (σ : Service) (s : List ℕ) (q : ℕ) (h : Leaf) (hs : Snoc Header) (b : Body) (ts : Snoc Trailer) (t : Leaf)
    (w : Stand σ s q (show_message (message (msg h hs b ts) t))) where
  open-stands : Stand σ s q (nil ▷ seg Unh h +++ joined show_header hs +++ show_body b +++ joined show_trailer ts)
  open-stands = stand-front σ s q (show_open (msg h hs b ts)) (nil ▷ seg Unt t) w

  at-heads : q + wide σ (nil ▷ seg Unh h) ≡ heads_at σ q (msg h hs b ts)
  at-heads = omega arith

  pub headers-stand : Stand σ s (heads_at σ q (msg h hs b ts)) (joined show_header hs)
  headers-stand =
      subst (λ (i : ℕ). Stand σ s i (joined show_header hs)) at-heads
      (stand-back σ s q (nil ▷ seg Unh h) (joined show_header hs)
      (stand-front σ s q (nil ▷ seg Unh h +++ joined show_header hs) (show_body b)
      (stand-front σ s q (nil ▷ seg Unh h +++ joined show_header hs +++ show_body b) (joined show_trailer ts) open-stands)))

  pub body-stands : Stand σ s (body_at σ q (msg h hs b ts)) (show_body b)
  body-stands =
      let e : q + wide σ (nil ▷ seg Unh h +++ joined show_header hs) ≡ body_at σ q (msg h hs b ts) = omega (arith, wide-join σ (nil ▷ seg Unh h) (joined show_header hs)) in
      subst (λ (i : ℕ). Stand σ s i (show_body b)) e
      (stand-back σ s q (nil ▷ seg Unh h +++ joined show_header hs) (show_body b)
      (stand-front σ s q (nil ▷ seg Unh h +++ joined show_header hs +++ show_body b) (joined show_trailer ts) open-stands))

  pub trailers-stand : Stand σ s (tail_at σ q (msg h hs b ts)) (joined show_trailer ts)
  trailers-stand =
      let e : q + wide σ (nil ▷ seg Unh h +++ joined show_header hs +++ show_body b) ≡ tail_at σ q (msg h hs b ts) =
      omega (arith, wide-join σ (nil ▷ seg Unh h +++ joined show_header hs) (show_body b), wide-join σ (nil ▷ seg Unh h) (joined show_header hs)) in
      subst (λ (i : ℕ). Stand σ s i (joined show_trailer ts)) e
      (stand-back σ s q (nil ▷ seg Unh h +++ joined show_header hs +++ show_body b) (joined show_trailer ts) open-stands)

  pub unt-behind : q + wide σ (show_open (msg h hs b ts)) ≡ tail_at σ q (msg h hs b ts) + wide σ (joined show_trailer ts)
  unt-behind =
      omega (
        arith,
        wide-join σ (nil ▷ seg Unh h +++ joined show_header hs +++ show_body b) (joined show_trailer ts),
        wide-join σ (nil ▷ seg Unh h +++ joined show_header hs) (show_body b),
        wide-join σ (nil ▷ seg Unh h) (joined show_header hs),
      )

-- ---- the header and the trailer that the code finds, of a message that stands at q and has the layout c

module _ (σ : Service) (fits : T (fit σ)) (s : List ℕ) (q : ℕ) (h : Leaf) (hs : Snoc Header) (b : Body) (ts : Snoc Trailer) (t : Leaf) {c : Layout} {rows : List ℕ}
    (l : PartsLie σ s q (msg h hs b ts) t c rows) (w : Stand σ s q (show_message (message (msg h hs b ts) t))) (r : List ℕ) where
  pub header-sought : sought_in σ s rows 0 2 r c.headers c.body ≡ range_of show_header σ (heads_at σ q (msg h hs b ts)) (chosen_by ref_h hs r)
  header-sought =
      ap (λ (n : ℕ). sought_in σ s rows 0 2 r n c.body) l.headers
      ∙ sought-chosen show_header ref_h σ s rows 0 2 r (heads_at σ q (msg h hs b ts)) hs c.body (zeros (size hs) ∙ l.starts.heads) l.body
      (names_stand show_header ref_h σ s rows 0 2 r (heads_at σ q (msg h hs b ts)) (λ i a x. header-named σ fits s i a x) hs (headers-stand σ s q h hs b ts t w))
    where
      zeros : (n : ℕ) → upto n (λ (i : ℕ). get_or rows (0 + i) 0) ≡ upto n (λ (i : ℕ). get_or rows i 0)
      zeros n = ap (upto n) (fun_ext (λ i. let e : 0 + i ≡ i = omega arith in ap (λ (j : ℕ). get_or rows j 0) e))

  pub trailer-sought : sought_in σ s rows 9 1 r c.trailers c.unt ≡ range_of show_trailer σ (tail_at σ q (msg h hs b ts)) (chosen_by ref_t ts r)
  trailer-sought =
      ap (λ (n : ℕ). sought_in σ s rows 9 1 r n c.unt) l.trailers
      ∙ sought-chosen show_trailer ref_t σ s rows 9 1 r (tail_at σ q (msg h hs b ts)) ts c.unt l.starts.tails (l.unt ∙ unt-behind σ s q h hs b ts t w)
      (names_stand show_trailer ref_t σ s rows 9 1 r (tail_at σ q (msg h hs b ts)) (λ i a x. trailer-named σ fits s i a x) ts (trailers-stand σ s q h hs b ts t w))

-- ---- the same, of the message that is named

module _ {s m : List ℕ} {y : Syntax} {c : Layout} {rows : List ℕ} (h : Holds s m y c rows) (r : List ℕ) where
  pub header-found : sought_in y.service s rows 0 2 (compared r) c.headers c.body ≡ range_of show_header y.service (heads_at y.service h.q h.o) (header_named h.o r)
  header-found = by h.o h.laid h.stands
    where
      by : (o : Open) → PartsLie y.service s h.q o h.t c rows → Stand y.service s h.q (show_message (message o h.t))
          → sought_in y.service s rows 0 2 (compared r) c.headers c.body ≡ range_of show_header y.service (heads_at y.service h.q o) (header_named o r)
      by (msg u hs b ts) l w = header-sought y.service h.fits s h.q u hs b ts h.t l w (compared r)

  pub trailer-found : sought_in y.service s rows 9 1 (compared r) c.trailers c.unt ≡ range_of show_trailer y.service (tail_at y.service h.q h.o) (trailer_named h.o r)
  trailer-found = by h.o h.laid h.stands
    where
      by : (o : Open) → PartsLie y.service s h.q o h.t c rows → Stand y.service s h.q (show_message (message o h.t))
          → sought_in y.service s rows 9 1 (compared r) c.trailers c.unt ≡ range_of show_trailer y.service (tail_at y.service h.q o) (trailer_named o r)
      by (msg u hs b ts) l w = trailer-sought y.service h.fits s h.q u hs b ts h.t l w (compared r)

  -- they stand where they are said to
  pub header-there : {hs : Snoc Header} {x : Header} → header_named h.o r ≡ some (chosen hs x) → Stand y.service s (header_at y.service h.q h.o (chosen hs x)) (show_header x)
  header-there {hs} {x} e = by h.o e h.stands
    where
      by : (o : Open) → header_named o r ≡ some (chosen hs x) → Stand y.service s h.q (show_message (message o h.t))
          → Stand y.service s (header_at y.service h.q o (chosen hs x)) (show_header x)
      by (msg u ks b ts) e w =
          chosen-stands show_header ref_h y.service s rows 0 2 (compared r) (heads_at y.service h.q (msg u ks b ts)) ks e (headers-stand y.service s h.q u ks b ts h.t w)

  pub trailer-there : {ts : Snoc Trailer} {x : Trailer} → trailer_named h.o r ≡ some (chosen ts x)
      → Stand y.service s (trailer_at y.service h.q h.o (chosen ts x)) (show_trailer x)
  trailer-there {ts} {x} e = by h.o e h.stands
    where
      by : (o : Open) → trailer_named o r ≡ some (chosen ts x) → Stand y.service s h.q (show_message (message o h.t))
          → Stand y.service s (trailer_at y.service h.q o (chosen ts x)) (show_trailer x)
      by (msg u hs b ks) e w =
          chosen-stands show_trailer ref_t y.service s rows 9 1 (compared r) (tail_at y.service h.q (msg u hs b ks)) ks e (trailers-stand y.service s h.q u hs b ks h.t w)

  -- the body, and the link that it has
  pub body-row : Row y.service s c.body (list (show_body (body_in h.o))) c.tail
  body-row = by h.o h.laid h.stands
    where
      by : (o : Open) → PartsLie y.service s h.q o h.t c rows → Stand y.service s h.q (show_message (message o h.t))
          → Row y.service s c.body (list (show_body (body_in o))) c.tail
      by (msg u hs b ts) l w =
          subst (λ (i : ℕ). Row y.service s c.body (list (show_body b)) i) (sym l.tail)
          (subst (λ (i : ℕ). Row y.service s i (list (show_body b)) (tail_at y.service h.q (msg u hs b ts))) (sym l.body)
          (stand-row y.service s (body_at y.service h.q (msg u hs b ts)) (show_body b) (body-stands y.service s h.q u hs b ts h.t w)))

  pub body-tied : TieAt y.service s (tie_in (body_in h.o) r) (link_from y.service c.body c.body (list (show_body (body_in h.o))) (compared r))
  body-tied = by h.o h.laid h.stands h.ordered
    where
      by : (o : Open) → PartsLie y.service s h.q o h.t c rows → Stand y.service s h.q (show_message (message o h.t)) → holds (ok_message (message o h.t))
          → TieAt y.service s (tie_in (body_in o) r) (link_from y.service c.body c.body (list (show_body (body_in o))) (compared r))
      by (msg u hs b ts) l w k =
          subst (λ (i : ℕ). TieAt y.service s (tie_in b r) (link_from y.service i i (list (show_body b)) (compared r))) (sym l.body)
          (tied y.service r s (body_at y.service h.q (msg u hs b ts)) (autack u) hs b k.0.1.1.0 (body-stands y.service s h.q u hs b ts h.t w))
