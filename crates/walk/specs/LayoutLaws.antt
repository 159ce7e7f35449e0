-- What is kept of where the parts stand follows the tree: a law for each way that a segment goes.
use Rattle.std.specs.Prelude.{ℕ, suc, ◌+◌, ◌-◌, ◌≤◌, ◌<◌, Bool, false, cond, List, ◌≡◌, refl, T, eqb, length, get_or, set}
use Rattle.std.proofs.Common.{arith, add-one, ap, ◌∙◌, sym, subst, eq-eqb, ne_eqb, length-set, get_or-set_same, get_or-set_other}
use Rattle.std.proofs.Math.Option.{none}
use Rattle.syntax.specs.Tree.{Segment, print_s}
use Rattle.syntax.specs.declared.Service.{Service}
use Rattle.grammar.specs.Lists.{Snoc, nil, ◌▷◌, ◌+++◌, joined, size}
use Rattle.grammar.specs.Segments.{Unh, Ush, seg}
use Rattle.grammar.specs.Interchange.{Leaf, certificate, Header, header, Trailer, trailer, Body, plain, ack, Open, msg, show_header, show_trailer, show_body, show_open}
use Rattle.grammar.specs.Places.{wide, starts_of, headers_in, trailers_in}
use Rattle.grammar.specs.Going.{more, begun_b, Where, opens_header, in_header, in_items, opens_trailer, in_trailer}
use Rattle.grammar.proofs.PlacesLaws.{wide-join}
use Rattle.message.specs.Summary.{group_of}
use Rattle.message.specs.Heads.{upto}
use Rattle.message.specs.HeadsLaws.{upto-same}
use Rattle.message.specs.declared.Group.{Group}
use Rattle.message.specs.declared.Group.TheVariants.{Opened, Header as InHeader, Trailer as InTrailer}
use Rattle.walk.specs.declared.layout.Spots.{Spots}
use Rattle.walk.specs.Layout.{heads_at, tail_at, spots_of, spot_step, Rows, row_step, RowRoom}

-- ---- a segment that goes into an open message is shown last in it

pub shows-where : {g : Segment} {o q : Open} → Where g o q → show_open q ≡ show_open o ▷ g
shows-where (opens_header {h} {hs} c e) = ap (λ (f : Segment). (nil ▷ seg Unh h +++ joined show_header hs) ▷ f) (sym e)
shows-where (in_header {h} {hs} e t) = ap (λ (s : Snoc Segment). nil ▷ seg Unh h +++ (joined show_header hs +++ s)) e
shows-where (in_items {h} {hs} e t) = ap (λ (s : Snoc Segment). nil ▷ seg Unh h +++ joined show_header hs +++ s) e
shows-where (opens_trailer {h} {hs} {b} {ts} c e) = ap (λ (f : Segment). show_open (msg h hs b ts) ▷ f) (sym e)
shows-where (in_trailer {h} {hs} {b} {ts} c r e) = ap (λ (f : Segment). show_open (msg h hs b (ts ▷ trailer c none)) ▷ f) (sym e)

-- so the place behind the segment is the place behind the message
pub place-on : (σ : Service) (p : ℕ) {g : Segment} {at next : ℕ} {o q : Open} → Where g o q → at ≡ p + wide σ (show_open o)
    → next ≡ at + length (print_s σ g) → next ≡ p + wide σ (show_open q)
place-on σ p {g} {at} {next} {o} {q} w a n = let e : wide σ (show_open q) ≡ wide σ (show_open o) + length (print_s σ g) = ap (wide σ) (shows-where w) in omega arith

-- ---- by the group that a segment leaves open

-- a header group
heads-step : (h : Leaf) (hs : Snoc Header) (z : Header) (x : Spots) (at next : ℕ)
    → spot_step (group_of (msg h (hs ▷ z) (plain nil) nil)) x at next ≡ record { unh = x.unh; heads = x.heads; body = next; tail = next; trailers = x.trailers }
heads-step h hs (header c us nil) x at next = refl
heads-step h hs (header c us (cs ▷ certificate d vs r)) x at next = refl

heads-rows : (h : Leaf) (hs : Snoc Header) (z : Header) → T (more z) → (rows : List ℕ) (n k at : ℕ)
    → row_step (group_of (msg h (hs ▷ z) (plain nil) nil)) rows n k at ≡ rows
heads-rows h hs (header c nil nil) m rows n k at = absurd m
heads-rows h hs (header c (us ▷ a) nil) m rows n k at = rw (ne_eqb (suc (size us)) 0 (λ e. omega (arith, e)))
heads-rows h hs (header c us (cs ▷ certificate d vs r)) m rows n k at = refl

heads-room : (h : Leaf) (hs : Snoc Header) (z : Header) (n k : ℕ) → 1 ≤ n → n ≤ 9 → RowRoom (group_of (msg h (hs ▷ z) (plain nil) nil)) n k
heads-room h hs (header c us nil) n k l m = (l, m)
heads-room h hs (header c us (cs ▷ certificate d vs r)) n k l m = tt

-- a body
items-step : (h : Leaf) (hs : Snoc Header) (b : Body) → T (begun_b b) → (x : Spots) (at next : ℕ)
    → spot_step (group_of (msg h hs b nil)) x at next ≡ record { unh = x.unh; heads = x.heads; body = x.body; tail = next; trailers = x.trailers }
items-step h hs (plain nil) m x at next = absurd m
items-step h hs (plain (b ▷ i)) m x at next = refl
items-step h hs (ack c ls) m x at next = refl

items-rows : (h : Leaf) (hs : Snoc Header) (b : Body) → T (begun_b b) → (rows : List ℕ) (n k at : ℕ) → row_step (group_of (msg h hs b nil)) rows n k at ≡ rows
items-rows h hs (plain nil) m rows n k at = absurd m
items-rows h hs (plain (b ▷ i)) m rows n k at = refl
items-rows h hs (ack c ls) m rows n k at = refl

items-room : (h : Leaf) (hs : Snoc Header) (b : Body) → T (begun_b b) → (n k : ℕ) → RowRoom (group_of (msg h hs b nil)) n k
items-room h hs (plain nil) m n k = absurd m
items-room h hs (plain (b ▷ i)) m n k = tt
items-room h hs (ack c ls) m n k = tt

-- ---- the spots

-- two that agree but for the body and the tail
from-body : (u h b d t v n : ℕ) → b ≡ d → t ≡ v
    → ◌≡◌ {A = Spots} (record { unh = u; heads = h; body = b; tail = t; trailers = n }) (record { unh = u; heads = h; body = d; tail = v; trailers = n })
from-body u h b d t v n e f = rw (e, f)

module _ (σ : Service) (p : ℕ) where
  -- the place behind an open message is its first trailer's, and what the trailers take
  pub spot-place : (o : Open) → p + wide σ (show_open o) ≡ tail_at σ p o + wide σ (joined show_trailer (trailers_in o))
  spot-place (msg h hs b ts) =
      omega
      (arith, wide-join σ (nil ▷ seg Unh h +++ joined show_header hs +++ show_body b) (joined show_trailer ts), wide-join σ (nil ▷ seg Unh h +++ joined show_header hs) (show_body b), wide-join σ (nil ▷ seg Unh h) (joined show_header hs))

  module _ {g : Segment} {at next : ℕ} where
    pub spots-on : {o q : Open} → Where g o q → at ≡ p + wide σ (show_open o) → next ≡ at + length (print_s σ g)
        → spots_of σ p q ≡ spot_step (group_of q) (spots_of σ p o) at next
    spots-on (opens_header {h} {hs} c e) a n =
        let w : length (print_s σ g) ≡ length (print_s σ (seg Ush c)) = ap (λ (f : Segment). length (print_s σ f)) e in
        let k = spot-place (msg h hs (plain nil) nil) in
        from-body _ _ _ _ _ _ _ (omega arith) (omega arith)
    spots-on (in_header {h} {hs} {x} {z} e t) a n =
        let w : wide σ (show_header z) ≡ wide σ (show_header x) + length (print_s σ g) = ap (wide σ) e in
        let i = wide-join σ (joined show_header hs) (show_header x) in
        let j = wide-join σ (joined show_header hs) (show_header z) in
        let k = spot-place (msg h (hs ▷ x) (plain nil) nil) in
        from-body _ _ _ _ _ _ _ (omega arith) (omega arith)
        ∙ sym (heads-step h hs z (spots_of σ p (msg h (hs ▷ x) (plain nil) nil)) at next)
    spots-on (in_items {h} {hs} {b} {d} e t) a n =
        let w : wide σ (show_body d) ≡ wide σ (show_body b) + length (print_s σ g) = ap (wide σ) e in
        let k = spot-place (msg h hs b nil) in
        from-body _ _ _ _ _ _ _ refl (omega arith)
        ∙ sym (items-step h hs d t (spots_of σ p (msg h hs b nil)) at next)
    spots-on (opens_trailer {h} {hs} {b} {ts} c e) a n = rw (add-one (size ts))
    spots-on (in_trailer {h} {hs} {b} {ts} c r e) a n = refl

  -- a message just opened, whatever was kept before
  pub spots-open : (h : Leaf) (x : Spots) (next : ℕ) → next ≡ p + length (print_s σ (seg Unh h)) → spots_of σ p (msg h nil (plain nil) nil) ≡ spot_step Opened x p next
  spots-open h x next n = rw n (from-body _ _ _ _ _ _ _ (omega arith) (omega arith))

-- ---- the rows

-- what is stored at i is not where f reads
others : (rows : List ℕ) (f : ℕ → ℕ) (n i v : ℕ) → ((j : ℕ) → j < n → f j ≡ i → ⊥)
    → upto n (λ (j : ℕ). get_or (set rows i v) (f j) 0) ≡ upto n (λ (j : ℕ). get_or rows (f j) 0)
others rows f n i v o = upto-same n (λ (j : ℕ). get_or (set rows i v) (f j) 0) (λ (j : ℕ). get_or rows (f j) 0) (λ j l. get_or-set_other rows i (f j) v 0 (o j l))

-- one more, stored behind those that are there
one_more : (rows : List ℕ) (f : ℕ → ℕ) (n v : ℕ) → f n < length rows → ((j : ℕ) → j < n → f j ≡ f n → ⊥)
    → upto (suc n) (λ (j : ℕ). get_or (set rows (f n) v) (f j) 0) ≡ upto n (λ (j : ℕ). get_or rows (f j) 0) ▷ v
one_more rows f n v l o = rw (get_or-set_same rows (f n) v 0 l, others rows f n (f n) v o)

module _ (σ : Service) (p : ℕ) {at : ℕ} {rows : List ℕ} where
  header-noted : (h c : Leaf) (hs : Snoc Header) → size hs < 9 → at ≡ p + wide σ (show_open (msg h hs (plain nil) nil)) → Rows σ p (msg h hs (plain nil) nil) rows
      → Rows σ p (msg h (hs ▷ header c nil nil) (plain nil) nil) (set rows (size hs) at)
  header-noted h c hs l a r = record {
    long = length-set rows (size hs) at ∙ r.long;
    heads =
        one_more rows (λ (i : ℕ). i) (size hs) at (omega (arith, r.long)) (λ j k e. omega (arith, k, e))
        ∙ ap (λ (s : Snoc ℕ). s ▷ at) r.heads
        ∙ ap (λ (n : ℕ). starts_of show_header σ (heads_at σ p (msg h hs (plain nil) nil)) hs ▷ n) (omega (arith, spot-place σ p (msg h hs (plain nil) nil)));
    tails = refl;
  }

  trailer-noted : (h c : Leaf) (hs : Snoc Header) (b : Body) (ts : Snoc Trailer) → size hs ≤ 9 → size ts < 9 → at ≡ p + wide σ (show_open (msg h hs b ts))
      → Rows σ p (msg h hs b ts) rows → Rows σ p (msg h hs b (ts ▷ trailer c none)) (set rows (9 + size ts) at)
  trailer-noted h c hs b ts l m a r = record {
    long = length-set rows (9 + size ts) at ∙ r.long;
    heads = others rows (λ (i : ℕ). i) (size hs) (9 + size ts) at (λ j k e. omega (arith, k, e, l)) ∙ r.heads;
    tails =
        one_more rows (λ (j : ℕ). 9 + j) (size ts) at (omega (arith, r.long)) (λ j k e. omega (arith, k, e))
        ∙ ap (λ (s : Snoc ℕ). s ▷ at) r.tails
        ∙ ap (λ (n : ℕ). starts_of show_trailer σ (tail_at σ p (msg h hs b ts)) ts ▷ n) (a ∙ spot-place σ p (msg h hs b ts));
  }

  pub rows_on : {g : Segment} {o q : Open} → Where g o q → size (headers_in q) ≤ 9 → size (trailers_in q) ≤ 9 → at ≡ p + wide σ (show_open o) → Rows σ p o rows
      → Rows σ p q (row_step (group_of q) rows (size (headers_in q)) (size (trailers_in o)) at)
  rows_on (opens_header {h} {hs} c e) l m a r = let k : suc (size hs) - 1 ≡ size hs = omega arith in rw k (header-noted h c hs (omega arith) a r)
  rows_on (in_header {h} {hs} {x} {z} e t) l m a r = rw (heads-rows h hs z t rows (suc (size hs)) 0 at) (record { long = r.long; heads = r.heads; tails = refl })
  rows_on (in_items {h} {hs} {b} {d} e t) l m a r = rw (items-rows h hs d t rows (size hs) 0 at) (record { long = r.long; heads = r.heads; tails = refl })
  rows_on (opens_trailer {h} {hs} {b} {ts} c e) l m a r = trailer-noted h c hs b ts l (omega arith) a r
  rows_on (in_trailer {h} {hs} {b} {ts} c w e) l m a r = record { long = r.long; heads = r.heads; tails = r.tails }

-- a message just opened, with any rows
pub rows-open : (σ : Service) (p : ℕ) (h : Leaf) (rows : List ℕ) (headers trailers at : ℕ) → length rows ≡ 18
    → Rows σ p (msg h nil (plain nil) nil) (row_step Opened rows headers trailers at)
rows-open σ p h rows headers trailers at l = record { long = l; heads = refl; tails = refl }

-- there is room for the step
pub room-on : {g : Segment} {o q : Open} → Where g o q → size (headers_in q) ≤ 9 → size (trailers_in q) ≤ 9
    → RowRoom (group_of q) (size (headers_in q)) (size (trailers_in o))
room-on (opens_header {h} {hs} c e) l m = (omega arith, l)
room-on (in_header {h} {hs} {x} {z} e t) l m = heads-room h hs z (suc (size hs)) 0 (omega arith) l
room-on (in_items {h} {hs} {b} {d} e t) l m = items-room h hs d t (size hs) 0
room-on (opens_trailer {h} {hs} {b} {ts} c e) l m = omega arith
room-on (in_trailer {h} {hs} {b} {ts} c w e) l m = tt

-- ---- the code's step, by the arm that it takes: g is what the arm says

abbrev pub Stepped : Group → Spots → List ℕ → ℕ → ℕ → ℕ → ℕ → Spots → List ℕ → Type 0
Stepped g x rows headers trailers at next r left = (r ≡ spot_step g x at next) × (left ≡ row_step g rows headers trailers at)

pub stepped : {g k : Group} (x : Spots) (rows : List ℕ) (headers trailers at next : ℕ) (r : Spots) (left : List ℕ) → g ≡ k
    → Stepped k x rows headers trailers at next r left → Stepped g x rows headers trailers at next r left
stepped x rows headers trailers at next r left e q = subst (λ (j : Group). Stepped j x rows headers trailers at next r left) (sym e) q

pub room-header : {g : Group} {n : ℕ} (headers trailers : ℕ) → g ≡ InHeader n → RowRoom g headers trailers → (1 ≤ headers) × (headers ≤ 9)
room-header headers trailers e r = subst (λ (j : Group). RowRoom j headers trailers) e r

pub room-trailer : {g : Group} {u : Bool} (headers trailers : ℕ) → g ≡ InTrailer u → u ≡ false → RowRoom g headers trailers → trailers < 9
room-trailer headers trailers e f r = subst (λ (j : Group). RowRoom j headers trailers) (e ∙ ap InTrailer f) r

-- a USH is noted, and nothing else of a header group
pub noted-row : (n : ℕ) (a b left : List ℕ) → n ≡ 0 → left ≡ a → left ≡ cond (eqb n 0) a b
noted-row n a b left e q = rw (eq-eqb n 0 e) q

pub kept_row : (n : ℕ) (a b left : List ℕ) → (n ≡ 0 → ⊥) → left ≡ b → left ≡ cond (eqb n 0) a b
kept_row n a b left e q = rw (ne_eqb n 0 e) q
