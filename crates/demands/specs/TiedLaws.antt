-- The tie that is found is that of the first USX under which a USY names the header.
use Rattle.std.specs.Prelude.{ℕ, ◌≡◌, List, Bool, cond, T}
use Rattle.std.proofs.Math.Path.{refl}
use Rattle.std.proofs.Common.{ap, ◌∙◌, sym, subst}
use Rattle.std.proofs.Math.Option.{Option, none, some}
use Rattle.std.proofs.Math.Bool.{true, false}
use Rattle.std.proofs.lemmas.Bool.{false≢true}
use Rattle.syntax.specs.Content.{compared}
use Rattle.syntax.specs.Octets.{same}
use Rattle.syntax.proofs.ContentLaws.{same_self}
use Rattle.grammar.specs.Lists.{Snoc, nil, ◌▷◌, ◌+++◌}
use Rattle.grammar.proofs.ListsLaws.{last_of, first-of}
use Rattle.grammar.specs.SnocLaws.{not-nil}
use Rattle.grammar.specs.TestLaws.{passes}
use Rattle.grammar.proofs.PlacingLaws.{same-eq}
use Rattle.grammar.specs.Segments.{usy0534}
use Rattle.grammar.specs.Interchange.{Leaf, Link, link, Body, plain, ack}
use Rattle.message.specs.Summary.{or_else}
use Rattle.groups.specs.Links.{Tie, tie, first_usy, first_link, tie_in}
use Rattle.groups.specs.CallsLaws.{none-some}
use Rattle.demands.specs.SealedListLaws.{not_same}
use Rattle.demands.specs.Stated.{In, usys_of, FirstUsx}

-- ---- one of a row with one more

module _ {A : Type 0} {row : Snoc A} {x a : A} where
  pub in-last : a ≡ x → In a (row ▷ x)
  in-last e = record { before = row; behind = nil; whole = ap (λ (y : A). row ▷ y) (sym e) }

  pub in-earlier : In a row → In a (row ▷ x)
  in-earlier w = record { before = w.before; behind = w.behind ▷ x; whole = ap (λ (s : Snoc A). s ▷ x) w.whole }

  pub in-cases : {C : Type 0} → In a (row ▷ x) → (a ≡ x → C) → (In a row → C) → C
  in-cases {C} w f g = by w.behind w.whole
    where
      by : (l : Snoc A) → row ▷ x ≡ w.before ▷ a +++ l → C
      by nil e = f (sym (last_of e))
      by (l ▷ y) e = g (record { before = w.before; behind = l; whole = first-of e })

pub in-none : {A C : Type 0} {a : A} → In a nil → C
in-none {A} {C} {a} w = by w.behind w.whole
  where
    by : (l : Snoc A) → nil ≡ w.before ▷ a +++ l → C
    by nil e = absurd (not-nil w.before a e)
    by (l ▷ y) e = absurd (not-nil (w.before ▷ a +++ l) y e)

-- ---- the USYs under one USX

module _ (x : Leaf) (r : List ℕ) where
  -- none of these names it
  abbrev Silent : Snoc Leaf → Type 0
  Silent ys = (y : Leaf) → In y ys → usy0534 y ≡ r → ⊥

  usy-none : (ys : Snoc Leaf) → first_usy x ys r ≡ none → Silent ys
  usy-none nil e y w h = in-none w
  usy-none (ys ▷ u) e y w h = by (λ d k. usy-none ys d y k h) (first_usy x ys r) refl (same (usy0534 u) r) refl e
    where
      by : (first_usy x ys r ≡ none → In y ys → ⊥) → (o : Option Tie) → first_usy x ys r ≡ o → (b : Bool) → same (usy0534 u) r ≡ b → or_else o (cond b (some (tie x u)) none) ≡ none → ⊥
      by f (some t) d b c e = none-some (sym e)
      by f none d true c e = none-some (sym e)
      by f none d false c e =
          in-cases w (λ (k : y ≡ u). false≢true (sym c ∙ ap (λ (v : List ℕ). same v r) (ap usy0534 (sym k) ∙ h) ∙ same_self r)) (λ (k : In y ys). f d k)

  usy-so : (ys : Snoc Leaf) {z y : Leaf} → first_usy x ys r ≡ some (tie z y) → (x ≡ z) × ((w : In y ys) × ((usy0534 y ≡ r) × Silent w.before))
  unfolding in-last in-earlier
  usy-so nil e = none-some e
  usy-so (ys ▷ u) {z} {y} e = by (λ k. usy-so ys k) (first_usy x ys r) refl (same (usy0534 u) r) refl e
    where
      by : (first_usy x ys r ≡ some (tie z y) → (x ≡ z) × ((w : In y ys) × ((usy0534 y ≡ r) × Silent w.before))) → (o : Option Tie) → first_usy x ys r ≡ o → (b : Bool) → same (usy0534 u) r ≡ b
          → or_else o (cond b (some (tie x u)) none) ≡ some (tie z y) → (x ≡ z) × ((w : In y (ys ▷ u)) × ((usy0534 y ≡ r) × Silent w.before))
      by f (some t) d b c e = let w = f (d ∙ e) in (w.0, (in-earlier w.1.0, (w.1.1.0, w.1.1.1)))
      by f none d true c e =
          let p : x ≡ z = cc in
          let q : u ≡ y = cc in
          (p, (in-last (sym q), (ap usy0534 (sym q) ∙ same-eq (usy0534 u) r (passes (same (usy0534 u) r) c), usy-none ys d)))
      by f none d false c e = none-some e

  no-usy : (ys : Snoc Leaf) → Silent ys → first_usy x ys r ≡ none
  no-usy nil n = refl
  no-usy (ys ▷ u) n =
      ap (λ (o : Option Tie). or_else o (cond (same (usy0534 u) r) (some (tie x u)) none)) (no-usy ys (λ y w e. n y (in-earlier w) e))
      ∙ ap (λ (b : Bool). cond b (some (tie x u)) none) (not_same (usy0534 u) r (λ e. n u (in-last refl) e))

  usy-there : (bs ls : Snoc Leaf) (y : Leaf) → usy0534 y ≡ r → Silent bs → first_usy x (bs ▷ y +++ ls) r ≡ some (tie x y)
  usy-there bs nil y h n =
      ap (λ (o : Option Tie). or_else o (cond (same (usy0534 y) r) (some (tie x y)) none)) (no-usy bs n)
      ∙ ap (λ (b : Bool). cond b (some (tie x y)) none) (ap (λ (v : List ℕ). same v r) h ∙ same_self r)
  usy-there bs (ls ▷ l) y h n = ap (λ (o : Option Tie). or_else o (cond (same (usy0534 l) r) (some (tie x l)) none)) (usy-there bs ls y h n)

-- ---- the links

module _ (r : List ℕ) where
  abbrev Quiet : Snoc Link → Type 0
  Quiet ls = (l : Link) → In l ls → (y : Leaf) → In y (usys_of l) → usy0534 y ≡ r → ⊥

  link-none : (ls : Snoc Link) → first_link ls r ≡ none → Quiet ls
  link-none nil e l w y u h = in-none w
  link-none (ls ▷ link x ys) e l w y u h = by (λ d k. link-none ls d l k y u h) (first_link ls r) refl e
    where
      by : (first_link ls r ≡ none → In l ls → ⊥) → (o : Option Tie) → first_link ls r ≡ o → or_else o (first_usy x ys r) ≡ none → ⊥
      by f (some t) d e = none-some (sym e)
      by f none d e =
          in-cases w (λ (k : l ≡ link x ys). usy-none x r ys e y (subst (λ (v : Link). In y (usys_of v)) k u) h) (λ (k : In l ls). f d k)

  no-link : (ls : Snoc Link) → Quiet ls → first_link ls r ≡ none
  no-link nil n = refl
  no-link (ls ▷ link x ys) n =
      ap (λ (o : Option Tie). or_else o (first_usy x ys r)) (no-link ls (λ l w y u h. n l (in-earlier w) y u h)) ∙ no-usy x r ys (λ y u h. n (link x ys) (in-last refl) y u h)

  pub record Tied (ls : Snoc Link) (x y : Leaf) : Type 0 where
    pub usys : Snoc Leaf
    pub there : In (link x usys) ls
    pub under : In y usys
    pub names : usy0534 y ≡ r
    pub first_under : (k : Leaf) → In k under.before → usy0534 k ≡ r → ⊥
    pub first : Quiet there.before

  link-so : (ls : Snoc Link) {x y : Leaf} → first_link ls r ≡ some (tie x y) → Tied ls x y
  unfolding in-last in-earlier
  link-so nil e = none-some e
  link-so (ls ▷ link z ys) {x} {y} e = by (λ k. link-so ls k) (first_link ls r) refl e
    where
      by : (first_link ls r ≡ some (tie x y) → Tied ls x y) → (o : Option Tie) → first_link ls r ≡ o → or_else o (first_usy z ys r) ≡ some (tie x y) → Tied (ls ▷ link z ys) x y
      by f (some t) d e = let w = f (d ∙ e) in record { usys = w.usys; there = in-earlier w.there; under = w.under; names = w.names; first_under = w.first_under; first = w.first }
      by f none d e =
          let q = usy-so z r ys e in
          record { usys = ys; there = in-last (ap (λ (v : Leaf). link v ys) (sym q.0)); under = q.1.0; names = q.1.1.0; first_under = q.1.1.1; first = link-none ls d }

  link-there : (x : Leaf) (ys : Snoc Leaf) {y : Leaf} (w : In y ys) → usy0534 y ≡ r → ((k : Leaf) → In k w.before → usy0534 k ≡ r → ⊥) → (bs ls : Snoc Link) → Quiet bs
      → first_link (bs ▷ link x ys +++ ls) r ≡ some (tie x y)
  link-there x ys {y} w h u bs nil n =
      ap (λ (o : Option Tie). or_else o (first_usy x ys r)) (no-link bs n) ∙ ap (λ (s : Snoc Leaf). first_usy x s r) w.whole ∙ usy-there x r w.before w.behind y h u
  link-there x ys w h u bs (ls ▷ link k ks) n = ap (λ (o : Option Tie). or_else o (first_usy k ks r)) (link-there x ys w h u bs ls n)

-- ---- in a body

pub tie-so : (b : Body) (r : List ℕ) {x y : Leaf} → tie_in b r ≡ some (tie x y) → (w : FirstUsx b r) × ((w.usx ≡ x) × (w.usy ≡ y))
tie-so (plain b) r e = none-some e
tie-so (ack c ls) r {x} {y} e =
    let w = link-so (compared r) ls e in
    (record { usb = c; links = ls; body = refl; usx = x; usys = w.usys; there = w.there; usy = y; under = w.under; names = w.names; first_under = w.first_under; first = w.first }, (refl, refl))

pub tie_there : (b : Body) (r : List ℕ) (w : FirstUsx b r) → tie_in b r ≡ some (tie w.usx w.usy)
tie_there b r w =
    ap (λ (v : Body). tie_in v r) w.body ∙ ap (λ (v : Snoc Link). first_link v (compared r)) w.there.whole
    ∙ link-there (compared r) w.usx w.usys w.under w.names w.first_under w.there.before w.there.behind w.first
