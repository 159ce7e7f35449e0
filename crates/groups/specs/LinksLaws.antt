-- The first USY that names a header, found along the segments, is that of the tree.
use Prim.Native.Nat.{ℕ, ◌+◌, ◌-◌, ◌≤◌, ◌<◌}
use native.Mathlib.Omega.{arith}
use Rattle.std.specs.Prelude.{◌≡◌, Bool, ◌&&◌, T, Option, Some, None}
use Rattle.std.proofs.Math.Path.{refl, ap}
use Rattle.std.proofs.Common.{◌∙◌, sym, subst, lit≤}
use mathlib.Core.List.{List, [], ◌∷◌, ◌++◌}
use Rattle.std.proofs.Math.Option.{Option as Maybe, none, some}
use Rattle.std.proofs.Math.Bool.{true, false, cond}
use Rattle.std.proofs.Math.ListN.{length, length-append}
use Rattle.std.proofs.Math.Seq.{slice}
use Rattle.syntax.proofs.ContentLaws.{plain-content}
use Rattle.syntax.specs.Octets.{octets, same}
use Rattle.syntax.specs.Service.{fit}
use Rattle.syntax.proofs.BareLaws.{compared-twice}
use Rattle.syntax.specs.Content.{content, compared}
use Rattle.syntax.specs.Cutting.{end_at}
use Rattle.syntax.specs.Segment.{component_at, part_of}
use Rattle.syntax.specs.Tree.{Segment, print_s, print}
use Rattle.syntax.proofs.TreeLaws.{print-cons}
use Rattle.syntax.proofs.CuttingLaws.{stop-in}
use Rattle.syntax.specs.declared.Service.{Service}
use Rattle.grammar.specs.Lists.{Snoc, nil, ◌▷◌, ◌+++◌, each, joined, list, holds, every}
use Rattle.grammar.specs.Segments.{Usb, Usx, Usy, seg, tags, kind_in, segment_kind, tag_text, elements_of, asked, Asked, usy0534}
use Rattle.grammar.specs.Rules.{is_free, ok_item, ok_body}
use Rattle.grammar.proofs.PlacingLaws.{same-eq}
use Rattle.grammar.specs.Interchange.{Leaf, Header, Link, link, Body, plain, ack, show_link, show_body}
use Rattle.grammar.specs.Places.{wide}
use Rattle.grammar.proofs.PlacesLaws.{wide-list}
use Rattle.walk.specs.RunLaws.{long-print}
use Rattle.groups.specs.Stand.{Row, Stand}
use Rattle.groups.specs.StandLaws.{list-join, stand-front, stand-back, row_first, row-asked, row-rest}
use Rattle.groups.specs.Groups.{name_at, ref_name_at}
use Rattle.message.specs.Summary.{or_else}
use Rattle.groups.specs.Links.{Tie, tie, first_usy, first_link, tie_in, tagged_at, is_tagged, is_usy_of, link_from}
use Rattle.groups.specs.declared.links.Places.{Places}

-- ---- the leaves

module _ (s : List ℕ) (a : ℕ) (t : List ℕ) where
  pub tagged_is : {p : List ℕ} {b : Bool} → p ≡ slice a (a + 3) s → b ≡ same (content 32 p) t → b ≡ tagged_at s a t
  tagged_is {p} e d = d ∙ ap (λ (x : List ℕ). same x t) (plain-content p ∙ e)

pub usx-here : (s : List ℕ) (a x : ℕ) {b : Bool} → b ≡ tagged_at s a (octets "USX") → b ≡ true → a ≡ cond (tagged_at s a (octets "USX")) a x
usx-here s a x e d = rw (← e, d)

pub usx-before : (s : List ℕ) (a x : ℕ) {b : Bool} → b ≡ tagged_at s a (octets "USX") → b ≡ false → x ≡ cond (tagged_at s a (octets "USX")) a x
usx-before s a x e d = rw (← e, d)

-- what is asked of a name is read off the octets of its component
pub name-is : (σ : Service) (s : List ℕ) (a e : ℕ) (r : List ℕ) {p : List ℕ} {k : Bool} → p ≡ part_of s (component_at σ s a e 0) → k ≡ same (content σ.release p) r
    → k ≡ same (name_at σ s a e) r
name-is σ s a e r q d = d ∙ ap (λ (x : List ℕ). same (content σ.release x) r) q

-- .. and of a reference
pub ref-name-is : (σ : Service) (s : List ℕ) (a e : ℕ) (r : List ℕ) {p : List ℕ} {k : Bool} → p ≡ part_of s (component_at σ s a e 0)
    → k ≡ same (compared (content σ.release p)) r → k ≡ same (ref_name_at σ s a e) r
ref-name-is σ s a e r q d = d ∙ ap (λ (x : List ℕ). same (compared (content σ.release x)) r) q

pub usy-here : (s : List ℕ) (a : ℕ) (n : Bool) {b k : Bool} → b ≡ tagged_at s a (octets "USY") → b ≡ true → k ≡ n → k ≡ (tagged_at s a (octets "USY") && n)
usy-here s a n e d q = rw (← e, d) q

pub usy-not : (s : List ℕ) (a : ℕ) (n : Bool) {b : Bool} → b ≡ tagged_at s a (octets "USY") → b ≡ false → false ≡ (tagged_at s a (octets "USY") && n)
usy-not s a n e d = rw (← e, d)

-- a reference as it was given, and its bare part
pub given-bare : (x z : List ℕ) → content 32 z ≡ compared (content 32 x) → compared z ≡ compared x
given-bare x z e = ap compared (sym (plain-content z) ∙ e ∙ ap compared (plain-content x)) ∙ compared-twice x

-- ---- the walk along the segments

-- whatever segments stand from body to tail, the rest of them leads to the same link
pub record Linking (σ : Service) (s r : List ℕ) (body tail x at : ℕ) : Type 0 where
  pub on : (gs : List Segment) → Row σ s body gs tail → (hs : List Segment) × (Row σ s at hs tail × (link_from σ body body gs r ≡ link_from σ at x hs r))

module _ {σ : Service} {s r : List ℕ} {body tail : ℕ} where
  pub linking-start : Linking σ s r body tail body body
  linking-start = record { on = λ gs w. (gs, (w, refl)) }

  module _ (fits : T (fit σ)) {x at : ℕ} (k : Linking σ s r body tail x at) {z : ℕ} {b : Bool} {f : Option ℕ}
      (less : at < tail) (ends : f ≡ end_at σ s at) (usx : z ≡ cond (tagged_at s at (octets "USX")) at x)
      (usy : b ≡ (tagged_at s at (octets "USY") && same (ref_name_at σ s at 1) r)) where
    -- the segment at hand, and what is told of it
    record Step (gs : List Segment) : Type 0 where
      g : Segment
      hs : List Segment
      rest : Row σ s (at + length (print_s σ g)) hs tail
      end : end_at σ s at ≡ Some (at + (length (print_s σ g) - 1))
      links : link_from σ body body gs r ≡ cond b (Some (record { usx = z; usy = at })) (link_from σ (at + length (print_s σ g)) z hs r)

    step : (gs : List Segment) → Row σ s body gs tail → Step gs
    step gs w = let q = k.on gs w in by q.0 q.1.0 q.1.1
      where
        by : (hs : List Segment) → Row σ s at hs tail → link_from σ body body gs r ≡ link_from σ at x hs r → Step gs
        by [] v e = absurd (omega (arith, less, v.end))
        by (g ∷ hs) v e =
            let a = row-asked σ s at fits g hs v in
            let t : (l : List ℕ) → is_tagged g l ≡ tagged_at s at l = λ l. ap (λ (u : Asked). same u.tag l) (sym a) in
            let n : same (usy0534 (elements_of g)) r ≡ same (ref_name_at σ s at 1) r = ap (λ (u : Asked). same (compared (u.text 1 0)) r) (sym a) in
            let j : cond (is_tagged g (octets "USX")) at x ≡ z = ap (λ (c : Bool). cond c at x) (t (octets "USX")) ∙ sym usx in
            let u : is_usy_of g r ≡ b = ap (λ (c : Bool). c && same (usy0534 (elements_of g)) r) (t (octets "USY")) ∙ ap (λ (c : Bool). tagged_at s at (octets "USY") && c) n ∙ sym usy in
            record {
              g = g;
              hs = hs;
              rest = row-rest σ s at g hs v;
              end = (row_first σ s at fits g hs v).end;
              links =
                  e ∙ ap (λ (i : ℕ). cond (is_usy_of g r) (Some (record { usx = i; usy = at })) (link_from σ (at + length (print_s σ g)) i hs r)) j
                  ∙ ap (λ (c : Bool). cond c (Some (record { usx = z; usy = at })) (link_from σ (at + length (print_s σ g)) z hs r)) u;
            }

    pub linking-on : {e next : ℕ} → f ≡ Some e → b ≡ false → next ≡ e + 1 → Linking σ s r body tail z next
    linking-on {e} {next} q d n = record { on = λ gs w. by gs (step gs w) }
      where
        by : (gs : List Segment) → Step gs → (hs : List Segment) × (Row σ s next hs tail × (link_from σ body body gs r ≡ link_from σ next z hs r))
        by gs y =
            let m : Some e ≡ Some (at + (length (print_s σ y.g) - 1)) = sym q ∙ ends ∙ y.end in
            let o : e ≡ at + (length (print_s σ y.g) - 1) = cc in
            let p : at + length (print_s σ y.g) ≡ next = omega (arith, o, n, long-print σ y.g) in (
              y.hs,
              (
                subst (λ (i : ℕ). Row σ s i y.hs tail) p y.rest,
                y.links ∙ ap (λ (c : Bool). cond c (Some (record { usx = z; usy = at })) (link_from σ (at + length (print_s σ y.g)) z y.hs r)) d
                    ∙ ap (λ (i : ℕ). link_from σ i z y.hs r) p,
              ),
            )

    pub linking-hit : b ≡ true → (gs : List Segment) → Row σ s body gs tail → Some (record { usx = z; usy = at }) ≡ link_from σ body body gs r
    linking-hit d gs w =
        let y = step gs w in
        sym (y.links ∙ ap (λ (c : Bool). cond c (Some (record { usx = z; usy = at })) (link_from σ (at + length (print_s σ y.g)) z y.hs r)) d)

  -- every segment has an end
  pub linking-none : {x at : ℕ} {f : Option ℕ} → T (fit σ) → Linking σ s r body tail x at → at < tail → f ≡ end_at σ s at → f ≡ None
      → (gs : List Segment) → Row σ s body gs tail → None ≡ link_from σ body body gs r
  linking-none {x} {at} fits k less ends e gs w =
      let y = step fits k less ends refl refl gs w in
      let m : None ≡ Some (at + (length (print_s σ y.g) - 1)) = sym e ∙ ends ∙ y.end in
      cc

  pub linking-end : {x at : ℕ} → Linking σ s r body tail x at → tail ≤ at → (gs : List Segment) → Row σ s body gs tail → None ≡ link_from σ body body gs r
  linking-end {x} {at} k less gs w = let q = k.on gs w in by q.0 q.1.0 q.1.1
    where
      by : (hs : List Segment) → Row σ s at hs tail → link_from σ body body gs r ≡ link_from σ at x hs r → None ≡ link_from σ body body gs r
      by [] v e = sym e
      by (g ∷ hs) v e =
          absurd (omega (arith, less, v.end, ap length (print-cons σ g hs) ∙ length-append (print_s σ g) (print σ hs), long-print σ g))

-- ---- and on the tree

-- the link, and where its USX and its USY stand
pub data TieAt (σ : Service) (s : List ℕ) : Maybe Tie → Option Places → Type 0 where
  nowhere : TieAt σ s none None
  there : (x y : Leaf) (a b : ℕ) → Stand σ s a (nil ▷ seg Usx x) → Stand σ s b (nil ▷ seg Usy y) → TieAt σ s (some (tie x y)) (Some (record { usx = a; usy = b }))

or_link : Option Places → Option Places → Option Places
or_link (Some q) k = Some q
or_link None k = k

tie-or : {σ : Service} {s : List ℕ} {o u : Maybe Tie} {k l : Option Places} → TieAt σ s o k → TieAt σ s u l → TieAt σ s (or_else o u) (or_link k l)
unfolding or_link
tie-or nowhere b = b
tie-or (there x y i j m n) b = there x y i j m n

module _ (σ : Service) (r : List ℕ) where
  -- the last USX of these segments, or x
  last_from : ℕ → ℕ → List Segment → ℕ
  last_from p x [] = x
  last_from p x (g ∷ gs) = last_from (p + length (print_s σ g)) (cond (is_tagged g (octets "USX")) p x) gs

  from-append : (p x : ℕ) (gs hs : List Segment) → link_from σ p x (gs ++ hs) r ≡ or_link (link_from σ p x gs r) (link_from σ (p + length (print σ gs)) (last_from p x gs) hs r)
  unfolding or_link last_from
  from-append p x [] hs = let e : p ≡ p + 0 = omega arith in ap (λ (i : ℕ). link_from σ i x hs r) e
  from-append p x (g ∷ gs) hs =
      let z : ℕ = cond (is_tagged g (octets "USX")) p x in
      let e : p + length (print_s σ g) + length (print σ gs) ≡ p + length (print σ (g ∷ gs)) =
      omega (arith, ap length (print-cons σ g gs) ∙ length-append (print_s σ g) (print σ gs)) in
      by (is_usy_of g r) z (from-append (p + length (print_s σ g)) z gs hs ∙ ap (λ (i : ℕ). or_link (link_from σ (p + length (print_s σ g)) z gs r) (link_from σ i (last_from (p + length (print_s σ g)) z gs) hs r)) e)
    where
      by : (b : Bool) (z : ℕ) → link_from σ (p + length (print_s σ g)) z (gs ++ hs) r
          ≡ or_link (link_from σ (p + length (print_s σ g)) z gs r) (link_from σ (p + length (print σ (g ∷ gs))) (last_from (p + length (print_s σ g)) z gs) hs r)
          → cond b (Some (record { usx = z; usy = p })) (link_from σ (p + length (print_s σ g)) z (gs ++ hs) r)
          ≡ or_link (cond b (Some (record { usx = z; usy = p })) (link_from σ (p + length (print_s σ g)) z gs r))
          (link_from σ (p + length (print σ (g ∷ gs))) (last_from (p + length (print_s σ g)) z gs) hs r)
      by true z e = refl
      by false z e = e

  last-append : (p x : ℕ) (gs hs : List Segment) → last_from p x (gs ++ hs) ≡ last_from (p + length (print σ gs)) (last_from p x gs) hs
  unfolding last_from
  last-append p x [] hs = let e : p ≡ p + 0 = omega arith in ap (λ (i : ℕ). last_from i x hs) e
  last-append p x (g ∷ gs) hs =
      let z : ℕ = cond (is_tagged g (octets "USX")) p x in
      let e : p + length (print_s σ g) + length (print σ gs) ≡ p + length (print σ (g ∷ gs)) =
      omega (arith, ap length (print-cons σ g gs) ∙ length-append (print_s σ g) (print σ gs)) in
      last-append (p + length (print_s σ g)) z gs hs ∙ ap (λ (i : ℕ). last_from i (last_from (p + length (print_s σ g)) z gs) hs) e

  last-usys : (p x : ℕ) (ys : Snoc Leaf) → last_from p x (list (each (seg Usy) ys)) ≡ x
  unfolding last_from
  last-usys p x nil = refl
  last-usys p x (ys ▷ y) = last-append p x (list (each (seg Usy) ys)) (seg Usy y ∷ []) ∙ last-usys p x ys

  module _ (s : List ℕ) where
    behind-one : (p : ℕ) (g : Segment) (gs : Snoc Segment) → Stand σ s p (nil ▷ g +++ gs) → Stand σ s (p + length (print_s σ g)) gs
    behind-one p g gs v =
        let e : p + wide σ (nil ▷ g) ≡ p + length (print_s σ g) = omega arith in
        subst (λ (i : ℕ). Stand σ s i gs) e (stand-back σ s p (nil ▷ g) gs v)

    usys-tied : (a : ℕ) (x : Leaf) → Stand σ s a (nil ▷ seg Usx x) → (p : ℕ) (ys : Snoc Leaf) → Stand σ s p (each (seg Usy) ys)
        → TieAt σ s (first_usy x ys r) (link_from σ p a (list (each (seg Usy) ys)) r)
    usys-tied a x w p nil v = nowhere
    usys-tied a x w p (ys ▷ y) v =
        let f = stand-front σ s p (each (seg Usy) ys) (nil ▷ seg Usy y) v in
        let b = stand-back σ s p (each (seg Usy) ys) (nil ▷ seg Usy y) v in
        let q : p + length (print σ (list (each (seg Usy) ys))) ≡ p + wide σ (each (seg Usy) ys) = ap (λ (n : ℕ). p + n) (sym (wide-list σ (each (seg Usy) ys))) in
        subst (TieAt σ s (first_usy x (ys ▷ y) r))
        (sym (from-append p a (list (each (seg Usy) ys)) (seg Usy y ∷ [])
        ∙ ap (λ (i : ℕ). or_link (link_from σ p a (list (each (seg Usy) ys)) r) (link_from σ i (last_from p a (list (each (seg Usy) ys))) (seg Usy y ∷ []) r)) q
        ∙ ap (λ (i : ℕ). or_link (link_from σ p a (list (each (seg Usy) ys)) r) (link_from σ (p + wide σ (each (seg Usy) ys)) i (seg Usy y ∷ []) r)) (last-usys p a ys)))
        (tie-or (usys-tied a x w p ys f) (by (same (usy0534 y) r) b))
      where
        by : (c : Bool) → Stand σ s (p + wide σ (each (seg Usy) ys)) (nil ▷ seg Usy y)
            → TieAt σ s (cond c (some (tie x y)) none) (cond c (Some (record { usx = a; usy = p + wide σ (each (seg Usy) ys) })) None)
        by true b = there x y a (p + wide σ (each (seg Usy) ys)) w b
        by false b = nowhere

    links-tied : (p x : ℕ) (ls : Snoc Link) → Stand σ s p (joined show_link ls) → TieAt σ s (first_link ls r) (link_from σ p x (list (joined show_link ls)) r)
    links-tied p x nil v = nowhere
    links-tied p x (ls ▷ link c ys) v =
        let f = stand-front σ s p (joined show_link ls) (show_link (link c ys)) v in
        let b = stand-back σ s p (joined show_link ls) (show_link (link c ys)) v in
        let q : p + length (print σ (list (joined show_link ls))) ≡ p + wide σ (joined show_link ls) = ap (λ (n : ℕ). p + n) (sym (wide-list σ (joined show_link ls))) in
        subst (TieAt σ s (first_link (ls ▷ link c ys) r))
        (sym (ap (λ (l : List Segment). link_from σ p x l r) (list-join (joined show_link ls) (show_link (link c ys)))
        ∙ from-append p x (list (joined show_link ls)) (list (show_link (link c ys)))
        ∙ ap (λ (i : ℕ). or_link (link_from σ p x (list (joined show_link ls)) r) (link_from σ i (last_from p x (list (joined show_link ls))) (list (show_link (link c ys))) r)) q))
        (tie-or (links-tied p x ls f) (one (p + wide σ (joined show_link ls)) (last_from p x (list (joined show_link ls))) b))
      where
        one : (i z : ℕ) → Stand σ s i (show_link (link c ys)) → TieAt σ s (first_usy c ys r) (link_from σ i z (list (show_link (link c ys))) r)
        one i z b =
            subst (λ (l : List Segment). TieAt σ s (first_usy c ys r) (link_from σ i z l r)) (sym (list-join (nil ▷ seg Usx c) (each (seg Usy) ys)))
            (usys-tied i c (stand-front σ s i (nil ▷ seg Usx c) (each (seg Usy) ys) b) (i + length (print_s σ (seg Usx c))) ys
            (behind-one i (seg Usx c) (each (seg Usy) ys) b))

    pub body-tied : (p : ℕ) (c : Leaf) (ls : Snoc Link) → Stand σ s p (show_body (ack c ls)) → TieAt σ s (first_link ls r) (link_from σ p p (list (show_body (ack c ls))) r)
    body-tied p c ls v =
        subst (λ (l : List Segment). TieAt σ s (first_link ls r) (link_from σ p p l r)) (sym (list-join (nil ▷ seg Usb c) (joined show_link ls)))
        (links-tied (p + length (print_s σ (seg Usb c))) p ls (behind-one p (seg Usb c) (joined show_link ls) v))

-- a segment's end lies within the octets
pub ends-in : (σ : Service) (s : List ℕ) (i : ℕ) {e : ℕ} {f : Option ℕ} → f ≡ end_at σ s i → f ≡ Some e → (i ≤ e) × (e < length s)
ends-in σ s i {e} a b = let k = stop-in σ 5 s (lit≤ tt) i e (sym a ∙ b) in (k.0, k.1)

-- ---- a body that is no AUTACK's has no link

free-untagged : (g : Segment) → T (is_free (segment_kind g)) → is_tagged g (octets "USY") ≡ false
free-untagged g f = by (is_tagged g (octets "USY")) (λ e. same-eq (tag_text g) (octets "USY") (subst T (sym e) tt))
  where
    by : (b : Bool) → (b ≡ true → tag_text g ≡ octets "USY") → b ≡ false
    by false h = refl
    by true h = absurd (subst (λ (t : List ℕ). T (is_free (kind_in tags t))) (h refl) f)

free-none : (σ : Service) (r : List ℕ) (p x : ℕ) (b : Snoc Segment) → holds (every ok_item b) → link_from σ p x (list b) r ≡ None
unfolding or_link
free-none σ r p x nil w = refl
free-none σ r p x (b ▷ g) w =
    from-append σ r p x (list b) (g ∷ []) ∙ ap (λ (k : Option Places). or_link k (link_from σ (p + length (print σ (list b))) (last_from σ r p x (list b)) (g ∷ []) r)) (free-none σ r p x b w.0)
    ∙ ap
    (λ (c : Bool). cond (c && same (usy0534 (elements_of g)) r)
    (Some (record { usx = cond (is_tagged g (octets "USX")) (p + length (print σ (list b))) (last_from σ r p x (list b)); usy = p + length (print σ (list b)) })) None) (free-untagged g w.1)

-- the link of a body in order
pub tied : (σ : Service) (r s : List ℕ) (p : ℕ) (a : Bool) (hs : Snoc Header) (b : Body) → holds (ok_body a hs b) → Stand σ s p (show_body b)
    → TieAt σ s (tie_in b r) (link_from σ p p (list (show_body b)) (compared r))
tied σ r s p a hs (plain nil) w v = nowhere
tied σ r s p a hs (plain (b ▷ g)) w v = subst (TieAt σ s none) (sym (free-none σ (compared r) p p (b ▷ g) (w.1.0, w.1.1))) nowhere
tied σ r s p a hs (ack c ls) w v = body-tied σ (compared r) s p c ls v

-- what it is, by what the code finds
pub record There (σ : Service) (s : List ℕ) (o : Maybe Tie) (q : Places) : Type 0 where
  pub x : Leaf
  pub y : Leaf
  pub tied : o ≡ some (tie x y)
  pub usx : Stand σ s q.usx (nil ▷ seg Usx x)
  pub usy : Stand σ s q.usy (nil ▷ seg Usy y)

pub tie_there : {σ : Service} {s : List ℕ} {o : Maybe Tie} {k : Option Places} (q : Places) → TieAt σ s o k → Some q ≡ k → There σ s o q
tie_there q nowhere e = let z : ◌≡◌ {A = ℕ} 0 1 = cc in absurd (omega arith)
tie_there {σ} {s} q (there x y a b v w) e =
    let i : record { usx = a; usy = b } ≡ q = cc in
    subst (There σ s (some (tie x y))) i (record { x = x; y = y; tied = refl; usx = v; usy = w })

pub tie_none : {σ : Service} {s : List ℕ} {o : Maybe Tie} {k : Option Places} → TieAt σ s o k → None ≡ k → o ≡ none
tie_none nowhere e = refl
tie_none (there x y a b v w) e = let z : ◌≡◌ {A = ℕ} 0 1 = cc in absurd (omega arith)
