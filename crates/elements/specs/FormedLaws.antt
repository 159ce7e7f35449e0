-- Checked elements: from what the code asks, one test after the other, to what the grammar says.
use Rattle.std.specs.Prelude.{ℕ, zero, suc, ◌+◌, ◌-◌, ◌≤◌, ◌<◌, ◌≡◌, refl, Bool, true, false, cond, not, ◌&&◌, List, [], ◌∷◌, eqb, leb, length, get_or, drop, Option, Some, None}
use Rattle.std.proofs.Common.{arith, ap, sym, ◌∙◌, le-leb, eq-eqb, ne_eqb}
use Rattle.std.proofs.lemmas.Bool.{false≢true, lt-leb}
use Rattle.std.proofs.Math.Bool.{and-true}
use Rattle.std.proofs.Math.Option.{Option as Maybe}
use Rattle.syntax.specs.Octets.{octets, same, within}
use Rattle.syntax.specs.Content.{releases, content_from, content, all_digits, blank}
use Rattle.syntax.specs.Scanning.{next_of}
use Rattle.syntax.proofs.ContentLaws.{Digital, digital-end, digital-below, digital-above, digital-on, Lengthening, lengthening-end, lengthening-less, lengthening-fits, lengthening-on}
use Rattle.syntax.specs.Segment.{pieces_at, at_element, component_at, part_of, components, repeats, any_repeats}
use Rattle.syntax.specs.declared.Service.{Service}
use Rattle.syntax.specs.declared.Version.{Version}
use Rattle.grammar.specs.Segments as named
use Rattle.grammar.specs.Segments.{Named, Free, Asked, kind_in, tags}
use Rattle.grammar.specs.Loads.{Shape, shape, amount_right, grams, unit, three_part, control_unit, control_by}
use Rattle.grammar.specs.Elements.{Range, any_text, not_empty, not_empty_reference, digits, reference, simple, composite, in_range, formed_as, formed, formed_kind}
use Rattle.grammar.proofs.PlacingLaws.{same-eq}
use Rattle.elements.specs.Octets.{text_at, parts_at, repeated_at, asked_at}
use Rattle.elements.specs.Kinds.{of_kind, tag_kind}
use Rattle.elements.specs.Fields.{Fields}
use Rattle.elements.specs.Amounts.{amount_is, unit_is}
use Rattle.elements.specs.AmountsLaws.{amount-grams, amount-bad, unit-of, unit-unknown, unit-fits}
use Rattle.elements.specs.Formed.{control_of, formed_by, looked}
use Rattle.elements.specs.declared.amounts.Form.{Form}
use Rattle.elements.specs.declared.Kind.{Kind}
use Rattle.elements.specs.declared.Kind.TheVariants.{Unb, Unh, Unt, Unz, Ush, Usa, Usc, Usr, Ust, Usb, Usx, Usy, Reserved, Qty, Cnt, Other}

-- ---- one test after the other

module _ {r a : Bool} (e : r ≡ a) where
  pub and-stop : (b : Bool) → r ≡ false → false ≡ (a && b)
  and-stop b f = rw (← e, f)

  pub and-go : {b q : Bool} → r ≡ true → q ≡ b → q ≡ (a && b)
  and-go t g = rw (← e, t) g

  pub and-end : r ≡ (a && true)
  and-end = e ∙ sym (and-true a)

  pub not-stop : (b : Bool) → r ≡ true → false ≡ (not a && b)
  not-stop b t = rw (← e, t)

  pub not-go : {b q : Bool} → r ≡ false → q ≡ b → q ≡ (not a && b)
  not-go f g = rw (← e, f) g

-- n not repeated, x what the first component is: y besides
first-no : (n x y : Bool) → (n && (x && true)) ≡ false → (n && (x && y)) ≡ false
first-no true true y h = absurd (false≢true (sym h))
first-no true false y h = refl
first-no false x y h = refl

first_so : (n x : Bool) {y : Bool} → (n && (x && true)) ≡ true → (n && (x && y)) ≡ y
first_so true true h = refl
first_so true false h = absurd (false≢true h)
first_so false x h = absurd (false≢true h)

-- n not repeated, x what the only component is: there are more, or just this one
closed-no : (n x : Bool) → false ≡ ((n && (x && true)) && false)
closed-no true true = refl
closed-no true false = refl
closed-no false x = refl

closed-so : (x : Bool) → x ≡ ((x && true) && true)
closed-so true = refl
closed-so false = refl

module _ (a : Asked) (p : ℕ) where
  module _ (k : Range) {r : Bool} (e : r ≡ formed_as (composite (k ∷ [])) a p) where
    -- a further component
    pub more-stop : (j : Range) → r ≡ false → false ≡ formed_as (composite (k ∷ j ∷ [])) a p
    more-stop j f = sym (first-no (not (a.repeated p)) (in_range k (a.text p 0)) _ (sym e ∙ f))

    pub more-go : (j : Range) {q : Bool} → r ≡ true → q ≡ in_range j (a.text p 1) → q ≡ formed_as (composite (k ∷ j ∷ [])) a p
    more-go j t g = and-end g ∙ sym (first_so (not (a.repeated p)) (in_range k (a.text p 0)) (sym e ∙ t))

  -- a single component, which is looked at last
  module _ (k : Range) {r : Bool} (e : r ≡ a.repeated p) where
    pub closed-repeats : r ≡ true → false ≡ formed_as (simple (k ∷ [])) a p
    closed-repeats t = rw (← e, t)

    module _ {n : ℕ} (d : n ≡ a.parts p) where
      pub closed-many : 1 < n → false ≡ formed_as (simple (k ∷ [])) a p
      closed-many h = rw (← d, lt-leb n 1 h) (closed-no (not (a.repeated p)) (in_range k (a.text p 0)))

      pub closed-go : r ≡ false → n ≤ 1 → {q : Bool} → q ≡ in_range k (a.text p 0) → q ≡ formed_as (simple (k ∷ [])) a p
      closed-go f h g = g ∙ rw (← e, f, ← d, le-leb n 1 h) (closed-so (in_range k (a.text p 0)))

-- ---- what is asked at a position from 1 on

module _ (σ : Service) (s : List ℕ) (a : ℕ) where
  pub text_at_lem : (p c : ℕ) → 1 ≤ p → text_at σ s a p c ≡ content σ.release (part_of s (component_at σ s a p c))
  text_at_lem zero c l = absurd (omega (arith, l))
  text_at_lem (suc p) c l = refl

  pub parts-at : (p : ℕ) → 1 ≤ p → parts_at σ s a p ≡ components (at_element p (pieces_at σ s a))
  parts-at zero l = absurd (omega (arith, l))
  parts-at (suc p) l = refl

  pub repeated-at : (p : ℕ) → 1 ≤ p → repeated_at σ s a p ≡ repeats (at_element p (pieces_at σ s a))
  repeated-at zero l = absurd (omega (arith, l))
  repeated-at (suc p) l = refl

  -- what was read of it
  module _ (p c : ℕ) (l : 1 ≤ p) {x : List ℕ} (e : x ≡ part_of s (component_at σ s a p c)) where
    pub text-read : content σ.release x ≡ text_at σ s a p c
    text-read = ap (content σ.release) e ∙ sym (text_at_lem p c l)

    pub range-read : (k : Range) {r : Bool} → r ≡ in_range k (content σ.release x) → r ≡ in_range k (text_at σ s a p c)
    range-read k q = q ∙ ap (in_range k) text-read

-- ---- content and its length

-- no more octets of content than octets
content-most : (ρ : ℕ) (f : Bool) (x : List ℕ) → length (content_from ρ f x) ≤ length x
content-most ρ f [] = omega arith
content-most ρ f (b ∷ x) = pick f (releases ρ b) (content-most ρ true x) (content-most ρ false x)
  where
    pick : (f t : Bool) → length (content_from ρ true x) ≤ length x → length (content_from ρ false x) ≤ length x →
        length (cond f (b ∷ content_from ρ false x) (cond t (content_from ρ true x) (b ∷ content_from ρ false x))) ≤ suc (length x)
    pick true t u v = omega arith
    pick false true u v = omega arith
    pick false false u v = omega arith

-- of two octets at least one is content
pub content-least : (ρ : ℕ) (x : List ℕ) → 2 ≤ length x → 1 ≤ length (content ρ x)
content-least ρ [] h = absurd (omega (arith, h))
content-least ρ (b ∷ []) h = absurd (omega (arith, h))
content-least ρ (b ∷ d ∷ x) h = pick (releases ρ b)
  where
    pick : (t : Bool) → 1 ≤ length (cond t (d ∷ content_from ρ false x) (b ∷ content_from ρ false (d ∷ x)))
    pick true = omega arith
    pick false = omega arith

-- .. and so is one that is no release
pub filled-one : (ρ : ℕ) (x : List ℕ) → (length x ≡ 0 → ⊥) → not (eqb (get_or x 0 0) ρ) ≡ true → 1 ≤ length (content ρ x)
filled-one ρ [] h e = absurd (h refl)
filled-one ρ (b ∷ x) h e = pick (eqb b 32) (eqb b ρ) e
  where
    pick : (z q : Bool) → not q ≡ true → 1 ≤ length (cond (cond z false q) (content_from ρ true x) (b ∷ content_from ρ false x))
    pick true q e = omega arith
    pick false false e = omega arith
    pick false true e = absurd (false≢true e)

pub there-so : (ρ : ℕ) (x : List ℕ) → 1 ≤ length (content ρ x) → true ≡ in_range not_empty (content ρ x)
there-so ρ x l = sym (le-leb 1 (length (content ρ x)) l)

-- an octet that is neither a space nor a release is content, and no space
pub visible-one : (ρ : ℕ) (x : List ℕ) → (length x ≡ 0 → ⊥) → (get_or x 0 0 ≡ 32 → ⊥) → not (eqb (get_or x 0 0) ρ) ≡ true → blank (content ρ x) ≡ false
visible-one ρ [] h s e = absurd (h refl)
visible-one ρ (b ∷ x) h s e = pick (eqb b 32) (ne_eqb b 32 s) (eqb b ρ) e
  where
    pick : (z : Bool) → z ≡ false → (q : Bool) → not q ≡ true → blank (cond (cond z false q) (content_from ρ true x) (b ∷ content_from ρ false x)) ≡ false
    pick true d q e = absurd (false≢true (sym d))
    pick false d true e = absurd (false≢true e)
    pick false d false e = rw (ne_eqb b 32 s)

-- what is not blank has an octet
some-octet : (s : List ℕ) → blank s ≡ false → 1 ≤ length s
some-octet [] e = absurd (false≢true (sym e))
some-octet (b ∷ s) e = omega arith

module _ (ρ : ℕ) (x : List ℕ) (least most : ℕ) where
  module _ (h : length x ≤ most) where
    sized-by : least ≤ length (content ρ x) → true ≡ in_range (any_text least most) (content ρ x)
    sized-by l = let w = content-most ρ false x in rw (le-leb least (length (content ρ x)) l, le-leb (length (content ρ x)) most (omega arith))

    pub sized-none : least ≡ 0 → true ≡ in_range (any_text least most) (content ρ x)
    sized-none e = sized-by (omega arith)

    pub sized-some : least ≡ 1 → 1 ≤ length (content ρ x) → true ≡ in_range (any_text least most) (content ρ x)
    sized-some e l = sized-by (omega arith)

    pub reference-seen : least ≡ 1 → blank (content ρ x) ≡ false → true ≡ in_range (reference least most) (content ρ x)
    reference-seen e b = sized-some e (some-octet (content ρ x) b) ∙ sym (rw b (and-true (within least most (length (content ρ x)))))

  module _ {n : ℕ} (q : n ≡ length (content ρ x)) where
    pub sized-few : n < least → false ≡ in_range (any_text least most) (content ρ x)
    sized-few h = sym (ap (within least most) (sym q) ∙ rw (lt-leb least n h))

    pub sized-fits : least ≤ n → leb n most ≡ in_range (any_text least most) (content ρ x)
    sized-fits h = sym (ap (within least most) (sym q) ∙ rw (le-leb least n h))

-- digits and their number in one pass: n of them before i
pub record Tallying (ρ : ℕ) (x : List ℕ) (i n : ℕ) : Type 0 where
  pub are : Digital ρ (all_digits (content ρ x)) x i
  pub size : Lengthening ρ (length (content ρ x)) x i n

pub tallying-start : (ρ : ℕ) (x : List ℕ) → Tallying ρ x 0 0
tallying-start ρ x = record { are = record { are = refl }; size = record { few = omega arith; sums = omega arith } }

module _ {ρ : ℕ} {x : List ℕ} {i n : ℕ} (g : Tallying ρ x i n) {r : Option (ℕ × ℕ)} (e : r ≡ next_of ρ (drop i x) i) where
  module _ (d : r ≡ None) (least most : ℕ) where
    ended : {q : Bool} → q ≡ within least most n → q ≡ in_range (digits least most) (content ρ x)
    ended u = and-go (digital-end g.are e d) refl (u ∙ ap (within least most) (lengthening-end g.size e d))

    pub tallying-few : n < least → false ≡ in_range (digits least most) (content ρ x)
    tallying-few h = ended (rw (lt-leb least n h))

    pub tallying-end : least ≤ n → leb n most ≡ in_range (digits least most) (content ρ x)
    tallying-end h = ended (rw (le-leb least n h))

  module _ {b j : ℕ} (d : r ≡ Some (b, j)) where
    pub tallying-fits : n < length x
    tallying-fits = lengthening-fits g.size e d

    pub tallying-less : length x - j < length x - i
    tallying-less = lengthening-less g.size e d

    pub tallying-below : (least most : ℕ) → b < 48 → false ≡ in_range (digits least most) (content ρ x)
    tallying-below least most h = and-stop (digital-below g.are e d h) _ refl

    pub tallying-above : (least most : ℕ) → 48 ≤ b → 57 < b → false ≡ in_range (digits least most) (content ρ x)
    tallying-above least most l h = and-stop (digital-above g.are e d l h) _ refl

    pub tallying-on : 48 ≤ b → b ≤ 57 → Tallying ρ x j (n + 1)
    tallying-on l h = record { are = digital-on g.are e d l h; size = lengthening-on g.size e d }

-- two components of digits of as many as the version says
pub date-is : {n m : ℕ} → n ≡ m → (a : Asked) {r : Bool} → r ≡ formed_as (composite (digits n n ∷ digits 4 4 ∷ [])) a 4 →
    r ≡ formed_as (composite (digits m m ∷ digits 4 4 ∷ [])) a 4
date-is e a q = q ∙ ap (λ (k : ℕ). formed_as (composite (digits k k ∷ digits 4 4 ∷ [])) a 4) e

-- ---- the amount of a CNT

module _ (σ : Service) (s : List ℕ) (a : ℕ) {x : List ℕ} (e : x ≡ part_of s (component_at σ s a 1 2))
    {r : Option Form} (u : r ≡ unit_is (unit (content σ.release x) (shape 12 3) (shape 9 6))) where
  unit-read : {o : Maybe Shape} → unit (content σ.release x) (shape 12 3) (shape 9 6) ≡ o → control_unit (text_at σ s a 1 2) ≡ o
  unit-read q = ap (λ (t : List ℕ). unit (content σ.release t) (shape 12 3) (shape 9 6)) (sym e) ∙ q

  pub control-none : r ≡ None → false ≡ control_by (control_unit (text_at σ s a 1 2)) (text_at σ s a 1 1)
  control-none h = sym (ap (λ (o : Maybe Shape). control_by o (text_at σ s a 1 1)) (unit-read (unit-unknown (content σ.release x) 12 9 u h)))

  module _ {f : Form} (h : r ≡ Some f) where
    pub control-fits : (f.whole ≤ 12) × (f.decimals ≤ 6)
    control-fits = unit-fits (content σ.release x) 12 9 u (omega arith, omega arith) h

    module _ {z : List ℕ} (g : z ≡ part_of s (component_at σ s a 1 1)) {q : Option (ℕ × Bool)}
        (m : q ≡ amount_is (amount_right (shape f.whole f.decimals) (content σ.release z)) (grams (shape f.whole f.decimals) (content σ.release z))) where
      amount-read : {b : Bool} → amount_right (shape f.whole f.decimals) (content σ.release z) ≡ b →
          b ≡ control_by (control_unit (text_at σ s a 1 2)) (text_at σ s a 1 1)
      amount-read k =
          sym (ap (λ (o : Maybe Shape). control_by o (text_at σ s a 1 1)) (unit-read (unit-of (content σ.release x) 12 9 u h))
          ∙ ap (λ (t : List ℕ). amount_right (shape f.whole f.decimals) (content σ.release t)) (sym g)
          ∙ k)

      pub control-right : {n : ℕ} {t : Bool} → q ≡ Some (n, t) → true ≡ control_by (control_unit (text_at σ s a 1 2)) (text_at σ s a 1 1)
      control-right k = amount-read (amount-grams f.whole f.decimals (content σ.release z) m k).0

      pub control-wrong : q ≡ None → false ≡ control_by (control_unit (text_at σ s a 1 2)) (text_at σ s a 1 1)
      control-wrong k = amount-read (amount-bad f.whole f.decimals (content σ.release z) m k)

-- ---- a CNT

module _ (σ : Service) (s : List ℕ) (a : ℕ) {size : ℕ} {again : Bool} {m : List ℕ} (g : Fields σ s a size again m) where
  pub cnt-repeats : again ≡ true → false ≡ (not (any_repeats (pieces_at σ s a)) && control_of (asked_at σ s a))
  cnt-repeats h = not-stop g.any _ h

  module _ (h : again ≡ false) {x : List ℕ} (e : x ≡ part_of s (component_at σ s a 1 0)) {b : Bool} (q : b ≡ same (content σ.release x) (octets "1")) where
    one-read : same (text_at σ s a 1 0) (octets "1") ≡ b
    one-read = ap (λ (t : List ℕ). same (content σ.release t) (octets "1")) (sym e) ∙ sym q

    pub cnt-free : b ≡ false → true ≡ (not (any_repeats (pieces_at σ s a)) && control_of (asked_at σ s a))
    cnt-free t = not-go g.any h (sym (ap (λ (o : Bool). cond o (three_part (asked_at σ s a) && control_by (control_unit (text_at σ s a 1 2)) (text_at σ s a 1 1)) true) (one-read ∙ t)))

    module _ (t : b ≡ true) where
      one-go : {r : Bool} → r ≡ (three_part (asked_at σ s a) && control_by (control_unit (text_at σ s a 1 2)) (text_at σ s a 1 1)) →
          r ≡ (not (any_repeats (pieces_at σ s a)) && control_of (asked_at σ s a))
      one-go k =
          not-go g.any h
          (k ∙ sym (ap (λ (o : Bool). cond o (three_part (asked_at σ s a) && control_by (control_unit (text_at σ s a 1 2)) (text_at σ s a 1 1)) true) (one-read ∙ t)))

      pub cnt-size : (size ≡ 1 → ⊥) → false ≡ (not (any_repeats (pieces_at σ s a)) && control_of (asked_at σ s a))
      cnt-size o = one-go (rw (← g.sizes, ne_eqb size 1 o))

      module _ (o : size ≡ 1) {n : ℕ} (w : n ≡ components (at_element 1 (pieces_at σ s a))) where
        pub cnt-parts : (n ≡ 3 → ⊥) → false ≡ (not (any_repeats (pieces_at σ s a)) && control_of (asked_at σ s a))
        cnt-parts k = one-go (rw (← g.sizes, eq-eqb size 1 o, ← w, ne_eqb n 3 k))

        pub cnt-amount : n ≡ 3 → {r : Bool} → r ≡ control_by (control_unit (text_at σ s a 1 2)) (text_at σ s a 1 1) →
            r ≡ (not (any_repeats (pieces_at σ s a)) && control_of (asked_at σ s a))
        cnt-amount k v = one-go (rw (← g.sizes, eq-eqb size 1 o, ← w, eq-eqb n 3 k) v)

-- ---- by the code's kinds

counted-kind : (v : Version) (a : Asked) (q c : Bool) → same a.tag (octets "QTY") ≡ q → same a.tag (octets "CNT") ≡ c →
    formed_kind v Free a ≡ formed_by v (of_kind Free a.tag) a
counted-kind v a true true e f = absurd (false≢true (sym (ap (λ (t : List ℕ). same t (octets "CNT")) (same-eq a.tag (octets "QTY") (rw e tt))) ∙ f))
counted-kind v a true false e f = rw (e, f) (and-true (not a.any_repeated))
counted-kind v a false true e f = rw (e, f)
counted-kind v a false false e f = rw (e, f)

kind-by : (v : Version) (k : named.Kind) (a : Asked) → formed_kind v k a ≡ formed_by v (of_kind k a.tag) a
kind-by v (Named named.Unb) a = refl
kind-by v (Named named.Unh) a = refl
kind-by v (Named named.Unt) a = refl
kind-by v (Named named.Unz) a = refl
kind-by v (Named named.Ush) a = refl
kind-by v (Named named.Usa) a = refl
kind-by v (Named named.Usc) a = refl
kind-by v (Named named.Usr) a = refl
kind-by v (Named named.Ust) a = refl
kind-by v (Named named.Usb) a = refl
kind-by v (Named named.Usx) a = refl
kind-by v (Named named.Usy) a = refl
kind-by v named.Reserved a = refl
kind-by v Free a = counted-kind v a (same a.tag (octets "QTY")) (same a.tag (octets "CNT")) refl refl

pub formed-by : (v : Version) (a : Asked) → formed v a ≡ formed_by v (tag_kind a.tag) a
formed-by v a = kind-by v (kind_in tags a.tag) a

-- an arm of a match on the kind
pub formed-at : (v : Version) (a : Asked) {k : Kind} → k ≡ tag_kind a.tag → (j : Kind) → k ≡ j → {r : Bool} → r ≡ formed_by v j a → r ≡ formed v a
formed-at v a e j f g = g ∙ ap (λ (x : Kind). formed_by v x a) (sym f ∙ e) ∙ sym (formed-by v a)

-- nothing is checked of a segment of another kind
free-by : (v : Version) (k : Kind) (a : Asked) → looked k ≡ false → formed_by v k a ≡ true
free-by v Unb a h = absurd (false≢true (sym h))
free-by v Unh a h = absurd (false≢true (sym h))
free-by v Unt a h = absurd (false≢true (sym h))
free-by v Unz a h = absurd (false≢true (sym h))
free-by v Ush a h = absurd (false≢true (sym h))
free-by v Usa a h = refl
free-by v Usc a h = refl
free-by v Usr a h = absurd (false≢true (sym h))
free-by v Ust a h = absurd (false≢true (sym h))
free-by v Usb a h = absurd (false≢true (sym h))
free-by v Usx a h = absurd (false≢true (sym h))
free-by v Usy a h = absurd (false≢true (sym h))
free-by v Reserved a h = refl
free-by v Qty a h = absurd (false≢true (sym h))
free-by v Cnt a h = absurd (false≢true (sym h))
free-by v Other a h = refl

pub formed-free : (v : Version) (a : Asked) {k : Kind} → k ≡ tag_kind a.tag → looked k ≡ false → formed v a ≡ true
formed-free v a {k} e h = formed-by v a ∙ ap (λ (x : Kind). formed_by v x a) (sym e) ∙ free-by v k a h
