-- What a subset of AUTACK checks besides: from what the code asks to what the grammar says.
use Rattle.grammar.specs.declared.Subset.{Subset}
use Rattle.std.specs.Prelude.{ℕ, ◌≤◌, ◌<◌, ◌≡◌, refl, Bool, true, false, not, ◌&&◌, ◌||◌, List, [], ◌∷◌, leb, Option, None, Some}
use Rattle.std.proofs.Common.{arith, ap, sym, ◌∙◌}
use Rattle.std.proofs.lemmas.Bool.{false≢true}
use Rattle.syntax.specs.Octets.{octets, same}
use Rattle.grammar.specs.declared.Subset.TheVariants.{F01, Gs1}
use Rattle.grammar.specs.Segments as named
use Rattle.grammar.specs.Segments.{Name, Asked}
use Rattle.grammar.specs.Elements.{Range, not_empty, not_empty_reference, either, simple, in_range, formed_as, formed_row, subset_row}
use Rattle.grammar.specs.Rules.{is_gs1}
use Rattle.elements.specs.Formed.{subset_by, position_gs1, right_gs1}
use Rattle.elements.specs.FormedLaws.{and-end}
use Rattle.elements.specs.declared.Kind.{Kind}
use Rattle.elements.specs.declared.Kind.TheVariants.{Unb, Unh, Unt, Unz, Ush, Usa, Usc, Usr, Ust, Usb, Usx, Usy, Reserved, Qty, Cnt, Other}

-- n not repeated, m no further component, x what the only component is
single-no : (n x m : Bool) → (n && m) ≡ false → false ≡ ((n && (x && true)) && m)
single-no true true m h = sym h
single-no true false m h = refl
single-no false x m h = refl

single-so : (n x m : Bool) → (n && m) ≡ true → x ≡ ((n && (x && true)) && m)
single-so true true m h = sym h
single-so true false m h = refl
single-so false x m h = absurd (false≢true h)

module _ (a : Asked) (p : ℕ) (k : Range) {r : Bool} (e : r ≡ (not (a.repeated p) && leb (a.parts p) 1)) where
  pub single-stop : r ≡ false → false ≡ formed_as (simple (k ∷ [])) a p
  single-stop f = single-no (not (a.repeated p)) (in_range k (a.text p 0)) (leb (a.parts p) 1) (sym e ∙ f)

  pub single-go : r ≡ true → {q : Bool} → q ≡ in_range k (a.text p 0) → q ≡ formed_as (simple (k ∷ [])) a p
  single-go t g = g ∙ single-so (not (a.repeated p)) (in_range k (a.text p 0)) (leb (a.parts p) 1) (sym e ∙ t)

-- one text, or else the other
module _ (x t u : List ℕ) {b : Bool} (d : b ≡ same x t) where
  pub either-one : b ≡ true → true ≡ in_range (either t u) x
  either-one h = sym (ap (λ (c : Bool). c || same x u) (sym d ∙ h))

  pub either-other : b ≡ false → {r : Bool} → r ≡ same x u → r ≡ in_range (either t u) x
  either-other h q = q ∙ sym (ap (λ (c : Bool). c || same x u) (sym d ∙ h))

-- ---- by the kind of segment: p is the position of the element that is checked, 0 where there is none

module _ (a : Asked) {p : ℕ} where
  pub unchecked-so : (k : Kind) → p ≡ position_gs1 k → p < 1 → true ≡ subset_by k (Some Gs1) a
  unchecked-so Unb d l = refl
  unchecked-so Unh d l = refl
  unchecked-so Unt d l = refl
  unchecked-so Unz d l = refl
  unchecked-so Ush d l = refl
  unchecked-so Usa d l = refl
  unchecked-so Usc d l = absurd (omega (arith, d, l))
  unchecked-so Usr d l = refl
  unchecked-so Ust d l = refl
  unchecked-so Usb d l = absurd (omega (arith, d, l))
  unchecked-so Usx d l = absurd (omega (arith, d, l))
  unchecked-so Usy d l = refl
  unchecked-so Reserved d l = refl
  unchecked-so Qty d l = refl
  unchecked-so Cnt d l = refl
  unchecked-so Other d l = refl

  -- it is alone in its element, or not
  module _ {r : Bool} (e : r ≡ (not (a.repeated p) && leb (a.parts p) 1)) where
    alone_at : {q : ℕ} → p ≡ q → r ≡ (not (a.repeated q) && leb (a.parts q) 1)
    alone_at d = e ∙ ap (λ (n : ℕ). not (a.repeated n) && leb (a.parts n) 1) d

    pub checked-stop : (k : Kind) → p ≡ position_gs1 k → 1 ≤ p → r ≡ false → false ≡ subset_by k (Some Gs1) a
    checked-stop Unb d l f = absurd (omega (arith, d, l))
    checked-stop Unh d l f = absurd (omega (arith, d, l))
    checked-stop Unt d l f = absurd (omega (arith, d, l))
    checked-stop Unz d l f = absurd (omega (arith, d, l))
    checked-stop Ush d l f = absurd (omega (arith, d, l))
    checked-stop Usa d l f = absurd (omega (arith, d, l))
    checked-stop Usc d l f = and-end (single-stop a 1 not_empty (alone_at d) f)
    checked-stop Usr d l f = absurd (omega (arith, d, l))
    checked-stop Ust d l f = absurd (omega (arith, d, l))
    checked-stop Usb d l f = and-end (single-stop a 1 (either (octets "1") (octets "2")) (alone_at d) f)
    checked-stop Usx d l f = and-end (single-stop a 7 not_empty_reference (alone_at d) f)
    checked-stop Usy d l f = absurd (omega (arith, d, l))
    checked-stop Reserved d l f = absurd (omega (arith, d, l))
    checked-stop Qty d l f = absurd (omega (arith, d, l))
    checked-stop Cnt d l f = absurd (omega (arith, d, l))
    checked-stop Other d l f = absurd (omega (arith, d, l))

    pub checked-go : (k : Kind) → p ≡ position_gs1 k → 1 ≤ p → r ≡ true → {q : Bool} → q ≡ right_gs1 k (a.text p 0) → q ≡ subset_by k (Some Gs1) a
    checked-go Unb d l t g = absurd (omega (arith, d, l))
    checked-go Unh d l t g = absurd (omega (arith, d, l))
    checked-go Unt d l t g = absurd (omega (arith, d, l))
    checked-go Unz d l t g = absurd (omega (arith, d, l))
    checked-go Ush d l t g = absurd (omega (arith, d, l))
    checked-go Usa d l t g = absurd (omega (arith, d, l))
    checked-go Usc d l t g = and-end (single-go a 1 not_empty (alone_at d) t (g ∙ ap (λ (n : ℕ). in_range not_empty (a.text n 0)) d))
    checked-go Usr d l t g = absurd (omega (arith, d, l))
    checked-go Ust d l t g = absurd (omega (arith, d, l))
    checked-go Usb d l t g = and-end (single-go a 1 (either (octets "1") (octets "2")) (alone_at d) t (g ∙ ap (λ (n : ℕ). in_range (either (octets "1") (octets "2")) (a.text n 0)) d))
    checked-go Usx d l t g = and-end (single-go a 7 not_empty_reference (alone_at d) t (g ∙ ap (λ (n : ℕ). in_range not_empty_reference (a.text n 0)) d))
    checked-go Usy d l t g = absurd (omega (arith, d, l))
    checked-go Reserved d l t g = absurd (omega (arith, d, l))
    checked-go Qty d l t g = absurd (omega (arith, d, l))
    checked-go Cnt d l t g = absurd (omega (arith, d, l))
    checked-go Other d l t g = absurd (omega (arith, d, l))

-- ---- by the subset

gs1-alone : (b : Option Subset) → is_gs1 b ≡ true → b ≡ (Some Gs1)
gs1-alone None h = absurd (false≢true h)
gs1-alone (Some F01) h = absurd (false≢true h)
gs1-alone (Some Gs1) h = refl

pub gs1-besides : (b : Option Subset) → is_gs1 b ≡ true → (k : Kind) (a : Asked) {q : Bool} → q ≡ subset_by k (Some Gs1) a → q ≡ subset_by k b a
gs1-besides b t k a g = g ∙ ap (λ (x : Option Subset). subset_by k x a) (sym (gs1-alone b t))

nothing-in : (b : Option Subset) → is_gs1 b ≡ false → (n : Name) (a : Asked) → true ≡ formed_row (subset_row b n) a 1
nothing-in None h n a = refl
nothing-in (Some F01) h n a = refl
nothing-in (Some Gs1) h n a = absurd (false≢true (sym h))

-- the others check nothing besides
pub nothing-besides : (b : Option Subset) → is_gs1 b ≡ false → (k : Kind) (a : Asked) → true ≡ subset_by k b a
nothing-besides b h Unb a = refl
nothing-besides b h Unh a = refl
nothing-besides b h Unt a = refl
nothing-besides b h Unz a = refl
nothing-besides b h Ush a = refl
nothing-besides b h Usa a = refl
nothing-besides b h Usc a = nothing-in b h named.Usc a
nothing-besides b h Usr a = refl
nothing-besides b h Ust a = refl
nothing-besides b h Usb a = nothing-in b h named.Usb a
nothing-besides b h Usx a = nothing-in b h named.Usx a
nothing-besides b h Usy a = refl
nothing-besides b h Reserved a = refl
nothing-besides b h Qty a = refl
nothing-besides b h Cnt a = refl
nothing-besides b h Other a = refl
