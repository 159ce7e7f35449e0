-- The text of VALUE: what may be written, and how it is released.
use Rattle.std.specs.Prelude.{ℕ, suc, ◌+◌, ◌*◌, ◌≤◌, ◌<◌, Bool, true, false, cond, not, List, [], ◌∷◌, ◌++◌, ◌≡◌, refl, eqb, leb, length, get_or, set, drop}
use Rattle.std.proofs.Common.{add-one, arith, ap, ◌∙◌, sym, drop_of_length-le, drop-cons, ne_eqb, le-leb}
use Rattle.std.proofs.lemmas.Bool.{false≢true}
use Rattle.syntax.specs.Octets.{all_pass}
use Rattle.syntax.specs.Service.{kind_of, serves}
use Rattle.syntax.specs.Repertoire.{inside}
use Rattle.syntax.specs.Classes.{outside_class, class_of}
use Rattle.syntax.specs.RepertoireLaws.{Sorted, is-data, is-bad, is-release, is-separator, is-end, sorted}
use Rattle.syntax.specs.declared.Service.{Service}
use Rattle.syntax.specs.declared.Syntax.{Syntax}
use Rattle.writing.specs.Laid.{Laid}
use Rattle.writing.specs.LaidLaws.{Rest, rest-start, rest-same, rest-laid, rest_end}
use Rattle.filters.specs.Hex.{hex_text}
use Rattle.filters.specs.HexLaws.{hex-length}
use Rattle.filters.specs.Six.{six_text}
use Rattle.filters.specs.SixLaws.{six-length}
use Rattle.weaving.specs.Seals.{text_by, may_write}
use Rattle.weaving.specs.Woven.{released_text}

-- ---- what the class of an octet says

module _ (y : Syntax) (b : ℕ) {c : ℕ} (e : c ≡ class_of y b) where
  pub service-none : c ≤ 1 → false ≡ serves y.service b
  service-none z = by (sorted y b e)
    where
      by : Sorted (kind_of y.service b) (inside y.level b) c → false ≡ serves y.service b
      by (is-data k i d) = rw k
      by (is-bad k i d) = rw k
      by (is-release k d) = absurd (omega (arith, z, d))
      by (is-separator k l d) = absurd (omega (arith, z, d, k))
      by (is-end k d) = absurd (omega (arith, z, d))

  pub service-by : 1 < c → not (eqb c outside_class) ≡ serves y.service b
  service-by n = by (sorted y b e)
    where
      by : Sorted (kind_of y.service b) (inside y.level b) c → not (eqb c outside_class) ≡ serves y.service b
      by (is-data k i d) = absurd (omega (arith, n, d))
      by (is-bad k i d) = rw (k, d)
      by (is-release k d) = rw (k, d)
      by (is-separator k l d) = rw (ne_eqb (kind_of y.service b) 1 (λ z. omega (arith, z, k)), ne_eqb c outside_class (λ z. omega (arith, z, l, d)))
      by (is-end k d) = rw (k, d)

module _ (y : Syntax) (b : ℕ) {x : Bool} (e : x ≡ serves y.service b) where
  pub may-service : x ≡ true → not (eqb y.service.release 32) ≡ may_write y b
  may-service d = rw (← e, d)

  pub may-plain : {c : ℕ} → x ≡ false → c ≡ class_of y b → leb c 1 ≡ may_write y b
  may-plain {c} d f = by (sorted y b f)
    where
      serving : {k : ℕ} → kind_of y.service b ≡ k → not (eqb k 1) ≡ true → ⊥
      serving k h = false≢true (sym d ∙ e ∙ ap (λ (n : ℕ). not (eqb n 1)) k ∙ h)

      by : Sorted (kind_of y.service b) (inside y.level b) c → leb c 1 ≡ may_write y b
      by (is-data k i h) = rw (k, i, le-leb c 1 h)
      by (is-bad k i h) = rw (k, i, h)
      by (is-release k h) = absurd (serving k refl)
      by (is-separator k l h) = absurd (serving refl (ap not (ne_eqb (kind_of y.service b) 1 (λ z. omega (arith, z, k)))))
      by (is-end k h) = absurd (serving k refl)

-- ---- a test of every octet, under way: what is left to test decides

pub record Testing (p : ℕ → Bool) (t : List ℕ) (i : ℕ) : Type 0 where
  pub left : all_pass p t ≡ all_pass p (drop i t)

pub testing-start : {p : ℕ → Bool} {t : List ℕ} → Testing p t 0
testing-start = record { left = refl }

module _ {p : ℕ → Bool} {t : List ℕ} {i : ℕ} (g : Testing p t i) where
  pub testing-end : length t ≤ i → true ≡ all_pass p t
  testing-end h = sym (g.left ∙ ap (all_pass p) (drop_of_length-le t h))

  module _ {x : Bool} (h : i < length t) (e : x ≡ p (get_or t i 0)) where
    pub testing-on : x ≡ true → Testing p t (i + 1)
    testing-on d = record { left = g.left ∙ ap (all_pass p) (drop-cons t i 0 h) ∙ rw (← e, d, add-one) }

    pub testing-bad : x ≡ false → false ≡ all_pass p t
    testing-bad d = sym (g.left ∙ ap (all_pass p) (drop-cons t i 0 h) ∙ rw (← e, d))

-- ---- a text released, octet by octet

module _ (σ : Service) where
  one_more : (b : ℕ) (t : List ℕ) → released_text σ (b ∷ t) ≡ released_text σ (b ∷ []) ++ released_text σ t
  one_more b t = by (serves σ b)
    where
      by : (x : Bool) → cond x (σ.release ∷ b ∷ released_text σ t) (b ∷ released_text σ t) ≡ cond x (σ.release ∷ b ∷ []) (b ∷ []) ++ released_text σ t
      by true = refl
      by false = refl

  two-most : (b : ℕ) → length (released_text σ (b ∷ [])) ≤ 2
  two-most b = by (serves σ b)
    where
      by : (x : Bool) → length (cond x (σ.release ∷ b ∷ []) (b ∷ [])) ≤ 2
      by true = omega arith
      by false = omega arith

  module _ (b : ℕ) {x : Bool} (e : x ≡ serves σ b) {out : List ℕ} {at : ℕ} where
    pub put-freed : {o₁ o₂ : List ℕ} {k : ℕ} → x ≡ true → o₁ ≡ set out at σ.release → k ≡ at + 1 → o₂ ≡ set o₁ k b → Laid out at (released_text σ (b ∷ [])) (at + 2) o₂
    put-freed d f k g = rw (← e, d) (record { place = omega arith; octets = g ∙ rw (k, f, add-one) })

    pub put-plain : {o₁ : List ℕ} → x ≡ false → o₁ ≡ set out at b → Laid out at (released_text σ (b ∷ [])) (at + 1) o₁
    put-plain d f = rw (← e, d) (record { place = omega arith; octets = f })

pub record Releasing (σ : Service) (out₀ : List ℕ) (at : ℕ) (t : List ℕ) (i : ℕ) (out : List ℕ) (p : ℕ) : Type 0 where
  pub part : i ≤ length t
  pub low : p ≤ at + 2 * i
  pub going : Rest out₀ at (released_text σ t) (released_text σ (drop i t)) out p

module _ {σ : Service} {out₀ : List ℕ} {at : ℕ} {t : List ℕ} where
  pub releasing-start : Releasing σ out₀ at t 0 out₀ at
  releasing-start = record { part = omega arith; low = omega arith; going = rest-start }

  module _ {i : ℕ} {out : List ℕ} {p : ℕ} (g : Releasing σ out₀ at t i out p) where
    pub releasing-end : length t ≤ i → Laid out₀ at (released_text σ t) p out
    releasing-end h = rest_end (rest-same g.going (ap (released_text σ) (drop_of_length-le t h)))

    pub releasing-most : length t ≤ 512 → p ≤ at + 1024
    releasing-most h = omega (arith, g.low, g.part, h)

    pub releasing-on : {p' : ℕ} {out' : List ℕ} → i < length t → Laid out p (released_text σ (get_or t i 0 ∷ [])) p' out' → Releasing σ out₀ at t (i + 1) out' p'
    releasing-on h l = record {
      part = omega arith;
      low = omega (arith, g.low, l.place, two-most σ (get_or t i 0));
      going = rest-laid (rest-same g.going (ap (released_text σ) (drop-cons t i 0 h) ∙ one_more σ (get_or t i 0) (drop (suc i) t) ∙ rw add-one)) l;
    }

-- ---- the text by the filter

pub hex-short : (v : List ℕ) → length v ≤ 384 → length (hex_text v) ≤ 768
hex-short v h = omega (arith, hex-length v, h)

pub six-short : (v : List ℕ) → length v ≤ 384 → length (six_text v) ≤ 512
six-short v h = omega (arith, six-length v, h)

module _ (f : ℕ) (v : List ℕ) {out : List ℕ} {r : ℕ} {out' : List ℕ} where
  pub text-hex : f ≡ 2 → Laid out 0 (hex_text v) r out' → Laid out 0 (text_by f v) r out'
  text-hex e g = rw e g

  pub text-six : (f ≡ 2 → ⊥) → Laid out 0 (six_text v) r out' → Laid out 0 (text_by f v) r out'
  text-six e g = rw (ne_eqb f 2 e) g
