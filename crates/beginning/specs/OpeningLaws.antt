-- Laws for the proofs of this crate: one for each way through a function's tests.
use Rattle.syntax.specs.declared.Version.{Version}
use Rattle.syntax.specs.declared.Level.{Level}
use Rattle.std.specs.Prelude.{ℕ, ◌<◌, ◌≤◌, ◌≡◌, refl, List, [], ◌∷◌, Bool, true, false, cond, ◌&&◌, eqb, leb, length, get_or, drop, Option, Some, None}
use Rattle.std.proofs.Common.{sym, ap, ap₂, ◌∙◌, arith, le-leb, le_of_suc-le-suc, not-suc-le-zero}
use Rattle.std.proofs.lemmas.Bool.{lt-leb}
use Rattle.syntax.specs.Service.{servant, without_repetition}
use Rattle.syntax.specs.Cutting.{tag_of, end_at, first_outside}
use Rattle.syntax.specs.Scanning.{stretch, cut_by, cut_at}
use Rattle.syntax.specs.TagLaws.{no-repetition}
use Rattle.syntax.specs.Segment.{component_at, part_of}
use Rattle.syntax.specs.Content.{content}
use Rattle.syntax.specs.Opening.{starts_una, is_there, level_named, version_named, both_named, declared_at}
use Rattle.syntax.specs.declared.Service.{Service}
use Rattle.syntax.specs.declared.Syntax.{Syntax}
use Rattle.syntax.specs.declared.cutting.Cut.{Cut}
use Rattle.syntax.specs.declared.cutting.Cut.TheVariants.{Ends, Spoilt, Open}
use Rattle.syntax.specs.declared.opening.Opening.{Opening}

-- `◌&&◌` computes from the left only
and-true : (t : Bool) → t && true && true && true ≡ t
and-true true = refl
and-true false = refl

-- `servant` by the stretches that the code tests; a law's number is where its stretch starts
module _ {b : ℕ} where
  pub servant-0 : b < 33 → false ≡ servant b
  servant-0 h = rw (lt-leb 33 b h)

  pub servant-33 : 33 ≤ b → b < 48 → true ≡ servant b
  servant-33 g h =
      rw (le-leb 33 b g, le-leb b 126 (omega arith), lt-leb 48 b h, lt-leb 65 b (omega arith), lt-leb 97 b (omega arith))

  pub servant-48 : 48 ≤ b → b < 58 → false ≡ servant b
  servant-48 g h = rw (le-leb 33 b (omega arith), le-leb b 126 (omega arith), le-leb 48 b g, le-leb b 57 (omega arith))

  pub servant-58 : 58 ≤ b → b < 65 → true ≡ servant b
  servant-58 g h =
      rw (
        le-leb 33 b (omega arith),
        le-leb b 126 (omega arith),
        le-leb 48 b (omega arith),
        lt-leb b 57 g,
        lt-leb 65 b h,
        lt-leb 97 b (omega arith),
      )

  pub servant-65 : 65 ≤ b → b < 91 → false ≡ servant b
  servant-65 g h =
      rw (
        le-leb 33 b (omega arith),
        le-leb b 126 (omega arith),
        le-leb 48 b (omega arith),
        lt-leb b 57 (omega arith),
        le-leb 65 b g,
        le-leb b 90 (omega arith),
      )

  pub servant-91 : 91 ≤ b → b < 97 → true ≡ servant b
  servant-91 g h =
      rw (
        le-leb 33 b (omega arith),
        le-leb b 126 (omega arith),
        le-leb 48 b (omega arith),
        lt-leb b 57 (omega arith),
        le-leb 65 b (omega arith),
        lt-leb b 90 g,
        lt-leb 97 b h,
      )

  pub servant-97 : 97 ≤ b → b < 123 → false ≡ servant b
  servant-97 g h =
      rw (
        le-leb 33 b (omega arith),
        le-leb b 126 (omega arith),
        le-leb 48 b (omega arith),
        lt-leb b 57 (omega arith),
        le-leb 65 b (omega arith),
        lt-leb b 90 (omega arith),
        le-leb 97 b g,
        le-leb b 122 (omega arith),
      )

  pub servant-123 : 123 ≤ b → leb b 126 ≡ servant b
  servant-123 g =
      rw (
        le-leb 33 b (omega arith),
        le-leb 48 b (omega arith),
        lt-leb b 57 (omega arith),
        le-leb 65 b (omega arith),
        lt-leb b 90 (omega arith),
        le-leb 97 b (omega arith),
        lt-leb b 122 g,
      ) (sym (and-true (leb b 126)))

-- `starts` by places, as the code reads it
either-false : (t : Bool) → cond t false false ≡ false
either-false true = refl
either-false false = refl

pub or-false : (t : Bool) → cond t true false ≡ t
or-false true = refl
or-false false = refl

pub una-short : (s : List ℕ) → length s < 3 → false ≡ starts_una s
una-short [] h = refl
una-short (x ∷ []) h = sym (either-false (eqb x 85))
una-short (x ∷ y ∷ []) h = rw (either-false (eqb y 78), either-false (eqb x 85))
una-short (x ∷ y ∷ z ∷ s) h = absurd (not-suc-le-zero (le_of_suc-le-suc (le_of_suc-le-suc (le_of_suc-le-suc h))))

pub una-read : (s : List ℕ) → 3 ≤ length s →
    starts_una s ≡ cond (eqb (get_or s 0 0) 85) (cond (eqb (get_or s 1 0) 78) (eqb (get_or s 2 0) 65) false) false
una-read [] h = absurd (not-suc-le-zero h)
una-read (x ∷ []) h = absurd (not-suc-le-zero (le_of_suc-le-suc h))
una-read (x ∷ y ∷ []) h = absurd (not-suc-le-zero (le_of_suc-le-suc (le_of_suc-le-suc h)))
una-read (x ∷ y ∷ z ∷ s) h = rw (or-false (eqb z 65))

-- what the parts of `begin_at` and `declared` answer, put together. `v` is the service without repetition, as the code has it
module _ (s : List ℕ) (o : Opening) {v : Service} (e : v ≡ without_repetition o.service) where
  pub there-by : {x : Bool} → x ≡ is_there (end_at v s o.at) → x ≡ is_there (end_at (without_repetition o.service) s o.at)
  there-by b = b ∙ ap (λ (w : Service). is_there (end_at w s o.at)) e

  pub tag-by : {g : Option (ℕ × ℕ × ℕ)} → g ≡ tag_of v (drop o.at s) → g ≡ tag_of o.service (drop o.at s)
  tag-by a = a ∙ ap (λ (w : Service). tag_of w (drop o.at s)) e ∙ no-repetition o.service (drop o.at s)

pub named_by : (s : List ℕ) (σ : Service) (o : Opening) {x z : List ℕ} {l : Option Level} {n : Option Version} →
    x ≡ part_of s (component_at σ s o.at 1 0) → l ≡ level_named (content σ.release x) →
    z ≡ part_of s (component_at σ s o.at 1 1) → n ≡ version_named (content σ.release z) → both_named o l n ≡ declared_at s σ o
named_by s σ o p a q b =
    ap₂ (both_named o) (a ∙ ap (λ (u : List ℕ). level_named (content σ.release u)) p)
    (b ∙ ap (λ (u : List ℕ). version_named (content σ.release u)) q)

-- ---- an end, where the cut is the same

-- whether a cut has an end
abbrev ended : Cut → Bool
ended (Ends e) = true
ended (Spoilt e b) = true
ended Open = false

there-cut : (y : Syntax) (s : List ℕ) (i : ℕ) → is_there (end_at y.service s i) ≡ ended (cut_at y s i)
there-cut y s i = by (end_at y.service s i) (first_outside y (stretch s i (end_at y.service s i)) i)
  where
    by : (f g : Option ℕ) → is_there f ≡ ended (cut_by f g)
    by None g = refl
    by (Some e) None = refl
    by (Some e) (Some b) = refl

pub has_end : (y : Syntax) (s : List ℕ) (i j : ℕ) {f : Option ℕ} {x : Bool} → cut_at y s i ≡ cut_at y s j → f ≡ end_at y.service s i → x ≡ is_there f →
    x ≡ is_there (end_at y.service s j)
has_end y s i j e a b = b ∙ ap is_there a ∙ there-cut y s i ∙ ap ended e ∙ sym (there-cut y s j)
