-- Laws for the proofs of the tags of `cutting`: one for each way through a function's tests.
use Rattle.std.specs.Prelude.{ℕ, suc, ◌<◌, ◌≤◌, ◌+◌, ◌≡◌, refl, List, [], ◌∷◌, Bool, true, false, not, leb, length, get_or, drop, None}
use Rattle.std.proofs.Common.{sym, ◌∙◌, arith, le-leb, le_of_suc-le-suc, not-suc-le-zero, length-drop, drop-cons}
use Rattle.std.proofs.lemmas.Bool.{lt-leb, not-true, not-false}
use Rattle.syntax.specs.Service.{without_repetition}
use Rattle.syntax.specs.Repertoire.{tag_octet}
use Rattle.syntax.specs.Cutting.{tag_of}
use Rattle.syntax.specs.declared.Service.{Service}

-- what `if !f(x)` tells of the test that `f` answers
pub refused : {r x : Bool} → r ≡ x → not r ≡ true → x ≡ false
refused {r} e h = sym e ∙ not-true r h

pub granted : {r x : Bool} → r ≡ x → not r ≡ false → x ≡ true
granted {r} e h = sym e ∙ not-false r h

-- the repetition is no part of a tag
pub no-repetition : (σ : Service) (l : List ℕ) → tag_of (without_repetition σ) l ≡ tag_of σ l
no-repetition σ [] = refl
no-repetition σ (a ∷ []) = refl
no-repetition σ (a ∷ b ∷ []) = refl
no-repetition σ (a ∷ b ∷ c ∷ []) = refl
no-repetition σ (a ∷ b ∷ c ∷ d ∷ s) = refl

-- `tag_octet` by the stretches that the code tests; a law's number is where its stretch starts
module _ {b : ℕ} where
  pub tag-0 : b < 48 → false ≡ tag_octet b
  tag-0 h = rw (lt-leb 48 b h, lt-leb 65 b (omega arith))

  pub tag-48 : 48 ≤ b → b ≤ 57 → true ≡ tag_octet b
  tag-48 g h = rw (le-leb 48 b g, le-leb b 57 h)

  pub tag-58 : 57 < b → b < 65 → false ≡ tag_octet b
  tag-58 g h = rw (lt-leb b 57 g, le-leb 48 b (omega arith), lt-leb 65 b h)

  pub tag-65 : 65 ≤ b → leb b 90 ≡ tag_octet b
  tag-65 g = rw (le-leb 48 b (omega arith), lt-leb b 57 (omega arith), le-leb 65 b g)

-- a tag needs four octets, and reads no more
short : (σ : Service) (l : List ℕ) → length l < 4 → None ≡ tag_of σ l
short σ [] h = refl
short σ (a ∷ []) h = refl
short σ (a ∷ b ∷ []) h = refl
short σ (a ∷ b ∷ c ∷ []) h = refl
short σ (a ∷ b ∷ c ∷ d ∷ s) h =
    absurd (not-suc-le-zero (le_of_suc-le-suc (le_of_suc-le-suc (le_of_suc-le-suc (le_of_suc-le-suc h)))))

pub tag-short : (σ : Service) (s : List ℕ) (i : ℕ) → length s < i + 4 → None ≡ tag_of σ (drop i s)
tag-short σ s i h = short σ (drop i s) (omega (arith, length-drop i s))

next : (s : List ℕ) (i j : ℕ) → j ≡ suc i → i < length s → drop i s ≡ get_or s i 0 ∷ drop j s
next s i j e h = rw (e, drop-cons s i 0 h)

pub tag_read : (σ : Service) (s : List ℕ) (i : ℕ) → i + 4 ≤ length s →
    tag_of σ (get_or s i 0 ∷ get_or s (i + 1) 0 ∷ get_or s (i + 2) 0 ∷ get_or s (i + 3) 0 ∷ []) ≡ tag_of σ (drop i s)
tag_read σ s i h =
    rw (
      next s i (i + 1) (omega arith) (omega arith),
      next s (i + 1) (i + 2) (omega arith) (omega arith),
      next s (i + 2) (i + 3) (omega arith) (omega arith),
      next s (i + 3) (i + 4) (omega arith) (omega arith),
    )
