-- What the code reads octets by: their classes, and the table of them.
use Rattle.std.specs.Prelude.{ℕ, ◌<◌, ◌-◌, List, ◌≡◌, Bool, cond, ◌&&◌, eqb, leb, ltb, length, get_or, replicate}
use Rattle.syntax.specs.Service.{kind_of}
use Rattle.syntax.specs.declared.Syntax.{Syntax}
use Rattle.syntax.specs.declared.Level.{Level}
use Rattle.syntax.specs.Repertoire.{tag_octet, inside, outside}

-- The code's class of an octet: data, 0 what a tag may have and 1 the others, 2 component, 3 repetition, 4 element, and three at which a scan stops:
-- terminator, release, outside.
-- These are so high that four classes add up to less than the lowest of them just where none of the four is one of them
abbrev pub end_class : ℕ
end_class = 64

abbrev pub release_class : ℕ
release_class = 65

abbrev pub outside_class : ℕ
outside_class = 66

-- the class of an octet that is no service character in force, by whether a tag may have it and whether it is inside
abbrev pub data_class : Bool → Bool → ℕ
data_class g i = cond i (cond g 0 1) outside_class

-- the class by what the octet is (`kind_of`), and the two
abbrev pub to_class : ℕ → Bool → Bool → ℕ
to_class k g i = cond (eqb k 1) (data_class g i) (cond (eqb k 0) release_class (cond (eqb k 5) end_class k))

unfoldable pub class_of : Syntax → ℕ → ℕ
class_of y b = to_class (kind_of y.service b) (tag_octet b) (inside y.level b)

-- a table with nothing inside
abbrev pub Blank : List ℕ → Type 0
Blank t = t ≡ replicate 256 outside_class

-- a table of what is outside, and a table of classes: one rule for every octet
pub record Base (l : Level) (t : List ℕ) : Type 0 where
  pub size : length t ≡ 256
  pub rule : (b : ℕ) → b < 256 → get_or t b 0 ≡ data_class (tag_octet b) (inside l b)

pub record Table (y : Syntax) (t : List ℕ) : Type 0 where
  pub size : length t ≡ 256
  pub rule : (b : ℕ) → b < 256 → get_or t b 0 ≡ class_of y b

pub record Filled (a i v : ℕ) (t u : List ℕ) : Type 0 where
  pub size : length u ≡ length t
  pub at : (x : ℕ) → x < length t → get_or u x 0 ≡ cond (leb a x && ltb x i) v (get_or t x 0)
