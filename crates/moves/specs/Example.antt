-- Worked examples: one message at 24, 300 octets long, with 2 loads of 57,340,000 grams, in each form; totals below zero; and what is refused.
use Rattle.std.specs.Prelude.{List, [], ◌∷◌, ◌++◌, ◌≡◌, refl, ℕ}
use Rattle.seven.specs.Groups.{groups, read_from}
use Rattle.writing.specs.Written.{text, no_text}
use Rattle.forms.specs.declared.Form.TheVariants.{Old, Small, Signed}
use Rattle.syntax.specs.Refusals.{at_zero}
use Rattle.forms.specs.Forms.{number_text}
use Rattle.moves.specs.Stored.{high_from, number_at, entries_at, move_of}

abbrev old : List ℕ
old = 0 ∷ 0 ∷ 0 ∷ 1 ∷ 0 ∷ 0 ∷ 0 ∷ 24 ∷ 0 ∷ 0 ∷ 1 ∷ 44 ∷ 0 ∷ 0 ∷ 0 ∷ 2 ∷ 0 ∷ 0 ∷ 0 ∷ 0 ∷ 3 ∷ 106 ∷ 240 ∷ 96 ∷ []

abbrev small : List ℕ
small = 2 ∷ 1 ∷ 24 ∷ 172 ∷ 2 ∷ 2 ∷ 224 ∷ 224 ∷ 171 ∷ 27 ∷ []

-- 114,680,000 for the grams
abbrev signed : List ℕ
signed = 3 ∷ 1 ∷ 24 ∷ 172 ∷ 2 ∷ 2 ∷ 192 ∷ 193 ∷ 215 ∷ 54 ∷ []

pub smaller : move_of Old Small old ≡ text small
unfolding groups read_from high_from number_text number_at entries_at
smaller = refl

pub larger : move_of Small Old small ≡ text old
unfolding groups read_from high_from number_text number_at entries_at
larger = refl

pub doubled : move_of Small Signed small ≡ text signed
unfolding groups read_from high_from number_text number_at entries_at
doubled = refl

pub halved : move_of Signed Old signed ≡ text old
unfolding groups read_from high_from number_text number_at entries_at
halved = refl

pub no-message : move_of Old Small (0 ∷ 0 ∷ 0 ∷ 0 ∷ []) ≡ text (2 ∷ 0 ∷ [])
unfolding groups read_from high_from number_text number_at entries_at
no-message = refl

pub cut : move_of Old Small (0 ∷ 0 ∷ 0 ∷ []) ≡ no_text (at_zero 17)
unfolding groups read_from high_from number_text number_at entries_at
cut = refl

pub other-start : move_of Small Old (3 ∷ 0 ∷ []) ≡ no_text (at_zero 17)
unfolding groups read_from high_from number_text number_at entries_at
other-start = refl

pub overlong : move_of Small Old (2 ∷ 128 ∷ 0 ∷ []) ≡ no_text (at_zero 17)
unfolding groups read_from high_from number_text number_at entries_at
overlong = refl

pub left_over : move_of Small Old (2 ∷ 0 ∷ 0 ∷ []) ≡ no_text (at_zero 17)
unfolding groups read_from high_from number_text number_at entries_at
left_over = refl

-- 65,536
pub count-large : move_of Small Old (2 ∷ 128 ∷ 128 ∷ 4 ∷ []) ≡ no_text (at_zero 17)
unfolding groups read_from high_from number_text number_at entries_at
count-large = refl

-- the least totals around zero: 0, 1 and -1 are 0, 2 and 1 in form 3
pub one-gram : move_of Small Signed (2 ∷ 1 ∷ 0 ∷ 0 ∷ 0 ∷ 1 ∷ []) ≡ text (3 ∷ 1 ∷ 0 ∷ 0 ∷ 0 ∷ 2 ∷ [])
unfolding groups read_from high_from number_text number_at entries_at
one-gram = refl

pub negative : move_of Signed Old (3 ∷ 1 ∷ 0 ∷ 0 ∷ 0 ∷ 1 ∷ []) ≡ no_text (at_zero 19)
unfolding groups read_from high_from number_text number_at entries_at
negative = refl

-- 17 of the whole of it comes before 19
pub negative-left-over : move_of Signed Old (3 ∷ 1 ∷ 0 ∷ 0 ∷ 0 ∷ 1 ∷ 0 ∷ []) ≡ no_text (at_zero 17)
unfolding groups read_from high_from number_text number_at entries_at
negative-left-over = refl

-- 2^63 - 1 grams, which are 2^64 - 2, and 2^63 grams
abbrev grams63 : ℕ → List ℕ
grams63 b = 0 ∷ 0 ∷ 0 ∷ 1 ∷ 0 ∷ 0 ∷ 0 ∷ 0 ∷ 0 ∷ 0 ∷ 0 ∷ 0 ∷ 0 ∷ 0 ∷ 0 ∷ 0 ∷ b ∷ []

pub largest : move_of Old Signed (grams63 127 ++ (255 ∷ 255 ∷ 255 ∷ 255 ∷ 255 ∷ 255 ∷ 255 ∷ [])) ≡ text (3 ∷ 1 ∷ 0 ∷ 0 ∷ 0 ∷ 254 ∷ 255 ∷ 255 ∷ 255 ∷ 255 ∷ 255 ∷ 255 ∷ 255 ∷ 255 ∷ 1 ∷ [])
unfolding groups read_from high_from number_text number_at entries_at
largest = refl

pub too_large : move_of Old Signed (grams63 128 ++ (0 ∷ 0 ∷ 0 ∷ 0 ∷ 0 ∷ 0 ∷ 0 ∷ [])) ≡ no_text (at_zero 17)
unfolding groups read_from high_from number_text number_at entries_at
too_large = refl
