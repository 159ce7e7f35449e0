-- A register is a list of entries, one for each message, and the form in which they are written: "message count as 4 octets, then per message 20: place of UNH (4), length to
-- the end of UNT (4), loads (4), grams (8), highest octet first"; the smaller one, which "begins with the octet 2, then the message count and, per message, the four numbers
-- in the old order"; or that "with signed grams", which "begins with the octet 3". A form more is a case more in `number_text`, `grams_number`, `mark`, `large` and `sign_lost`.
use Rattle.std.specs.Prelude.{ℕ, zero, suc, ◌-◌, ◌*◌, ◌/◌, ◌%◌, Bool, false, cond, ◌||◌, List, [], ◌∷◌, ◌++◌, leb, pos, negsuc, length}
use Rattle.syntax.specs.Refusals.{at_zero}
use Rattle.grammar.specs.Grams.{Grams, signed, below, magnitude}
use Rattle.seven.specs.Groups.{shortest}
use Rattle.writing.specs.Written.{Text, text, no_text}
use Rattle.forms.specs.declared.Form.{Form}
use Rattle.forms.specs.declared.Form.TheVariants.{Old, Small, Signed}
use Rattle.forms.specs.declared.Entry.{Entry}

-- ---- a number

abbrev pub power : ℕ → ℕ
power zero = 1
power (suc k) = 256 * power k

-- in so many octets, "highest octet first"
abbrev pub highest : ℕ → ℕ → List ℕ
highest zero n = []
highest (suc k) n = (n / power k % 256) ∷ highest k n

-- in the old form it has k octets, in the others "Each number goes in groups of seven bits .. in the shortest form only"
unfoldable pub number_text : Form → ℕ → ℕ → List ℕ
number_text Old k n = highest k n
number_text Small k n = shortest n
number_text Signed k n = shortest n

-- ---- the grams of an entry, which has them without their sign, and whether they are below zero

abbrev pub grams_of : Entry → Grams
grams_of e = signed e.below e.grams

abbrev pub entry : ℕ → ℕ → ℕ → Grams → Entry
entry p l o z = record { place = p; length = l; loads = o; grams = magnitude z; below = below z }

-- "in it the grams number is doubled, and for a negative total it is twice the magnitude less one"
abbrev pub doubled : Grams → ℕ
doubled (pos n) = 2 * n
doubled (negsuc n) = 2 * suc n - 1

abbrev pub grams_number : Form → Grams → ℕ
grams_number Old z = magnitude z
grams_number Small z = magnitude z
grams_number Signed z = doubled z

-- ---- an entry: "place of UNH (4), length to the end of UNT (4), loads (4), grams (8)", "the four numbers in the old order"

abbrev pub entry_text : Form → Entry → List ℕ
entry_text f e = number_text f 4 e.place ++ number_text f 4 e.length ++ number_text f 4 e.loads ++ number_text f 8 (grams_number f (grams_of e))

abbrev pub entries_text : Form → List Entry → List ℕ
entries_text f [] = []
entries_text f (e ∷ es) = entry_text f e ++ entries_text f es

-- ---- the register

-- "begins with the octet 2", "begins with the octet 3"; the old form has no mark
abbrev pub mark : Form → List ℕ
mark Old = []
mark Small = 2 ∷ []
mark Signed = 3 ∷ []

-- "then the message count"
abbrev pub count_text : Form → ℕ → List ℕ
count_text f n = mark f ++ number_text f 4 n

-- "then per message .."
abbrev pub register_text : Form → List Entry → List ℕ
register_text f es = count_text f (length es) ++ entries_text f es

-- ---- what a form has no place for

-- "grams of 2^63 or more" in form 3, where the doubled number is below 2^64: it holds -2^63 to 2^63 - 1, and `negsuc n` is -(n + 1)
abbrev pub large : Form → Grams → Bool
large Old z = false
large Small z = false
large Signed (pos n) = leb 9223372036854775808 n
large Signed (negsuc n) = leb 9223372036854775808 n

-- a minus: form 3 alone has one
abbrev pub sign_lost : Form → Bool → Bool
sign_lost Old b = b
sign_lost Small b = b
sign_lost Signed b = false

-- whether one total is below zero
abbrev pub any_below : List Entry → Bool
any_below [] = false
any_below (e ∷ es) = below (grams_of e) || any_below es

-- "writing or moving to the old form gives 19 for a negative total"
abbrev pub text_in : Form → List Entry → Text
text_in f es = cond (sign_lost f (any_below es)) (no_text (at_zero 19)) (text (register_text f es))
