-- A stored register, as it is read in each form, and the moves: "17, in moves only, for a stored form that starts otherwise, is cut, overlong, has octets left over, has a count above
-- 65,535, another number of 2^32 or more or a grams number of 2^64 or more, before 15". Nothing here looks at an interchange: places and lengths are compared with nothing.
-- A form more is a case more in `number_at`, `grams_by` and `marked`.
use Rattle.syntax.specs.declared.Refusal.{Refusal}
use Rattle.std.specs.Prelude.{ℕ, zero, suc, ◌+◌, ◌*◌, ◌/◌, ◌%◌, ◌≤◌, ◌<◌, Bool, true, false, cond, ◌||◌, List, [], ◌∷◌, ◌++◌, ◌≡◌, T, leb, ltb, eqb, pos, negsuc, length, get_or, drop, Option, Result, Some, None, Ok, Err}
use Rattle.syntax.specs.Refusals.{at_zero}
use Rattle.grammar.specs.Grams.{Grams}
use Rattle.seven.specs.Groups.{read_from}
use Rattle.writing.specs.Laid.{Laid}
use Rattle.writing.specs.Written.{Text, text, no_text}
use Rattle.forms.specs.Forms.{mark, entry, grams_of, large, text_in}
use Rattle.forms.specs.declared.Form.{Form}
use Rattle.forms.specs.declared.Form.TheVariants.{Old, Small, Signed}
use Rattle.forms.specs.declared.Entry.{Entry}

-- ---- a number: it and the place after it, or Bad where 17 is due

-- k octets behind others that give v; "cut", or above the most
unfoldable pub high_from : ℕ → ℕ → ℕ → List ℕ → ℕ → Option (ℕ × ℕ)
high_from zero v most s i = cond (leb v most) (Some (v, i)) None
high_from (suc k) v most [] i = None
high_from (suc k) v most (b ∷ s) i = high_from k (v * 256 + b) most s (suc i)

-- at place i of s; in the old form it has k octets. "overlong": `seven` `Groups.joined`
unfoldable pub number_at : Form → ℕ → ℕ → List ℕ → ℕ → Option (ℕ × ℕ)
number_at Old k most s i = high_from k 0 most (drop i s) i
number_at Small k most s i = read_from 10 most (drop i s) i
number_at Signed k most s i = read_from 10 most (drop i s) i

-- ---- the grams that a number stands for: in form 3 an even one is twice the total, an odd one "twice the magnitude less one" of a negative total

abbrev pub halved : ℕ → Grams
halved n = cond (eqb (n % 2) 1) (negsuc (n / 2)) (pos (n / 2))

abbrev pub grams_by : Form → ℕ → Grams
grams_by Old n = pos n
grams_by Small n = pos n
grams_by Signed n = halved n

-- ---- an entry

abbrev pub and_then : Option (ℕ × ℕ) → (ℕ → ℕ → Option (Entry × ℕ)) → Option (Entry × ℕ)
and_then None k = None
and_then (Some (n, q)) k = k n q

-- "another number of 2^32 or more or a grams number of 2^64 or more"
abbrev pub entry_at : Form → List ℕ → ℕ → Option (Entry × ℕ)
entry_at f s i =
    and_then (number_at f 4 4294967295 s i) λ p a.
    and_then (number_at f 4 4294967295 s a) λ l b.
    and_then (number_at f 4 4294967295 s b) λ o c.
    and_then (number_at f 8 18446744073709551615 s c) λ n d.
    Some (entry p l o (grams_by f n), d)

-- ---- the register: its entries, or `bad` where 17 is due

pub data Stored : Type 0 where
  stored : List Entry → Stored
  bad : Stored

abbrev pub before : List Entry → Stored → Stored
before es bad = bad
before es (stored fs) = stored (es ++ fs)

abbrev pub followed : Option (Entry × ℕ) → (ℕ → Stored) → Stored
followed None k = bad
followed (Some (e, q)) k = before (e ∷ []) (k q)

-- so many entries from place i on, and no "octets left over" behind them
unfoldable pub entries_at : Form → ℕ → List ℕ → ℕ → Stored
entries_at f zero s i = cond (eqb i (length s)) (stored []) bad
entries_at f (suc n) s i = followed (entry_at f s i) (entries_at f n s)

-- "starts otherwise": the new forms begin with the octets 2 and 3
abbrev pub marked : Form → List ℕ → Bool
marked Old s = true
marked Small s = eqb (get_or s 0 0) 2
marked Signed s = eqb (get_or s 0 0) 3

-- "a count above 65,535"
abbrev pub count_at : Form → List ℕ → Option (ℕ × ℕ)
count_at f s = cond (marked f s) (number_at f 4 65535 s (length (mark f))) None

abbrev pub counted : Form → List ℕ → Option (ℕ × ℕ) → Stored
counted f s None = bad
counted f s (Some (n, i)) = entries_at f n s i

abbrev pub stored_by : Form → List ℕ → Stored
stored_by f s = counted f s (count_at f s)

-- ---- the moves: 17 before all else, then 19 (`Forms.text_in`)

abbrev pub any_large : Form → List Entry → Bool
any_large g [] = false
any_large g (e ∷ es) = large g (grams_of e) || any_large g es

-- "moving grams of 2^63 or more to form 3 gives 17"
abbrev pub moved_to : Form → Stored → Text
moved_to g bad = no_text (at_zero 17)
moved_to g (stored es) = cond (any_large g es) (no_text (at_zero 17)) (text_in g es)

abbrev pub move_of : Form → Form → List ℕ → Text
move_of f g s = moved_to g (stored_by f s)

-- ---- what a stored register holds

-- 0 to 2^64 - 1, in form 3 -2^63 to 2^63 - 1
abbrev pub holds : Form → Grams → Bool
holds Old (pos n) = ltb n 18446744073709551616
holds Old (negsuc n) = false
holds Small (pos n) = ltb n 18446744073709551616
holds Small (negsuc n) = false
holds Signed (pos n) = ltb n 9223372036854775808
holds Signed (negsuc n) = ltb n 9223372036854775808

pub record Fit (f : Form) (e : Entry) : Type 0 where
  pub place : e.place ≤ 4294967295
  pub length : e.length ≤ 4294967295
  pub loads : e.loads ≤ 4294967295
  pub grams : T (holds f (grams_of e))
  -- no minus before zero
  pub plain : entry e.place e.length e.loads (grams_of e) ≡ e

abbrev pub AllFit : Form → List Entry → Type 0
AllFit f [] = Unit {0}
AllFit f (e ∷ es) = Fit f e × AllFit f es

-- s is a list of octets
abbrev pub Octets : List ℕ → Type 0
Octets s = (j : ℕ) → get_or s j 0 < 256

-- ---- as the code lays it: the text from the front on, as far as there is room, and its length; or the refusal

abbrev pub Lays : Text → List ℕ → Result ℕ Refusal → List ℕ → Type 0
Lays (no_text f) out r out' = r ≡ Err f
Lays (text t) out r out' = (r ≡ Ok (length t)) × Laid out 0 t (length t) out'
