-- "One call writes it, another checks one against the interchange.": the register of an interchange, in the form that the call is told (`forms` `Forms.antt`). It has an entry for
-- each message, in their order.
use Rattle.syntax.specs.declared.Refusal.{Refusal}
use Rattle.std.specs.Prelude.{ℕ, ⊤, ◌+◌, cond, List, [], ◌∷◌, ◌++◌, ltb, length, Result, Ok, Err}
use Rattle.syntax.specs.Octets.{same}
use Rattle.syntax.specs.Refusals.{at_zero}
use Rattle.syntax.specs.declared.Service.{Service}
use Rattle.grammar.specs.Lists.{Snoc, nil, ◌▷◌, size}
use Rattle.grammar.specs.Grams.{sum}
use Rattle.grammar.specs.Interchange.{Leaf, Message, idle, shown, show_message}
use Rattle.grammar.specs.Valid.{Interchange, interchange, opening_in}
use Rattle.grammar.specs.Verdict.{Verdict, accepted, refused_with, verdict_of, loads_m}
use Rattle.grammar.specs.Places.{wide}
use Rattle.writing.specs.Written.{Text, text, no_text}
use Rattle.forms.specs.Forms.{entry, text_in}
use Rattle.forms.specs.declared.Form.{Form}
use Rattle.forms.specs.declared.Entry.{Entry}
use Rattle.groups.specs.Calls.{service_in}

-- ---- what stands in it

-- a message whose UNH stands at q
abbrev pub entry_of : Service → ℕ → Message → Entry
entry_of σ q m = entry q (wide σ (show_message m)) (size (loads_m m)) (sum (loads_m m))

-- UNB stands at p, and the messages behind it, in their order
abbrev pub entries_of : Service → ℕ → Leaf → Snoc Message → List Entry
entries_of σ p u nil = []
entries_of σ p u (ms ▷ m) = entries_of σ p u ms ++ (entry_of σ (p + wide σ (shown (idle u ms))) m ∷ [])

abbrev pub entries_in : Interchange → List Entry
entries_in (interchange n u ms z) = entries_of (service_in (interchange n u ms z)) (opening_in n).at u ms

-- 1 to 12 first, then 19 (`Forms.text_in`)
abbrev pub register_by : Form → Verdict → Text
register_by f (refused_with g) = no_text g
register_by f (accepted i) = text_in f (entries_in i)

-- "One call writes it"
abbrev pub register_of : Form → List ℕ → Text
register_of f s = register_by f (verdict_of s)

-- ---- "another checks one against the interchange": equal octets, or 13. One that is too long to be written, or that the form cannot tell, is none

abbrev pub equal_to : Text → List ℕ → Result ⊤ Refusal
equal_to (no_text f) r = Err (at_zero 13)
equal_to (text t) r = cond (ltb 65535 (length t)) (Err (at_zero 13)) (cond (same t r) (Ok tt) (Err (at_zero 13)))

-- 1 to 12 first
abbrev pub checked_by : Form → Verdict → List ℕ → Result ⊤ Refusal
checked_by f (refused_with g) r = Err g
checked_by f (accepted i) r = equal_to (text_in f (entries_in i)) r

abbrev pub check_of : Form → List ℕ → List ℕ → Result ⊤ Refusal
check_of f s r = checked_by f (verdict_of s) r

-- for each case the paper's number and place, and the segment; 0 where there is none
abbrev pub told_check : Result ⊤ Refusal → List ℕ
told_check (Ok tt) = 0 ∷ 0 ∷ 0 ∷ []
told_check (Err f) = f.number ∷ f.place ∷ f.segment ∷ []

abbrev pub check_numbers : Form → List ℕ → List ℕ → List ℕ
check_numbers f s r = told_check (check_of f s r)
