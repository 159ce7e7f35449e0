-- The register as the code lays it: its entries section by section, behind room for the count; then all of it, once it is measured.
use Rattle.syntax.specs.declared.Refusal.{Refusal}
use Rattle.std.specs.Prelude.{ℕ, ◌+◌, ◌-◌, ◌≤◌, Bool, true, false, ◌||◌, List, [], ◌∷◌, ◌≡◌, length, Result, Ok, Err}
use Rattle.syntax.specs.Opening.{begun_of}
use Rattle.syntax.specs.declared.Service.{Service}
use Rattle.syntax.specs.declared.Syntax.{Syntax}
use Rattle.grammar.specs.Interchange.{Reading, start, idle, busy, done}
use Rattle.grammar.specs.Valid.{Interchange}
use Rattle.grammar.specs.Verdict.{accepted, refused_with, verdict_of}
use Rattle.walk.specs.declared.sections.Layout.{Layout}
use Rattle.writing.specs.Laid.{Laid}
use Rattle.writing.specs.Written.{Text, text}
use Rattle.forms.specs.Forms.{entries_text, register_text, any_below}
use Rattle.forms.specs.declared.Form.{Form}
use Rattle.forms.specs.declared.Entry.{Entry}
use Rattle.register.specs.Register.{entries_of, entries_in}
use Rattle.register.specs.declared.entries.Extent.{Extent}

-- the octets s begin well: their UNB stands at p
abbrev pub BeginsAt : Syntax → List ℕ → ℕ → Type 0
BeginsAt y s p = begun_of s ≡ Ok (record { syntax = y; at = p })

-- ---- entries

abbrev pub entry_at : Layout → Entry
entry_at c = record { place = c.unh; length = c.end - c.unh; loads = c.loads; grams = c.grams; below = c.below }

-- of a section: of a message that it closed
abbrev pub section_at : Layout → Bool → List Entry
section_at c false = []
section_at c true = entry_at c ∷ []

-- of what was read so far
abbrev pub entries_read : Service → ℕ → Reading → List Entry
entries_read σ p start = []
entries_read σ p (idle u ms) = entries_of σ p u ms
entries_read σ p (busy u ms o) = entries_of σ p u ms
entries_read σ p (done u ms z) = entries_of σ p u ms

abbrev pub none_from : ℕ → Extent
none_from p = record { count = 0; end = p; below = false }

-- behind those of x the entries es are laid, as far as there is room
pub record Adds (f : Form) (out : List ℕ) (x : Extent) (es : List Entry) (r : Extent) (out' : List ℕ) : Type 0 where
  pub count : r.count ≡ x.count + length es
  pub below : r.below ≡ (x.below || any_below es)
  pub laid : Laid out x.end (entries_text f es) r.end out'

-- all entries of the interchange s are laid from p on
pub record LaysEntries (f : Form) (p : ℕ) (s out : List ℕ) (r : Extent) (out' : List ℕ) : Type 0 where
  pub whole : Interchange
  pub accepts : verdict_of s ≡ accepted whole
  pub few : r.count ≤ 65535
  pub adds : Adds f out (none_from p) (entries_in whole) r out'

-- .. or it is refused
abbrev pub LaysAll : Form → ℕ → List ℕ → List ℕ → Result Extent Refusal → List ℕ → Type 0
LaysAll f p s out (Ok r) out' = LaysEntries f p s out r out'
LaysAll f p s out (Err w) out' = verdict_of s ≡ refused_with w

-- ---- the register

-- how many messages the interchange s has, how long its register is, and whether a total is below zero
pub record Measured (f : Form) (s : List ℕ) (r : Extent) : Type 0 where
  pub whole : Interchange
  pub accepts : verdict_of s ≡ accepted whole
  pub count : r.count ≡ length (entries_in whole)
  pub below : r.below ≡ any_below (entries_in whole)
  pub long : r.end ≡ length (register_text f (entries_in whole))

abbrev pub MeasuredAs : Form → List ℕ → Result Extent Refusal → Type 0
MeasuredAs f s (Ok r) = Measured f s r
MeasuredAs f s (Err w) = verdict_of s ≡ refused_with w

-- the text x is laid from the front on, as far as there is room, and the answer is its length
pub record Lays (x : Text) (out : List ℕ) (r : Result ℕ Refusal) (out' : List ℕ) : Type 0 where
  pub octets : List ℕ
  pub is : x ≡ text octets
  pub answer : r ≡ Ok (length octets)
  pub laid : Laid out 0 octets (length octets) out'
