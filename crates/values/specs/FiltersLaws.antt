-- The value call: which filter reads, and what the call answers and leaves by what was read.
use Rattle.syntax.specs.declared.Refusal.{Refusal}
use Rattle.std.specs.Prelude.{ℕ, ◌+◌, List, ◌≡◌, Bool, true, false, eqb, length, Option, Result, Some, None, Ok}
use Rattle.std.proofs.Common.{arith, sym, ◌∙◌}
use Rattle.std.proofs.Math.Option.{Option as Maybe, none, some}
use Rattle.syntax.specs.Octets.{octets, same}
use Rattle.syntax.specs.Opening.{earlier}
use Rattle.syntax.specs.declared.Version.{Version}
use Rattle.writing.specs.Laid.{Laid}
use Rattle.writing.specs.Written.{refused_as, too_long, Writes}
use Rattle.writing.specs.WrittenLaws.{writes-none, writes-over, writes-fit}
use Rattle.filters.specs.Hex.{hex_value}
use Rattle.filters.specs.Six.{six_value}
use Rattle.edc.specs.Edc.{edc_value}
use Rattle.values.specs.Filters.{other_value, value_by, or_bad}
use Rattle.filters.specs.Decoding.{Decodes}

module _ (v : Version) (code t : List ℕ) {b : Bool} {out out' : List ℕ} (e : b ≡ eqb (length t) 0) where
  pub value-empty : b ≡ true → Decodes (value_by v code t) out 0 None out'
  value-empty z = record { is = rw (← e, z) }

  module _ {h : Bool} (z : b ≡ false) (f : h ≡ same code (octets "2")) where
    pub value-hex : {r : Option ℕ} → h ≡ true → Decodes (hex_value t) out 0 r out' → Decodes (value_by v code t) out 0 r out'
    value-hex y g = rw (← e, z, ← f, y) g

    pub value-other : {r : Option ℕ} → h ≡ false → Decodes (other_value v code t) out 0 r out' → Decodes (value_by v code t) out 0 r out'
    value-other y g = rw (← e, z, ← f, y) g

-- the filter beside hex, by the edition
module _ (v : Version) (code t : List ℕ) {b : Bool} {out out' : List ℕ} (e : b ≡ earlier v) where
  module _ (z : b ≡ true) {s : Bool} (k : s ≡ same code (octets "6")) where
    pub other-edc : {r : Option ℕ} → s ≡ true → Decodes (edc_value t) out 0 r out' → Decodes (other_value v code t) out 0 r out'
    other-edc w g = rw (← e, z, ← k, w) g

    pub other-early : s ≡ false → Decodes (other_value v code t) out 0 None out'
    other-early w = record { is = rw (← e, z, ← k, w) }

  module _ (z : b ≡ false) {s : Bool} (k : s ≡ same code (octets "7")) where
    pub other-six : {r : Option ℕ} → s ≡ true → Decodes (six_value t) out 0 r out' → Decodes (other_value v code t) out 0 r out'
    other-six w g = rw (← e, z, ← k, w) g

    pub other-late : s ≡ false → Decodes (other_value v code t) out 0 None out'
    other-late w = record { is = rw (← e, z, ← k, w) }

-- ---- read into no room first

never : {m : ℕ} → Some m ≡ None → ⊥
never e = let z : ◌≡◌ {A = ℕ} 0 1 = cc in omega arith

laid_of : (v : List ℕ) {out : List ℕ} {d : Option ℕ} {out' : List ℕ} → Decodes (some v) out 0 d out' → Laid out 0 v (length v) out'
laid_of v g = record { place = omega arith; octets = g.is.1 }

length-of : (v : List ℕ) {out : List ℕ} {m : ℕ} {d : Option ℕ} {out' : List ℕ} → Decodes (some v) out 0 d out' → d ≡ Some m → m ≡ length v
length-of v {m = m} g e = let q = g.is.0 in let z : m ≡ 0 + length v = cc in omega arith

pub wrote-bad : (x : Maybe (List ℕ)) {a a' out : List ℕ} {d : Option ℕ} {r : Result ℕ Refusal} → Decodes x a 0 d a' → d ≡ None → r ≡ refused_as 14 → Writes (or_bad x) out r out
wrote-bad none g e q = writes-none q
wrote-bad (some v) g e q = absurd (never (sym g.is.0 ∙ e))

pub wrote-long : (x : Maybe (List ℕ)) {a a' out : List ℕ} {d : Option ℕ} {m : ℕ} {b : Bool} {r : Result ℕ Refusal}
    → Decodes x a 0 d a' → d ≡ Some m → b ≡ too_long (length out) m → b ≡ true → r ≡ refused_as 15 → Writes (or_bad x) out r out
wrote-long none g e l h q = absurd (never (sym e ∙ g.is))
wrote-long (some v) g e l h q = writes-over (length-of v g e) l h q

pub wrote-done : (x : Maybe (List ℕ)) {a a' out out' : List ℕ} {d d' : Option ℕ} {m : ℕ} {b : Bool}
    → Decodes x a 0 d a' → d ≡ Some m → b ≡ too_long (length out) m → b ≡ false → Decodes x out 0 d' out' → Writes (or_bad x) out (Ok m) out'
wrote-done none g e l h k = absurd (never (sym e ∙ g.is))
wrote-done (some v) g e l h k = writes-fit (length-of v g e) l h (laid_of v k)
