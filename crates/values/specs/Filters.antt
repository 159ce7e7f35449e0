-- The value call: "the 0560 .. unfiltered by 0505." "An empty or absent value is refused."
use Rattle.std.specs.Prelude.{ℕ, List, cond, eqb, length}
use Rattle.std.proofs.Math.Option.{Option, none, some}
use Rattle.syntax.specs.Refusals.{at_zero}
use Rattle.syntax.specs.Octets.{octets, same}
use Rattle.writing.specs.Written.{Text, text, no_text}
use Rattle.syntax.specs.Opening.{earlier}
use Rattle.syntax.specs.declared.Version.{Version}
use Rattle.filters.specs.Hex.{hex_value}
use Rattle.filters.specs.Six.{six_value}
use Rattle.edc.specs.Edc.{edc_value}

-- "The filter is code 2, or the EDC filter of code 6" in the earlier edition; in the others "Code 7" beside it. Any other is unknown
abbrev pub other_value : Version → List ℕ → List ℕ → Option (List ℕ)
other_value v code t =
    cond (earlier v) (cond (same code (octets "6")) (edc_value t) none) (cond (same code (octets "7")) (six_value t) none)

-- the value of a text under a 0505, both by content
abbrev pub value_by : Version → List ℕ → List ℕ → Option (List ℕ)
value_by v code t = cond (eqb (length t) 0) none (cond (same code (octets "2")) (hex_value t) (other_value v code t))

-- "filter unknown, text bad or empty": 14 at 0
abbrev pub or_bad : Option (List ℕ) → Text
or_bad none = no_text (at_zero 14)
or_bad (some v) = text v
