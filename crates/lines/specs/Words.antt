-- The lines of the report: the words of each, as "The report program reads standard input" shows them.
use Rattle.std.specs.Prelude.{ℕ, Bool, true, false, cond, List, [], ◌∷◌}
use Rattle.syntax.specs.Octets.{octets, same}
use Rattle.syntax.specs.declared.Refusal.{Refusal}
use Rattle.grammar.specs.Grams.{Grams, below, magnitude}
use Rattle.writing.specs.Decimal.{decimal_of}
use Rattle.writing.specs.Laid.{together}

-- "a line feed after each"
abbrev pub feed : List ℕ
feed = octets "\n"

-- "The report prints `refused 10 at 113 segment 6`."
abbrev pub refusal_line : Refusal → List ℕ
refusal_line f =
    together (octets "refused " ∷ decimal_of f.number ∷ octets " at " ∷ decimal_of f.place ∷ octets " segment " ∷ decimal_of f.segment ∷ feed ∷ [])

abbrev pub accepted_line : List ℕ → List ℕ
accepted_line reference = together (octets "accepted " ∷ reference ∷ feed ∷ [])

abbrev pub message_words : List ℕ → List ℕ → List ℕ
message_words reference type = together (octets "message " ∷ reference ∷ octets " " ∷ type ∷ [])

-- "the report prints the sign"
abbrev pub sign_words : Bool → List ℕ
sign_words true = octets "-"
sign_words false = []

abbrev pub loads_words : ℕ → Bool → ℕ → List ℕ
loads_words loads minus grams = together (octets " loads " ∷ decimal_of loads ∷ octets " grams " ∷ sign_words minus ∷ decimal_of grams ∷ feed ∷ [])

abbrev pub line_words : List ℕ → List ℕ → ℕ → Bool → ℕ → List ℕ
line_words reference type loads minus grams = together (message_words reference type ∷ loads_words loads minus grams ∷ [])

abbrev pub message_line : List ℕ → List ℕ → ℕ → Grams → List ℕ
message_line reference type loads grams = line_words reference type loads (below grams) (magnitude grams)

abbrev pub seal_words : List ℕ → List ℕ → List ℕ
seal_words reference scope = together (octets "seal " ∷ reference ∷ octets " scope " ∷ scope ∷ [])

abbrev pub octets_words : ℕ → List ℕ
octets_words n = together (octets " octets " ∷ decimal_of n ∷ [])

-- what a seal covers: so many octets in scope 1, so many in scope 2; in an AUTACK "its seal lines end after F01", and in the GS1 subset "after `scope 3`"
abbrev pub covered_words : List ℕ → ℕ → ℕ → List ℕ
covered_words scope one two = cond (same scope (octets "1")) (octets_words one) (cond (same scope (octets "2")) (octets_words two) [])

abbrev pub seal_line : List ℕ → List ℕ → ℕ → ℕ → List ℕ
seal_line reference scope one two = together (seal_words reference scope ∷ covered_words scope one two ∷ feed ∷ [])
