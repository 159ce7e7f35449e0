-- "seal A1 scope 1 octets 82": how many octets a seal covers, by the report and by the range calls.
use Rattle.std.specs.Prelude.{ℕ, ◌≡◌, List, [], ◌∷◌, ◌++◌}
use Rattle.syntax.specs.Content.{compared}
use Rattle.grammar.specs.Lists.{Snoc, ◌▷◌, ◌+++◌, size}
use Rattle.grammar.specs.Grams.{sum}
use Rattle.grammar.specs.Interchange.{Header, message}
use Rattle.grammar.specs.Rules.{ref_h}
use Rattle.grammar.specs.Valid.{opening_in, una_of}
use Rattle.grammar.specs.Verdict.{loads_m}
use Rattle.grammar.specs.Places.{headers_in}
use Rattle.groups.specs.Calls.{service_in}
use Rattle.writing.specs.Laid.{together}
use Rattle.lines.specs.Words.{feed, message_line, seal_words, octets_words}
use Rattle.listing.specs.Listing.{written_o, written_h, type_o, seals_of, accepted_of, listing_of}
use Rattle.demands.specs.Stated.{unb_of}
use Rattle.demands.specs.Printed.{MessageOf}

-- the report's lines as far as the messages before this one, and this message's own line
abbrev pub lines_to : {s m : List ℕ} → MessageOf s m → List ℕ
lines_to of = accepted_of (service_in of.i) (opening_in (una_of of.i)).at (unb_of of.i) of.there.before

abbrev pub line_of : {s m : List ℕ} → MessageOf s m → List ℕ
line_of of = message_line (written_o of.o) (type_o of.o) (size (loads_m (message of.o of.t))) (sum (loads_m (message of.o of.t)))

-- "seal A1 scope 1 octets 82"
abbrev pub seal_octets : Header → List ℕ → ℕ → List ℕ
seal_octets h code n = together (seal_words (written_h h) code ∷ octets_words n ∷ feed ∷ [])

-- the report on s has, for the header r of the message m, the line with the scope code `code` and the number n: behind the lines of the messages before, the
-- message's own and those of the headers before; "Seals follow their message in header order"
pub record Reported (s m r code : List ℕ) (n : ℕ) : Type 0 where
  pub of : MessageOf s m
  pub before : Snoc Header
  pub header : Header
  pub behind : Snoc Header
  pub whole : headers_in of.o ≡ before ▷ header +++ behind
  pub ref : ref_h header ≡ compared r
  pub rest : List ℕ
  pub report : listing_of s ≡ lines_to of ++ (line_of of ++ (seals_of (service_in of.i) of.q of.o before ++ (seal_octets header code n ++ rest)))
