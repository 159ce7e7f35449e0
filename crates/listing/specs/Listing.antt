-- The report on an interchange: its text, line by line, as "The report program reads standard input" shows it; and what the call answers.
use Rattle.syntax.specs.declared.Refusal.{Refusal}
use Rattle.std.specs.Prelude.{ℕ, ◌+◌, ◌-◌, cond, List, [], ◌++◌, ◌≡◌, ltb, length, drop, Result, Ok}
use Rattle.std.proofs.Math.Option.{Option, none, some}
use Rattle.syntax.specs.Refusals.{at_zero}
use Rattle.syntax.specs.declared.Service.{Service}
use Rattle.grammar.specs.Lists.{Snoc, nil, ◌▷◌, size}
use Rattle.grammar.specs.Grams.{sum}
use Rattle.grammar.specs.Segments.{unb0020_text, unh0062_text, unh0065, ush0534_text}
use Rattle.grammar.specs.Interchange.{header, Leaf, Header, Trailer, Open, msg, Message, message, idle, shown, show_header, show_body}
use Rattle.grammar.specs.Rules.{ref_h}
use Rattle.grammar.specs.Valid.{interchange, opening_in}
use Rattle.grammar.specs.Verdict.{Verdict, accepted, refused_with, verdict_of, loads_m}
use Rattle.grammar.specs.Places.{wide, headers_in}
use Rattle.groups.specs.Groups.{Chosen, chosen}
use Rattle.groups.specs.Parts.{trailer_named, scope_h, header_at, trailer_at, body_in}
use Rattle.groups.specs.Calls.{service_in}
use Rattle.writing.specs.Written.{refused_as, length_numbers, refusal_numbers, told_written}
use Rattle.lines.specs.Words.{refusal_line, accepted_line, message_line, seal_line}

-- ---- the lines of a message whose UNH stands at q

-- 0062 and 0534 as they are written. In names, `O` at the end is an open message, `H` a header group, `M` a message
abbrev pub written_o : Open → List ℕ
written_o (msg h hs b ts) = unh0062_text h

abbrev pub written_h : Header → List ℕ
written_h (header c us cs) = ush0534_text c

-- 0065
abbrev pub type_o : Open → List ℕ
type_o (msg h hs b ts) = unh0065 h

-- the octets from the USH to before the UST of its trailer; in a message that is accepted every header has one
abbrev pub to_trailer : Service → ℕ → Open → Chosen Header → Option (Chosen Trailer) → ℕ
to_trailer σ q o h none = 0
to_trailer σ q o h (some t) = trailer_at σ q o t - header_at σ q o h

abbrev pub seal_line_of : Service → ℕ → Open → Snoc Header → Header → List ℕ
seal_line_of σ q o hs h =
    seal_line (written_h h) (scope_h h) (wide σ (show_header h) + wide σ (show_body (body_in o))) (to_trailer σ q o (chosen hs h) (trailer_named o (ref_h h)))

-- "Seals follow their message in header order"
abbrev pub seals_of : Service → ℕ → Open → Snoc Header → List ℕ
seals_of σ q o nil = []
seals_of σ q o (hs ▷ h) = seals_of σ q o hs ++ seal_line_of σ q o hs h

abbrev pub message_of : Service → ℕ → Message → List ℕ
message_of σ q (message o t) =
    message_line (written_o o) (type_o o) (size (loads_m (message o t))) (sum (loads_m (message o t))) ++ seals_of σ q o (headers_in o)

-- ---- the text for the messages behind the UNB u, which stands at p

abbrev pub messages_of : Service → ℕ → Leaf → Snoc Message → List ℕ
messages_of σ p u nil = []
messages_of σ p u (ms ▷ m) = messages_of σ p u ms ++ message_of σ (p + wide σ (shown (idle u ms))) m

abbrev pub accepted_of : Service → ℕ → Leaf → Snoc Message → List ℕ
accepted_of σ p u ms = accepted_line (unb0020_text u) ++ messages_of σ p u ms

-- "A refusal prints only" its line
abbrev pub listing_by : Verdict → List ℕ
listing_by (refused_with f) = refusal_line f
listing_by (accepted (interchange n u ms z)) = accepted_of (service_in (interchange n u ms z)) (opening_in n).at u ms

abbrev pub listing_of : List ℕ → List ℕ
listing_of s = listing_by (verdict_of s)

-- ---- the call: the text first in the lent buffer and the rest as it was; 15 where the text is longer than the buffer, and all as it was

abbrev pub listed_as : List ℕ → List ℕ → Result ℕ Refusal
listed_as t out = cond (ltb (length out) (length t)) (refused_as 15) (Ok (length t))

-- "Lent octets beyond a written result stay."
abbrev pub left_in : List ℕ → List ℕ → List ℕ
left_in t out = cond (ltb (length out) (length t)) out (t ++ drop (length t) out)

-- the paper's numbers
abbrev pub listed_numbers : List ℕ → List ℕ → List ℕ
listed_numbers t out = cond (ltb (length out) (length t)) (refusal_numbers (at_zero 15)) (length_numbers (length t))

pub record Lists (t out : List ℕ) (r : Result ℕ Refusal) (out' : List ℕ) : Type 0 where
  pub answer : r ≡ listed_as t out
  pub numbers : told_written r ≡ listed_numbers t out
  pub octets : out' ≡ left_in t out
