-- "Value call: the 0560 of the USR after the UST, or in AUTACK of the first matching USY, unfiltered by 0505."
use Rattle.std.specs.Prelude.{ℕ, cond, List, []}
use Rattle.std.proofs.Math.Option.{Option, none, some}
use Rattle.syntax.specs.Refusals.{at_zero}
use Rattle.syntax.specs.declared.Version.{Version}
use Rattle.grammar.specs.Segments.{ush0505, usr0560, usy0560}
use Rattle.grammar.specs.Interchange.{Leaf, Header, header, Trailer, trailer, Body, Open, message}
use Rattle.grammar.specs.Verdict.{verdict_of}
use Rattle.grammar.specs.Named.{Placed, placed}
use Rattle.walk.specs.Sections.{autack_o}
use Rattle.writing.specs.Written.{Text, no_text}
use Rattle.values.specs.Filters.{value_by, or_bad}
use Rattle.groups.specs.Groups.{Chosen, chosen}
use Rattle.groups.specs.Parts.{header_named, trailer_named, body_in}
use Rattle.groups.specs.Links.{Tie, tie, tie_in}
use Rattle.groups.specs.Calls.{Answered, given, refused_as, answered_by, then, message_in, version_in}

-- a header's filter, 0505. In names, `H` at the end is a header group
abbrev pub filter_h : Header → List ℕ
filter_h (header c us cs) = ush0505 c

-- ---- the text of the value. None is empty: "An empty or absent value is refused."

-- 0560 of the USR after a UST
abbrev pub usr_text : Version → Option Leaf → List ℕ
usr_text v none = []
usr_text v (some u) = usr0560 v u

abbrev pub behind : Version → Option (Chosen Trailer) → List ℕ
behind v none = []
behind v (some (chosen ts (trailer c o))) = usr_text v o

abbrev pub trailer_text : Version → Open → List ℕ → List ℕ
trailer_text v o r = behind v (trailer_named o r)

-- 0560 of the first USY that names the header
abbrev pub usy_text : Version → Option Tie → List ℕ
usy_text v none = []
usy_text v (some (tie x y)) = usy0560 v y

abbrev pub link_text : Version → Body → List ℕ → List ℕ
link_text v b r = usy_text v (tie_in b r)

abbrev pub value_text : Version → Open → List ℕ → List ℕ
value_text v o r = cond (autack_o o) (link_text v (body_in o) r) (trailer_text v o r)

-- ---- the call: 1 to 12, then 13 where there is no such message or header, then 14

abbrev pub filtered : Version → Chosen Header → List ℕ → Text
filtered v (chosen hs h) t = or_bad (value_by v (filter_h h) t)

abbrev pub or_no_header : Version → Option (Chosen Header) → List ℕ → Text
or_no_header v none t = no_text (at_zero 13)
or_no_header v (some h) t = filtered v h t

abbrev pub value_in : Version → Open → List ℕ → Text
value_in v o r = or_no_header v (header_named o r) (value_text v o r)

abbrev pub value_at : Version → Placed → List ℕ → Text
value_at v (placed (message o t) q) r = value_in v o r

abbrev pub answered : Answered Text → Text
answered (given x) = x
answered (refused_as f) = no_text f

abbrev pub value_of : List ℕ → List ℕ → List ℕ → Text
value_of s m r = answered (answered_by (verdict_of s) (λ i. then (message_in i m) (λ p. some (value_at (version_in i) p r))))
