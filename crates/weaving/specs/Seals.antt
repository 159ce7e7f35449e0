-- Sealing: what is put into a message, when it may be, and the texts that it gives.
use Rattle.std.specs.Prelude.{ℕ, ◌+◌, Bool, false, cond, not, ◌&&◌, ◌||◌, List, [], ◌∷◌, eqb, leb, length, drop}
use Rattle.std.proofs.Math.Option.{Option, none, some}
use Rattle.syntax.specs.Content.{compared}
use Rattle.syntax.specs.Octets.{octet, octets, within, same, all_pass}
use Rattle.syntax.specs.Service.{serves}
use Rattle.syntax.specs.Repertoire.{tag_octet, outside}
use Rattle.syntax.specs.Tree as syntax
use Rattle.syntax.specs.Tree.{Octet, plain, freed, Ne, ne, Component, Element}
use Rattle.syntax.specs.declared.Service.{Service}
use Rattle.syntax.specs.declared.Syntax.{Syntax}
use Rattle.grammar.specs.Lists.{Snoc, nil, ◌▷◌, ◌+++◌, each, size, among, list}
use Rattle.grammar.specs.Segments.{unt0074}
use Rattle.grammar.specs.Interchange.{Leaf, Header, header, Trailer, trailer, Open, msg, Message, message, show_header, show_body}
use Rattle.grammar.specs.Rules.{autack, ref_h, ref_m}
use Rattle.grammar.specs.Valid.{Interchange, interchange, print_interchange}
use Rattle.writing.specs.Decimal.{decimal_of}
use Rattle.filters.specs.Hex.{hex_text}
use Rattle.filters.specs.Six.{six_text}
use Rattle.syntax.specs.Opening.{earlier}
use Rattle.syntax.specs.declared.Version.{Version}
use Rattle.groups.specs.Calls.{service_in, version_in}

-- ---- elements of the new segments

-- octets that stand as they are
abbrev pub plains : List ℕ → Component
plains [] = []
plains (b ∷ t) = plain b ∷ plains t

-- "service characters in it are released"
abbrev pub released_octet : Service → ℕ → Octet
released_octet σ b = cond (serves σ b) (freed b) (plain b)

abbrev pub released : Service → List ℕ → Component
released σ [] = []
released σ (b ∷ t) = released_octet σ b ∷ released σ t

-- an element of one component, and one of several
abbrev pub single : List ℕ → Element
single t = ne (ne (plains t) []) []

abbrev pub several : Component → List Component → Element
several c cs = ne (ne c cs) []

-- ---- "The header directly after UNH is `USH+1+REF+1+1+F+2+1'USA+1:::16:1'`"

abbrev pub ush_leaf : List ℕ → ℕ → Leaf
ush_leaf r f =
    single (octets "1") ∷ single r ∷ single (octets "1") ∷ single (octets "1") ∷ single (decimal_of f) ∷ single (octets "2") ∷ single (octets "1") ∷ []

abbrev pub usa_leaf : Leaf
usa_leaf = several (plains (octets "1")) ([] ∷ [] ∷ plains (octets "16") ∷ plains (octets "1") ∷ []) ∷ []

abbrev pub new_header : List ℕ → ℕ → Header
new_header r f = header (ush_leaf r f) (nil ▷ usa_leaf) nil

-- ---- "the trailer directly before UNT `UST+REF+4'USR+1:VALUE'`"; "Sealing such a file writes its own edition's trailer": `UST+REF'USR+VALUE'`

abbrev pub ust_leaf : Version → List ℕ → Leaf
ust_leaf v r = single r ∷ cond (earlier v) [] (single (octets "4") ∷ [])

abbrev pub usr_leaf : Version → Service → List ℕ → Leaf
usr_leaf v σ t = cond (earlier v) (several (released σ t) []) (several (plains (octets "1")) (released σ t ∷ [])) ∷ []

abbrev pub new_trailer : Version → Service → List ℕ → List ℕ → Trailer
new_trailer v σ r t = trailer (ust_leaf v r) (some (usr_leaf v σ t))

-- ---- "0074 grows by 4, without leading zeros": it is UNT's first element, and everything else of UNT stays

abbrev pub grown : Leaf → Leaf
grown n = single (decimal_of (unt0074 n + 4)) ∷ drop 1 n

-- ---- the sealed interchange

abbrev pub sealed_message : Header → Trailer → Message → Message
sealed_message h t (message (msg u hs b ts) n) = message (msg u (nil ▷ h +++ hs) b (ts ▷ t)) (grown n)

-- in the message that is named, found as every call finds it
abbrev pub sealed_in : Header → Trailer → Snoc Message → List ℕ → Snoc Message
sealed_in h t nil r = nil
sealed_in h t (ms ▷ m) r = cond (same (ref_m m) r) (ms ▷ sealed_message h t m) (sealed_in h t ms r ▷ m)

abbrev pub sealed : Interchange → List ℕ → Header → Trailer → Interchange
sealed (interchange n u ms z) r h t = interchange n u (sealed_in h t ms (compared r)) z

-- ---- 16: "REF not allowed or already used in the message; F or VALUE length not allowed; nine headers already; AUTACK"

-- "REF is 1 to 14 of A to Z and 0 to 9"
abbrev pub ref_right : List ℕ → Bool
ref_right r = within 1 14 (length r) && all_pass tag_octet r

-- "F is 2 or 7."; in the earlier edition "F 2 only"
abbrev pub filter_right : Version → ℕ → Bool
filter_right v f = eqb f 2 || (not (earlier v) && eqb f 7)

-- ".. that isn't AUTACK", and has eight headers at most
abbrev pub takes_more : Open → Bool
takes_more (msg u hs b ts) = not (autack u) && leb (size hs) 8

-- "new in the message"
abbrev pub is_new : Open → List ℕ → Bool
is_new (msg u hs b ts) r = not (among (each ref_h hs) (compared r))

abbrev pub may_seal : Version → Open → List ℕ → ℕ → Bool
may_seal v o r f = ref_right r && filter_right v f && takes_more o && is_new o r

-- "VALUE has 1 to 256 octets for F = 2, 1 to 384 for F = 7"; in the earlier edition "VALUE of 1 to 128 octets"
abbrev pub most_octets : Version → ℕ → ℕ
most_octets v f = cond (earlier v) 128 (cond (eqb f 2) 256 384)

abbrev pub length_right : Version → ℕ → List ℕ → Bool
length_right v f x = within 1 (most_octets v f) (length x)

-- ---- 14: "VALUE can't be written (repertoire, release not in force)"

-- the text that the filter gives VALUE
abbrev pub text_by : ℕ → List ℕ → List ℕ
text_by f v = cond (eqb f 2) (hex_text v) (six_text v)

abbrev pub may_write : Syntax → ℕ → Bool
may_write y b = not (outside y b) && not (serves y.service b && eqb y.service.release (octet " "))

abbrev pub writable : Option Syntax → List ℕ → Bool
writable none t = false
writable (some y) t = all_pass (may_write y) t

-- ---- the texts

-- "the scope 1 octets to be signed": the new header group, then the body, "in the interchange's own service characters"
abbrev pub signed_text : Service → Open → List ℕ → ℕ → List ℕ
signed_text σ (msg u hs b ts) r f = syntax.print σ (list (show_header (new_header r f) +++ show_body b))

-- "the sealed interchange", where t is the text of VALUE
abbrev pub sealed_text : Interchange → List ℕ → List ℕ → ℕ → List ℕ → List ℕ
sealed_text i m r f t = print_interchange (sealed i m (new_header r f) (new_trailer (version_in i) (service_in i) r t))
