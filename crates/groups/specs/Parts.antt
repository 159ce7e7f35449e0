-- The header groups and the trailer groups of a message: which one a call names, and where it stands.
use Rattle.std.specs.Prelude.{ℕ, ◌+◌, List}
use Rattle.std.proofs.Math.Option.{Option}
use Rattle.syntax.specs.Content.{compared}
use Rattle.syntax.specs.declared.Service.{Service}
use Rattle.grammar.specs.Lists.{joined}
use Rattle.grammar.specs.Segments.{ush0541}
use Rattle.grammar.specs.Interchange.{Header, header, Trailer, Body, Open, msg, show_header, show_trailer}
use Rattle.grammar.specs.Rules.{ref_h, ref_t}
use Rattle.grammar.specs.Places.{wide}
use Rattle.walk.specs.Layout.{heads_at, tail_at}
use Rattle.groups.specs.Groups.{Chosen, chosen, chosen_by}

-- "Calls name .. a header by its 0534, as content."
abbrev pub header_named : Open → List ℕ → Option (Chosen Header)
header_named (msg h hs b ts) r = chosen_by ref_h hs (compared r)

-- the associated trailer
abbrev pub trailer_named : Open → List ℕ → Option (Chosen Trailer)
trailer_named (msg h hs b ts) r = chosen_by ref_t ts (compared r)

-- a header's scope code, 0541. In names, `H` at the end is a header group
abbrev pub scope_h : Header → List ℕ
scope_h (header c us cs) = ush0541 c

-- where a header group starts and ends, and where a trailer group starts, of a message whose UNH stands at q
abbrev pub header_at : Service → ℕ → Open → Chosen Header → ℕ
header_at σ q o (chosen hs h) = heads_at σ q o + wide σ (joined show_header hs)

abbrev pub header_end : Service → ℕ → Open → Chosen Header → ℕ
header_end σ q o (chosen hs h) = header_at σ q o (chosen hs h) + wide σ (show_header h)

abbrev pub trailer_at : Service → ℕ → Open → Chosen Trailer → ℕ
trailer_at σ q o (chosen ts t) = tail_at σ q o + wide σ (joined show_trailer ts)

abbrev pub body_in : Open → Body
body_in (msg h hs b ts) = b
