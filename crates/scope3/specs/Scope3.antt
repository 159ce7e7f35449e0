-- Scope 3, on the readings of the AUTACK's interchange and of the one that it refers to.
use Rattle.std.specs.Prelude.{ℕ, ◌+◌, cond, List}
use Rattle.std.proofs.Math.Option.{Option, none, some}
use Rattle.syntax.specs.Octets.{octets}
use Rattle.syntax.specs.declared.Service.{Service}
use Rattle.grammar.specs.Interchange.{show_message}
use Rattle.grammar.specs.Valid.{Interchange}
use Rattle.grammar.specs.Places.{wide}
use Rattle.grammar.specs.Named.{Placed, placed}
use Rattle.spans.specs.Span.{autack_m}
use Rattle.groups.specs.Calls.{Answered, then, service_in, message_in}
use Rattle.ranges.specs.Ranges.{Run, run}
use Rattle.f01.specs.Targets.{Target, target, has_reference, across_of}

-- "the sealed octets run from the UNH through the UNT of the message named"; "13 where no such message, other than an AUTACK, stands in the lent interchange"
abbrev pub whole_at : Service → Placed → Option Run
whole_at σ (placed m q) = cond (autack_m m) none (some (run q (q + wide σ (show_message m))))

-- ".. of that 0020"
abbrev pub whole_in : Interchange → Target → Option Run
whole_in i (target k m) = cond (has_reference i k) (then (message_in i m) (whole_at (service_in i))) none

-- "There 0541 is 3; .. the message named by the first USX under which a USY names the header"
abbrev pub scope3_of : List ℕ → List ℕ → List ℕ → List ℕ → Answered Run
scope3_of a s m r = across_of (octets "3") whole_in a s m r
