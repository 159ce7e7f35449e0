-- What a header of an AUTACK seals in the interchange that the AUTACK refers to: what F01 and scope 3 share. They differ in the scope code, and in the octets that are sealed there.
use Rattle.std.specs.Prelude.{ℕ, Bool, List}
use Rattle.std.proofs.Math.Option.{Option, some}
use Rattle.syntax.specs.Octets.{same}
use Rattle.grammar.specs.Segments.{unb0020, usx0020, usx0062_text}
use Rattle.grammar.specs.Interchange.{Leaf, message}
use Rattle.grammar.specs.Valid.{Interchange, interchange}
use Rattle.grammar.specs.Verdict.{Verdict, accepted, refused_with, verdict_of}
use Rattle.grammar.specs.Named.{Placed, placed}
use Rattle.groups.specs.Parts.{body_in}
use Rattle.groups.specs.Links.{Tie, tie, tie_in}
use Rattle.groups.specs.Calls.{Answered, refused_as, answered_by, then, message_in}
use Rattle.ranges.specs.Ranges.{Run, header_in}

-- what a USX refers to: an interchange by its 0020, as it is compared, and a message of it by its 0062, as content. F01 asks for the first alone
pub data Target : Type 0 where
  target : List ℕ → List ℕ → Target

abbrev pub usx_target : Leaf → Target
usx_target x = target (usx0020 x) (usx0062_text x)

abbrev pub target_of : Tie → Target
target_of (tie x y) = usx_target x

-- "the first USX under which a USY names the header", of a header with this scope code; 13 "if no USY names the header"
abbrev pub target_at : List ℕ → Placed → List ℕ → Option Target
target_at code (placed (message o t) q) r = then (header_in code o r) (λ h. then (tie_in (body_in o) r) (λ k. some (target_of k)))

abbrev pub target_in : List ℕ → Interchange → List ℕ → List ℕ → Option Target
target_in code i m r = then (message_in i m) (λ p. target_at code p r)

-- "in the interchange whose UNB 0020 equals the 0020 of the first USX .."
abbrev pub has_reference : Interchange → List ℕ → Bool
has_reference (interchange n u ms z) r = same (unb0020 u) r

-- "Calls give 1 to 12 first (F01: the AUTACK's interchange, then the other)": a is the AUTACK's, s the other, in which `give` finds the run
abbrev pub across_by : List ℕ → (Interchange → Target → Option Run) → Verdict → List ℕ → List ℕ → List ℕ → Answered Run
across_by code give (refused_with f) s m r = refused_as f
across_by code give (accepted a) s m r = answered_by (verdict_of s) (λ i. then (target_in code a m r) (give i))

abbrev pub across_of : List ℕ → (Interchange → Target → Option Run) → List ℕ → List ℕ → List ℕ → List ℕ → Answered Run
across_of code give a s m r = across_by code give (verdict_of a) s m r
