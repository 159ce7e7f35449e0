-- What calls on an interchange share: what they answer, and the message and the header that they name.
use Rattle.std.specs.Prelude.{ℕ, ◌+◌, ◌≤◌, cond, ◌≡◌, List, T, length, Result, Ok, Some, None, Err, Option}
use Rattle.std.proofs.Math.Option.{Option as Maybe, none, some}
use Rattle.syntax.specs.Content.{compared}
use Rattle.syntax.specs.Refusals.{at_zero}
use Rattle.syntax.specs.Octets.{same}
use Rattle.syntax.specs.Service.{fit}
use Rattle.syntax.specs.declared.Refusal.{Refusal}
use Rattle.syntax.specs.declared.Service.{Service}
use Rattle.syntax.specs.declared.Syntax.{Syntax}
use Rattle.syntax.specs.declared.Version.{Version}
use Rattle.syntax.specs.declared.Version.TheVariants.{Four}
use Rattle.grammar.specs.Lists.{holds}
use Rattle.grammar.specs.Rules.{ok_message}
use Rattle.grammar.specs.Interchange.{Leaf, Header, header, Open, msg, Message, message, show_message}
use Rattle.grammar.specs.Valid.{Interchange, interchange, syntax_in, in_force, opening_in}
use Rattle.grammar.specs.Verdict.{Verdict, accepted, refused_with, verdict_of}
use Rattle.grammar.specs.Named.{Placed, placed, placed_in}
use Rattle.walk.specs.Sections.{PartsLie}
use Rattle.walk.specs.declared.sections.Layout.{Layout}
use Rattle.groups.specs.Stand.{Stand}
use Rattle.groups.specs.declared.calls.Opened.{Opened}

-- ---- an answer: "Calls give 1 to 12 first .., then 13", at 0

pub data Answered (A : Type 0) : Type 0 where
  given : A → Answered A
  refused_as : Refusal → Answered A

abbrev pub or_missing : {A : Type 0} → Maybe A → Answered A
or_missing none = refused_as (at_zero 13)
or_missing (some a) = given a

abbrev pub answered_by : {A : Type 0} → Verdict → (Interchange → Maybe A) → Answered A
answered_by (refused_with g) f = refused_as g
answered_by (accepted t) f = or_missing (f t)

abbrev pub then : {A B : Type 0} → Maybe A → (A → Maybe B) → Maybe B
then none f = none
then (some a) f = f a

-- ---- "Calls name a message by its 0062 .., as content."

-- the version, by which the edition goes
abbrev pub version_by : Maybe Syntax → Version
version_by none = Four
version_by (some y) = y.version

abbrev pub version_in : Interchange → Version
version_in t = version_by (syntax_in t)

-- the service characters in force
abbrev pub service_in : Interchange → Service
service_in t = in_force (syntax_in t)

abbrev pub message_in : Interchange → List ℕ → Maybe Placed
message_in (interchange n u ms z) m = placed_in (service_in (interchange n u ms z)) (opening_in n).at u ms (compared m)

-- ---- the message that is named, in the octets s and in their reading

pub record Holds (s m : List ℕ) (y : Syntax) (c : Layout) (rows : List ℕ) : Type 0 where
  pub i : Interchange
  pub o : Open
  pub t : Leaf
  pub q : ℕ
  pub read : verdict_of s ≡ accepted i
  pub settled : syntax_in i ≡ some y
  pub service : service_in i ≡ y.service
  pub fits : T (fit y.service)
  pub named : message_in i m ≡ some (placed (message o t) q)
  pub laid : PartsLie y.service s q o t c rows
  pub stands : Stand y.service s q (show_message (message o t))
  pub ordered : holds (ok_message (message o t))
  pub few : (c.headers ≤ 9) × (c.trailers ≤ 9) × (length rows ≡ 18)

abbrev pub NamedIs : List ℕ → List ℕ → Result (Option Opened) Refusal → Type 0
NamedIs s m (Ok (Some x)) = Holds s m x.classes.syntax x.layout x.rows
NamedIs s m (Ok None) = (i : Interchange) × ((verdict_of s ≡ accepted i) × (message_in i m ≡ none))
NamedIs s m (Err f) = verdict_of s ≡ refused_with f
