-- An interchange, how it is printed, and which are valid. Nothing here reads octets.
use Rattle.syntax.specs.declared.Breach.{Breach}
use Rattle.std.specs.Prelude.{ℕ, Bool, true, false, List, [], ◌∷◌, ◌++◌, ◌≡◌, T, length, Result, Ok, Err}
use Rattle.std.proofs.Math.Option.{Option, none, some}
use Rattle.syntax.specs.Octets.{octets, within}
use Rattle.syntax.specs.Service.{standard, fit}
use Rattle.syntax.specs.Opening.{level_named, version_named, both_named}
use Rattle.syntax.specs.Tree as syntax
use Rattle.syntax.specs.Tree.{Segment, well}
use Rattle.syntax.specs.declared.Service.{Service}
use Rattle.syntax.specs.declared.Syntax.{Syntax}
use Rattle.syntax.specs.declared.opening.Opening.{Opening}
use Rattle.syntax.specs.declared.opening.Start.{Start}
use Rattle.grammar.specs.Lists.{Snoc, list, holds}
use Rattle.grammar.specs.Segments.{unb0001, unb0002}
use Rattle.grammar.specs.Interchange.{Leaf, Message, Reading, done, shown}
use Rattle.grammar.specs.Rules.{inside, order, well_formed, subsets, refs, counts, scopes, amounts}

-- UNA: the service characters, and the decimal mark that is ignored
pub data Una : Type 0 where
  una : Service → ℕ → Una

-- UNA or none, UNB, messages, UNZ
pub data Interchange : Type 0 where
  interchange : Option Una → Leaf → Snoc Message → Leaf → Interchange

abbrev pub reading : Interchange → Reading
reading (interchange n u ms z) = done u ms z

abbrev pub segments : Interchange → List Segment
segments t = list (shown (reading t))

-- ---- the syntax that UNA and UNB's first element settle

abbrev pub opening_in : Option Una → Opening
opening_in none = record { service = standard; una = false; at = 0 }
opening_in (some (una σ m)) = record { service = σ; una = true; at = 9 }

abbrev pub begun_in : Interchange → Result Start Breach
begun_in (interchange n u ms z) = both_named (opening_in n) (level_named (unb0001 u)) (version_named (unb0002 u))

abbrev pub readied : Result Start Breach → Option Syntax
readied (Ok x) = some x.syntax
readied (Err f) = none

abbrev pub syntax_in : Interchange → Option Syntax
syntax_in t = readied (begun_in t)

-- ---- printing

abbrev pub print_una : Option Una → List ℕ
print_una none = []
print_una (some (una σ m)) =
    octets "UNA" ++ σ.component ∷ σ.element ∷ m ∷ σ.release ∷ σ.repetition ∷ σ.terminator ∷ []

abbrev pub una_of : Interchange → Option Una
una_of (interchange n u ms z) = n

-- the service characters in force
abbrev pub in_force : Option Syntax → Service
in_force none = standard
in_force (some y) = y.service

abbrev pub print_interchange : Interchange → List ℕ
print_interchange t = print_una (una_of t) ++ syntax.print (in_force (syntax_in t)) (segments t)

-- ---- "An interchange is accepted exactly when it meets .."

abbrev pub una_right : Option Una → Bool
una_right none = true
una_right (some (una σ m)) = fit σ

pub record Valid (t : Interchange) : Type 0 where
  -- "An interchange has 1 to 65,535 octets."
  pub octets_right : T (within 1 65535 (length (print_interchange t)))
  -- UNA: "Each of these except the decimal mark is a printable octet .., and those in force differ"
  pub service_right : T (una_right (una_of t))
  -- 0001 and 0002 are known, and "In version 3 a UNA repetition octet must be a space."
  pub y : Syntax
  pub named : syntax_in t ≡ some y
  -- the segments are well-formed under the service characters in force
  pub written : T (well y.service (segments t))
  -- the rules, by number: 3, 7, 8 of each segment and by the message's subset, 9, 10, 11, 12
  pub repertoire : holds (inside y (reading t))
  pub in_order : holds (order (reading t))
  pub elements : holds (well_formed y (reading t))
  pub in_subset : holds (subsets (reading t))
  pub references : holds (refs (reading t))
  pub counted : holds (counts y.version (reading t))
  pub scoped : holds (scopes (reading t))
  pub weighed : holds (amounts (reading t))
