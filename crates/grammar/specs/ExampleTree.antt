-- Example P of document 01 as a tree: its octets are P, and it is valid.
use Rattle.std.specs.Prelude.{ℕ, List, [], ◌∷◌, ◌≡◌, refl}
use Prim.Native.String.{String}
use Rattle.std.proofs.Math.Option.{none}
use Rattle.syntax.specs.Octets.{octets}
use Rattle.syntax.specs.Service.{standard}
use Rattle.syntax.specs.Repertoire.{inside}
use Rattle.syntax.specs.Example.{P}
use Rattle.syntax.specs.Tree.{Component, Element, Segment, ne}
use Rattle.syntax.specs.Tree as syntax
use Rattle.syntax.specs.declared.Syntax.{Syntax}
use Rattle.syntax.specs.declared.Version.TheVariants.{Four}
use Rattle.syntax.specs.declared.Level.TheVariants.{C}
use Rattle.grammar.specs.Lists.{Snoc, nil, ◌▷◌}
use Rattle.grammar.specs.Segments.{with_tag}
use Rattle.grammar.specs.Interchange.{Leaf, plain, msg, message}
use Rattle.grammar.specs.Rules as rules
use Rattle.grammar.specs.RuleLaws.{check-holds}
use Rattle.grammar.specs.Valid.{Interchange, interchange, reading, print_interchange, Valid}

-- ---- elements from quoted texts, in which nothing is released

abbrev unreleased : List ℕ → Component
unreleased [] = []
unreleased (b ∷ s) = syntax.plain b ∷ unreleased s

abbrev component : String → Component
component t = unreleased (octets t)

abbrev components_of : List String → List Component
components_of [] = []
components_of (t ∷ ts) = component t ∷ components_of ts

-- an element of one component
abbrev one : String → Element
one t = ne (ne (component t) []) []

-- an element of this component and those behind it
abbrev parts : String → List String → Element
parts t ts = ne (ne (component t) (components_of ts)) []

abbrev item : String → List Element → Segment
item t es = with_tag (octets t) es

-- ---- P

abbrev unb : Leaf
unb = parts "UNOC" ("4" ∷ []) ∷ one "PITA" ∷ one "ROYALT" ∷ parts "20240105" ("0700" ∷ []) ∷ one "R1" ∷ []

abbrev unh : Leaf
unh = one "M1" ∷ parts "DESADV" ("D" ∷ "01B" ∷ "UN" ∷ []) ∷ []

abbrev body : Snoc Segment
body =
    nil ▷ item "QTY" (parts "12" ("30000" ∷ "KGM" ∷ []) ∷ []) ▷ item "QTY" (parts "12" ("27.34" ∷ "TNE" ∷ []) ∷ [])
    ▷ item "CNT" (parts "1" ("57.34" ∷ "TNE" ∷ []) ∷ [])

abbrev unt : Leaf
unt = one "5" ∷ one "M1" ∷ []

abbrev unz : Leaf
unz = one "1" ∷ one "R1" ∷ []

-- UNB, one message of UNH, three segments and UNT, then UNZ; no UNA
abbrev pub tree-P : Interchange
tree-P = interchange none unb (nil ▷ message (msg unh nil (plain body) nil) unt) unz

-- version 4, UNOC, the standard service characters
abbrev pub syntax-P : Syntax
syntax-P = record { version = Four; level = C; service = standard }

-- the octets of the tree are P
pub tree-prints : print_interchange tree-P ≡ P
tree-prints = refl

-- the tree is valid
pub tree-valid : Valid tree-P
unfolding inside
tree-valid =
    record {
      octets_right = tt;
      service_right = tt;
      y = syntax-P;
      named = refl;
      written = tt;
      repertoire = check-holds (rules.inside syntax-P (reading tree-P)) refl;
      in_order = check-holds (rules.order (reading tree-P)) refl;
      elements = check-holds (rules.well_formed syntax-P (reading tree-P)) refl;
      in_subset = check-holds (rules.subsets (reading tree-P)) refl;
      references = check-holds (rules.refs (reading tree-P)) refl;
      counted = check-holds (rules.counts Four (reading tree-P)) refl;
      scoped = check-holds (rules.scopes (reading tree-P)) refl;
      weighed = check-holds (rules.amounts (reading tree-P)) refl;
    }
