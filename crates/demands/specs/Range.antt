-- D3: for each scope code the grammar of what is sealed, and what it is to be a reading under it. Nothing here reads octets.
use Rattle.std.specs.Prelude.{ℕ, ◌≡◌, List, T}
use Rattle.syntax.specs.Tree.{Segment, print, well}
use Rattle.syntax.specs.declared.Service.{Service}
use Rattle.grammar.specs.Lists.{Snoc, ◌+++◌, joined, list, any, Rule, test, ◌and◌, holds, every, few}
use Rattle.grammar.specs.Grams.{Grams, sum}
use Rattle.grammar.specs.Interchange.{Header, Trailer, Message, show_header, show_trailer, show_message}
use Rattle.grammar.specs.Rules.{ok_header, ok_item, ok_message}
use Rattle.grammar.specs.Loads.{loads as loads_in}
use Rattle.grammar.specs.Verdict.{loads_m}
use Rattle.spans.specs.Span.{other}

-- a grammar: the trees, the segments that each shows, the rules of order that hold of it, and its loads in order, in whole grams
pub record Grammar (A : Type 0) : Type 0 where
  pub segments : A → Snoc Segment
  pub rule : A → Rule
  pub loads : A → Snoc Grams

-- t is a reading of the octets o: it keeps the rules, its segments are well-formed under the service characters σ, and o is what they print
pub record Reads {A : Type 0} (g : Grammar A) (σ : Service) (o : List ℕ) (t : A) : Type 0 where
  pub ordered : holds (g.rule t)
  pub written : T (well σ (list (g.segments t)))
  pub printed : print σ (list (g.segments t)) ≡ o

-- the total: the exact sum, in whole grams
abbrev pub total_in : {A : Type 0} → Grammar A → A → Grams
total_in g t = sum (g.loads t)

-- "the same segments element by element, .. the same loads in the same order, the same total in whole grams"
pub record Same {A : Type 0} (g : Grammar A) (t v : A) : Type 0 where
  pub tree : t ≡ v
  pub segments : g.segments t ≡ g.segments v
  pub loads : g.loads t ≡ g.loads v
  pub total : total_in g t ≡ total_in g v

-- ---- "Scope 1: the header group from its USH, then the body, joined."

pub data Range1 : Type 0 where
  range1 : Header → Snoc Segment → Range1

abbrev pub segments1 : Range1 → Snoc Segment
segments1 (range1 h b) = show_header h +++ b

-- a header group as it is in a message; each segment of the body may stand in a body
abbrev pub rule1 : Range1 → Rule
rule1 (range1 h b) = ok_header h and every ok_item b

abbrev pub loads1 : Range1 → Snoc Grams
loads1 (range1 h b) = loads_in b

abbrev pub scope1 : Grammar Range1
scope1 = record { segments = segments1; rule = rule1; loads = loads1 }

-- ---- "Scope 2: from the USH to the octet before the associated UST, one run, other groups included."

-- the header group, the headers behind it, the body, and the earlier trailers
pub data Range2 : Type 0 where
  range2 : Header → Snoc Header → Snoc Segment → Snoc Trailer → Range2

abbrev pub segments2 : Range2 → Snoc Segment
segments2 (range2 h hs b ts) = show_header h +++ joined show_header hs +++ b +++ joined show_trailer ts

-- "0 to 9 header groups": at most eight behind the first
abbrev pub rule2 : Range2 → Rule
rule2 (range2 h hs b ts) = ok_header h and few 8 hs and every ok_header hs and every ok_item b

abbrev pub loads2 : Range2 → Snoc Grams
loads2 (range2 h hs b ts) = loads_in b

abbrev pub scope2 : Grammar Range2
scope2 = record { segments = segments2; rule = rule2; loads = loads2 }

-- ---- F01: "from the first UNH to the last UNT of messages not of type AUTACK"

-- "it holds no message or an AUTACK lies inside it": then it fails. `F` is of F01, as `1` and `2` above are of scope 1 and scope 2
abbrev pub rule_f : Snoc Message → Rule
rule_f ms = test (any ms) and every other ms and every ok_message ms

abbrev pub f01 : Grammar (Snoc Message)
f01 = record { segments = joined show_message; rule = rule_f; loads = joined loads_m }

-- ---- scope 3: "from the UNH through the UNT of the message named"

-- "no such message, other than an AUTACK": one that is an AUTACK fails
abbrev pub rule3 : Message → Rule
rule3 m = other m and ok_message m

abbrev pub scope3 : Grammar Message
scope3 = record { segments = show_message; rule = rule3; loads = loads_m }
