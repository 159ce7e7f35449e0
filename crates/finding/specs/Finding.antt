-- The message that a call names by its 0062.
use Rattle.syntax.specs.declared.Breach.{Breach}
use Rattle.std.specs.Prelude.{ℕ, ◌≡◌, Bool, true, false, List, Result, Ok, Some, None, Err, Option}
use Rattle.std.proofs.Math.Option.{none, some}
use Rattle.std.proofs.Math.Seq.{slice}
use Rattle.syntax.specs.Octets.{same}
use Rattle.syntax.specs.Content.{content, compared}
use Rattle.syntax.specs.declared.Service.{Service}
use Rattle.syntax.specs.declared.Syntax.{Syntax}
use Rattle.grammar.specs.Lists.{Snoc}
use Rattle.grammar.specs.Interchange.{Leaf, Open, Message, message, Reading, done}
use Rattle.grammar.specs.Named.{placed, placed_at}
use Rattle.grammar.specs.Verdict.{read, refused}
use Rattle.walk.specs.Runs.{answer_from}
use Rattle.walk.specs.Sections.{PartsLie}
use Rattle.walk.specs.declared.sections.Layout.{Layout}

-- the section closed a message with this 0062
abbrev pub named_by : ℕ → List ℕ → Bool → Layout → List ℕ → Bool
named_by ρ s false c r = false
named_by ρ s true c r = same (compared (content ρ (slice c.reference.start c.reference.end s))) r

-- of what was read, in the octets s from p on: the message with the 0062 r, where it stands and its layout; or none
abbrev pub SeeksBy : Result (Option Layout) Breach → Service → List ℕ → ℕ → Reading → List ℕ → List ℕ → Type 0
SeeksBy (Ok (Some c)) σ s p z r rows = (o : Open) × (t : Leaf) × (q : ℕ) × ((placed_at σ p z r ≡ some (placed (message o t) q)) × PartsLie σ s q o t c rows)
SeeksBy (Ok None) σ s p z r rows = placed_at σ p z r ≡ none
SeeksBy (Err f) σ s p z r rows = ⊥

-- the whole was read
abbrev pub WholeBy : Result (Option Layout) Breach → Syntax → List ℕ → ℕ → List ℕ → List ℕ → Type 0
WholeBy f y s p r rows = (u : Leaf) × (ms : Snoc Message) × (z : Leaf) × ((answer_from y s p ≡ read (done u ms z)) × SeeksBy f y.service s p (done u ms z) r rows)

abbrev pub FoundIs : Syntax → List ℕ → ℕ → List ℕ → Result (Option Layout) Breach → List ℕ → Type 0
FoundIs y s p r (Ok (Some c)) rows = WholeBy (Ok (Some c)) y s p r rows
FoundIs y s p r (Ok None) rows = WholeBy (Ok None) y s p r rows
FoundIs y s p r (Err f) rows = answer_from y s p ≡ refused f.number f.place
