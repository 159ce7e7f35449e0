-- The same lines as the code makes them: from the octets of the interchange and the layouts of its messages.
use Rattle.syntax.specs.declared.Refusal.{Refusal}
use Rattle.std.specs.Prelude.{ℕ, Bool, true, false, List, [], ◌++◌, ◌≡◌, Result, Ok, Err}
use Rattle.syntax.specs.declared.Service.{Service}
use Rattle.syntax.specs.declared.Syntax.{Syntax}
use Rattle.grammar.specs.Lists.{Snoc}
use Rattle.grammar.specs.Interchange.{Leaf, Message, Reading, start, idle, busy, done, shown}
use Rattle.refusals.specs.Refused.{RefusedBy}
use Rattle.grammar.specs.Verdict.{read}
use Rattle.walk.specs.Runs.{answer_from}
use Rattle.walk.specs.declared.sections.Layout.{Layout}
use Rattle.groups.specs.Stand.{Stand}
use Rattle.groups.specs.Groups.{name_at}
use Rattle.writing.specs.Laid.{Laid}
use Rattle.lines.specs.Words.{line_words}
use Rattle.lines.specs.Seals.{seals_at}
use Rattle.listing.specs.Listing.{messages_of, accepted_of}

-- ---- the lines of a section: a message that it closed; none of UNB and UNZ
abbrev pub section_at : Service → List ℕ → List ℕ → Layout → Bool → List ℕ
section_at σ s rows c false = []
section_at σ s rows c true =
    line_words (name_at σ s c.unh 1) (name_at σ s c.unh 2) c.loads c.below c.grams ++ seals_at σ s rows c c.headers c.body

-- ---- all lines of what was read so far

abbrev pub messages_read : Service → ℕ → Reading → List ℕ
messages_read σ p start = []
messages_read σ p (idle u ms) = messages_of σ p u ms
messages_read σ p (busy u ms o) = messages_of σ p u ms
messages_read σ p (done u ms z) = messages_of σ p u ms

-- the whole interchange was read from p on, and its text is laid; or it is refused
abbrev pub LaysAll : Syntax → List ℕ → ℕ → List ℕ → Result ℕ Refusal → List ℕ → Type 0
LaysAll y s p out (Ok n) out' =
    (u : Leaf) × (ms : Snoc Message) × (z : Leaf) × ((answer_from y s p ≡ read (done u ms z))
    × (Stand y.service s p (shown (done u ms z)) → Laid out 0 (accepted_of y.service p u ms) n out'))
LaysAll y s p out (Err f) out' = RefusedBy s (answer_from y s p) f
