-- What the walk keeps of the F01 run, message by message; and what it tells at the end.
use Rattle.syntax.specs.declared.Breach.{Breach}
use Rattle.std.specs.Prelude.{ℕ, ◌+◌, ◌≤◌, Bool, true, false, cond, List, ◌≡◌, length, Result, Ok, Some, None, Err, Option}
use Rattle.std.proofs.Math.Option.{Option as Maybe, none, some}
use Rattle.syntax.specs.declared.Service.{Service}
use Rattle.syntax.specs.declared.Syntax.{Syntax}
use Rattle.grammar.specs.Lists.{Snoc, nil, ◌▷◌, ◌+++◌}
use Rattle.grammar.specs.Interchange.{Leaf, Message, Reading, start, idle, busy, done, shown}
use Rattle.grammar.specs.Places.{wide}
use Rattle.grammar.specs.Verdict.{read, refused}
use Rattle.walk.specs.Runs.{answer_from}
use Rattle.walk.specs.declared.sections.Layout.{Layout}
use Rattle.spans.specs.Span.{Parted, parted, parted_of, run_right, Span, span, span_at}
use Rattle.spans.specs.declared.span.Run.{Run}
use Rattle.spans.specs.declared.span.Sofar.{Sofar}
use Rattle.spans.specs.declared.span.Sofar.TheVariants.{Before, Inside, Behind, Broken}

-- ---- of messages behind the UNB u, which stands at p

-- the last message is the run's last, or AUTACKs lie behind the run
abbrev sided : Snoc Message → Run → Sofar
sided nil x = Inside x
sided (a ▷ m) x = Behind x

abbrev pub sofar_by : Service → ℕ → Leaf → Parted → Sofar
sofar_by σ p u (parted b nil a) = Before
sofar_by σ p u (parted b (r ▷ x) a) =
    cond (run_right (r ▷ x)) (sided a (record { start = p + wide σ (shown (idle u b)); end = p + wide σ (shown (idle u (b +++ (r ▷ x)))) })) Broken

-- in what was read so far
abbrev pub sofar_at : Service → ℕ → Reading → Sofar
sofar_at σ p start = Before
sofar_at σ p (idle u ms) = sofar_by σ p u (parted_of ms)
sofar_at σ p (busy u ms o) = sofar_by σ p u (parted_of ms)
sofar_at σ p (done u ms z) = sofar_by σ p u (parted_of ms)

-- ---- one message more, by whether it is an AUTACK, where its UNH stands and where it ends

abbrev pub step_of : Sofar → Bool → ℕ → ℕ → Sofar
step_of Before true unh end = Before
step_of Before false unh end = Inside (record { start = unh; end = end })
step_of (Inside x) true unh end = Behind x
step_of (Inside x) false unh end = Inside (record { start = x.start; end = end })
step_of (Behind x) true unh end = Behind x
step_of (Behind x) false unh end = Broken
step_of Broken a unh end = Broken

-- a section more: only a message that it closed counts
abbrev pub section_of : Sofar → Bool → Layout → Sofar
section_of k false c = k
section_of k true c = step_of k c.autack c.unh c.end

-- ---- at the end

abbrev pub start_of : Sofar → ℕ
start_of Before = 0
start_of (Inside x) = x.start
start_of (Behind x) = x.start
start_of Broken = 0

abbrev pub end_of : Sofar → ℕ
end_of Before = 0
end_of (Inside x) = x.end
end_of (Behind x) = x.end
end_of Broken = 0

abbrev pub told_as : Sofar → Result (Option Run) Breach
told_as Before = (Ok None)
told_as (Inside x) = Ok (Some x)
told_as (Behind x) = Ok (Some x)
told_as Broken = (Ok None)

-- the whole interchange was read from p on, and this is its run
abbrev pub WholeBy : Syntax → List ℕ → ℕ → Maybe Span → Type 0
WholeBy y s p q = (u : Leaf) × (ms : Snoc Message) × (z : Leaf) × ((answer_from y s p ≡ read (done u ms z)) × (span_at y.service p u ms ≡ q))

-- the run, within the octets; that there is none; or why the interchange is refused
abbrev pub SpanIs : Syntax → List ℕ → ℕ → Result (Option Run) Breach → Type 0
SpanIs y s p (Ok (Some x)) = WholeBy y s p (some (span x.start x.end)) × (x.start ≤ x.end) × (x.end ≤ length s)
SpanIs y s p (Ok None) = WholeBy y s p none
SpanIs y s p (Err f) = answer_from y s p ≡ refused f.number f.place
