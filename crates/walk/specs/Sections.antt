-- The walk by sections: UNB, a whole message, or UNZ. Of a message that was closed: where its parts stand, how many there are, its loads.
use Rattle.syntax.specs.declared.Breach.{Breach}
use Rattle.std.specs.Prelude.{ℕ, ◌+◌, ◌≤◌, ◌<◌, ◌≡◌, Bool, true, false, cond, List, T, ltb, length, Result, Ok, Some, None, Err, Option}
use Rattle.std.proofs.Math.Seq.{slice}
use Rattle.syntax.specs.Octets.{octets, same}
use Rattle.syntax.specs.Service.{fit}
use Rattle.syntax.specs.Content.{content, compared}
use Rattle.syntax.specs.Tree.{print_s}
use Rattle.syntax.specs.declared.Service.{Service}
use Rattle.syntax.specs.declared.Syntax.{Syntax}
use Rattle.grammar.specs.Lists.{Snoc, nil, ◌▷◌, size}
use Rattle.grammar.specs.Grams.{sum, magnitude, below}
use Rattle.grammar.specs.Weighed.{apart}
use Rattle.grammar.specs.Segments.{Unt, seg}
use Rattle.grammar.specs.Interchange.{Leaf, Open, msg, Message, message, Reading, start, idle, busy, done, show_open}
use Rattle.grammar.specs.Rules.{autack, is_autack, ref_o}
use Rattle.grammar.specs.Verdict.{loads_m, refused}
use Rattle.grammar.specs.Places.{wide, headers_in, trailers_in}
use Rattle.walk.specs.Layout.{heads_at, body_at, tail_at, spots_of, Rows}
use Rattle.walk.specs.RunLaws.{ReadAll}
use Rattle.walk.specs.Runs.{is_done, is_busy, answer_from, Walking}
use Rattle.walk.specs.declared.layout.Spots.{Spots}
use Rattle.walk.specs.declared.sections.Layout.{Layout}
use Rattle.walk.specs.declared.sections.Section.{Section}
use Rattle.turns.specs.declared.state.State.{State}
use Rattle.turns.specs.declared.state.Ahead.{Ahead}

-- how many headers a trailer at `a` chooses from: all n, none where no UST stands there
abbrev pub nameable_in : List ℕ → ℕ → ℕ → ℕ
nameable_in s a n = cond (same (slice a (a + 3) s) (octets "UST")) n 0

abbrev pub laid_out : State → Spots → ℕ → ℕ → Layout
laid_out x q at next = record {
  unh = q.unh;
  heads = q.heads;
  body = q.body;
  tail = q.tail;
  unt = at;
  end = next;
  headers = x.message.headers;
  trailers = q.trailers;
  autack = is_autack x.message.autack;
  loads = x.message.sums.loads;
  grams = apart x.message.sums.grams x.message.sums.back;
  below = ltb x.message.sums.grams x.message.sums.back;
  reference = x.unh;
}

-- behind a section whose last segment stands at i, and behind which is a: a message that was open before it is closed
abbrev pub passed_as : State → Spots → ℕ → Ahead → Result (Option Section) Breach
passed_as x q i a = Ok (Some (record { state = a.state; next = a.next; closed = is_busy x.phase; layout = laid_out x q i a.next }))

-- the octets are over, and a message is open
abbrev pub left_open : State → Spots → ℕ → Result (Option Section) Breach
left_open x q i = Ok (Some (record { state = x; next = i; closed = false; layout = laid_out x q i i }))

-- 7: "input ends early; octets after UNZ", at the first of them or at the end
abbrev pub misplaced_as : ℕ → Result (Option Section) Breach
misplaced_as i = Err (record { number = 7; place = i })

-- behind the last octet, by whether UNZ was read
abbrev pub ended_as : Bool → ℕ → Result (Option Section) Breach
ended_as true i = (Ok None)
ended_as false i = misplaced_as i

-- in names, `O` at the end is an open message
abbrev pub autack_o : Open → Bool
autack_o (msg h hs b ts) = autack h

-- ---- what is told of the message o, closed by the UNT t, whose UNH stands at p in the octets s

pub record PartsLie (σ : Service) (s : List ℕ) (p : ℕ) (o : Open) (t : Leaf) (c : Layout) (rows : List ℕ) : Type 0 where
  -- where its UNH, its header groups, its body, its trailer groups and its UNT start, each behind what comes before it
  pub unh : c.unh ≡ p
  pub heads : c.heads ≡ heads_at σ p o
  pub body : c.body ≡ body_at σ p o
  pub tail : c.tail ≡ tail_at σ p o
  pub unt : c.unt ≡ p + wide σ (show_open o)
  -- where it ends, within the octets
  pub end : c.end ≡ c.unt + length (print_s σ (seg Unt t))
  pub inside : c.end ≤ length s
  -- how many header groups and trailer groups, and where each of them starts
  pub headers : c.headers ≡ size (headers_in o)
  pub trailers : c.trailers ≡ size (trailers_in o)
  pub starts : Rows σ p o rows
  -- whether it is an AUTACK; its loads and their grams, with their sign and within an `int64_t`; its 0062
  pub autack : c.autack ≡ autack_o o
  pub loads : c.loads ≡ size (loads_m (message o t))
  pub grams : c.grams ≡ magnitude (sum (loads_m (message o t)))
  pub below : c.below ≡ below (sum (loads_m (message o t)))
  pub light : c.grams < 9223372036854775808
  pub reference : compared (content σ.release (slice c.reference.start c.reference.end s)) ≡ ref_o o

-- ---- inside a message

-- the messages ms were read, and of the one whose UNH stands at p what is kept, up to i
pub record Within (y : Syntax) (s : List ℕ) (from p : ℕ) (u : Leaf) (ms : Snoc Message) (x : State) (h l b : List ℕ) (i : ℕ) (q : Spots) (rows : List ℕ) : Type 0 where
  pub walks : Walking y s from x h l b i
  pub o : Open
  pub tree : walks.tree ≡ busy u ms o
  pub place : i ≡ p + wide y.service (show_open o)
  pub spots : q ≡ spots_of y.service p o
  pub starts : Rows y.service p o rows

-- the message was closed, or the octets are over
abbrev pub UntBy : Bool → (y : Syntax) → List ℕ → ℕ → Leaf → Snoc Message → Reading → Layout → ℕ → List ℕ → Type 0
UntBy true y s p u ms z c i rows = (o : Open) × (t : Leaf) × ((z ≡ idle u (ms ▷ message o t)) × PartsLie y.service s p o t c rows)
UntBy false y s p u ms z c i rows = (o : Open) × ((z ≡ busy u ms o) × (length s ≤ i))

pub record AtUnt (y : Syntax) (s : List ℕ) (from p : ℕ) (u : Leaf) (ms : Snoc Message) (c : Section) (h l b rows : List ℕ) : Type 0 where
  pub walks : Walking y s from c.state h l b c.next
  pub long : length rows ≡ 18
  pub by : UntBy c.closed y s p u ms walks.tree c.layout c.next rows

abbrev pub UntIs : (y : Syntax) → List ℕ → ℕ → ℕ → Leaf → Snoc Message → Result (Option Section) Breach → List ℕ → List ℕ → List ℕ → List ℕ → Type 0
UntIs y s from p u ms (Ok (Some c)) h l b rows = AtUnt y s from p u ms c h l b rows
UntIs y s from p u ms (Ok None) h l b rows = ⊥
UntIs y s from p u ms (Err f) h l b rows = answer_from y s from ≡ refused f.number f.place

-- ---- a section

-- between messages, or before UNB, with octets left
pub record Starting (y : Syntax) (s : List ℕ) (x : State) (h l b : List ℕ) (i : ℕ) (rows m : List ℕ) : Type 0 where
  pub fits : T (fit y.service)
  pub left : i < length s
  pub before : is_done x.phase ≡ false
  pub between : is_busy x.phase ≡ false
  pub from : ℕ
  pub walks : Walking y s from x h l b i
  pub room : length rows ≡ 18
  pub marks : length m ≡ 40

-- no message more: UNB, UNZ, or a message that the octets do not close
pub data Stays : Reading → Reading → Type 0 where
  begins : (u : Leaf) → Stays start (idle u nil)
  ends : (u : Leaf) (ms : Snoc Message) (z : Leaf) → Stays (idle u ms) (done u ms z)
  breaks : (u : Leaf) (ms : Snoc Message) (o : Open) → Stays (idle u ms) (busy u ms o)

-- a message more, with its layout; or none
abbrev pub SectionBy : Bool → (y : Syntax) → List ℕ → ℕ → Reading → Reading → Layout → List ℕ → Type 0
SectionBy true y s p x z c rows =
    (u : Leaf) × (ms : Snoc Message) × (o : Open) × (t : Leaf) × ((x ≡ idle u ms) × (z ≡ idle u (ms ▷ message o t)) × PartsLie y.service s p o t c rows)
SectionBy false y s p x z c rows = Stays x z

pub record Passing {y : Syntax} {s : List ℕ} {from : ℕ} {x : State} {h l b : List ℕ} {i : ℕ} (w : Walking y s from x h l b i) (c : Section) (h' l' b' rows : List ℕ) : Type 0 where
  pub walks : Walking y s from c.state h' l' b' c.next
  pub far : i < c.next
  pub long : length rows ≡ 18
  pub by : SectionBy c.closed y s i w.tree walks.tree c.layout rows
  -- a message stays open only where the octets are over
  pub between : is_busy c.state.phase ≡ true → length s ≤ c.next

abbrev pub SectionIs : {y : Syntax} {s : List ℕ} {from : ℕ} {x : State} {h l b : List ℕ} {i : ℕ} → Walking y s from x h l b i → Result (Option Section) Breach → List ℕ → List ℕ → List ℕ → List ℕ → Type 0
SectionIs w (Ok (Some c)) h' l' b' rows = Passing w c h' l' b' rows
SectionIs w (Ok None) h' l' b' rows = ⊥
SectionIs {y = y} {s = s} {from = from} w (Err f) h' l' b' rows = answer_from y s from ≡ refused f.number f.place

-- of every walk so far
pub record SectionEnds (y : Syntax) (s : List ℕ) (x : State) (h l b : List ℕ) (i : ℕ) (r : Result (Option Section) Breach) (h' l' b' rows m : List ℕ) : Type 0 where
  pub reached : (from : ℕ) (w : Walking y s from x h l b i) → SectionIs w r h' l' b' rows
  pub marks : length m ≡ 40

-- ---- a section, or the end

-- between messages, before UNB or behind UNZ; a message is open only where the octets are over
pub record Between (y : Syntax) (s : List ℕ) (x : State) (h l b : List ℕ) (i : ℕ) (rows m : List ℕ) : Type 0 where
  pub fits : T (fit y.service)
  pub between : is_busy x.phase ≡ true → length s ≤ i
  pub from : ℕ
  pub walks : Walking y s from x h l b i
  pub room : length rows ≡ 18
  pub marks : length m ≡ 40

abbrev pub ReachedIs : {y : Syntax} {s : List ℕ} {from : ℕ} {x : State} {h l b : List ℕ} {i : ℕ} → Walking y s from x h l b i → Result (Option Section) Breach → List ℕ → List ℕ → List ℕ → List ℕ → Type 0
ReachedIs {s = s} {i = i} w (Ok (Some c)) h' l' b' rows = (i < length s) × Passing w c h' l' b' rows
ReachedIs w (Ok None) h' l' b' rows = ReadAll w
ReachedIs {y = y} {s = s} {from = from} w (Err f) h' l' b' rows = answer_from y s from ≡ refused f.number f.place
