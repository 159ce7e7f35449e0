-- The walk over segments so far, as the code keeps it.
use Rattle.syntax.specs.declared.Breach.{Breach}
use Rattle.std.specs.Prelude.{ℕ, ◌+◌, ◌*◌, ◌≤◌, ◌<◌, List, ◌≡◌, Bool, true, false, T, length, drop, Result, Ok, Err, None}
use Rattle.syntax.specs.Service.{fit}
use Rattle.syntax.specs.Reader.{chain}
use Rattle.syntax.specs.declared.Syntax.{Syntax}
use Rattle.grammar.specs.Interchange.{Reading, start, shown}
use Rattle.grammar.specs.Placing.{place}
use Rattle.grammar.specs.Places.{wide}
use Rattle.grammar.specs.Running.{Good, Passed}
use Rattle.grammar.specs.Verdict.{Answer, read, refused, walk}
use Rattle.references.specs.Refs.{Indexed}
use Rattle.message.specs.Summary.{state_of, fresh}
use Rattle.turns.specs.Held.{state_in, Held}
use Rattle.turns.specs.declared.state.Phase.{Phase}
use Rattle.turns.specs.declared.state.Phase.TheVariants.{Start, Idle, Busy, Done}
use Rattle.turns.specs.declared.state.State.{State}
use Rattle.std.proofs.Math.Seq.{slice}
use Rattle.syntax.specs.Tree.{Segment, segment, print_s}
use Rattle.grammar.specs.Segments.{asked}
use Rattle.elements.specs.Kinds.{tag_kind}
use Rattle.elements.specs.Octets.{asked_at}
use Rattle.turns.specs.declared.state.Ahead.{Ahead}

abbrev pub unread_as : State
unread_as = record { phase = Start; count = 0; slot = 0; unb = record { start = 0; end = 0 }; unh = record { start = 0; end = 0 }; message = fresh None }

abbrev pub is_done : Phase → Bool
is_done Start = false
is_done Idle = false
is_done Busy = false
is_done Done = true

-- a message is open
abbrev pub is_busy : Phase → Bool
is_busy Start = false
is_busy Idle = false
is_busy Busy = true
is_busy Done = false

-- what the walk starts with
pub record Fresh (y : Syntax) (s l b : List ℕ) : Type 0 where
  pub fits : T (fit y.service)
  pub short : length s ≤ 65535
  pub room : length s ≤ 4 * length l
  pub indexed : Indexed l b 0

-- what the walk makes of the octets from p on
abbrev pub answer_from : Syntax → List ℕ → ℕ → Answer
answer_from y s p = walk y start (chain y.service false (drop p s)) p

-- a good tree was read from `from` up to i, the state x is what is kept of it, and the walk from there gives the answer
pub record Walking (y : Syntax) (s : List ℕ) (from : ℕ) (x : State) (h l b : List ℕ) (i : ℕ) : Type 0 where
  pub tree : Reading
  pub good : Good y tree
  pub same : state_of tree ≡ state_in y.service.release s x h l
  pub held : Held y.service.release s x h l b i
  pub names : length s ≤ 4 * length l
  pub short : length s ≤ 65535
  pub first : x.phase ≡ Start → x.count ≡ 0
  pub goes : walk y tree (chain y.service false (drop i s)) i ≡ answer_from y s from
  pub placed : i ≡ from + wide y.service (shown tree)

-- what a turn of the walk asks: a place with octets left, before UNZ
pub record Going (y : Syntax) (s : List ℕ) (x : State) (h l b : List ℕ) (i : ℕ) (m : List ℕ) : Type 0 where
  pub fits : T (fit y.service)
  pub inside : i < length s
  pub before : is_done x.phase ≡ false
  pub begun : ℕ
  pub walks : Walking y s begun x h l b i
  pub marks : length m ≡ 40

-- a turn that goes on: the walk with one segment more, g, which stands from i to the next place
pub record Onward {y : Syntax} {s : List ℕ} {from : ℕ} {x : State} {h l b : List ℕ} {i : ℕ} (w : Walking y s from x h l b i) (a : Ahead) (h' l' b' : List ℕ) : Type 0 where
  pub walks : Walking y s from a.state h' l' b' a.next
  pub g : Segment
  pub passed : Passed y w.tree g walks.tree
  pub view : asked_at y.service s i ≡ asked g
  pub octets : print_s y.service g ≡ slice i a.next s
  pub size : i + length (print_s y.service g) ≡ a.next
  pub inside : a.next ≤ length s
  pub kind : a.kind ≡ tag_kind (asked g).tag

abbrev pub AdvancedIs : {y : Syntax} {s : List ℕ} {from : ℕ} {x : State} {h l b : List ℕ} {i : ℕ} → Walking y s from x h l b i → Result Ahead Breach → List ℕ → List ℕ → List ℕ → Type 0
AdvancedIs w (Ok a) h' l' b' = Onward w a h' l' b'
AdvancedIs {y = y} {s = s} {from = from} w (Err f) h' l' b' = answer_from y s from ≡ refused f.number f.place
