-- The walk as the code has it: what a look at a segment tells, the state that is kept, and a step.
use Rattle.syntax.specs.declared.Breach.{Breach}
use Rattle.std.specs.Prelude.{ℕ, ◌+◌, ◌*◌, ◌≤◌, ◌≡◌, Bool, true, ◌&&◌, List, [], ◌∷◌, length, drop, Option, Result, Some, None, Ok, Err}
use Rattle.std.proofs.Math.Seq.{slice}
use Rattle.syntax.specs.Octets.{same}
use Rattle.syntax.specs.Content.{content, compared}
use Rattle.syntax.specs.Cutting.{tag_of}
use Rattle.syntax.specs.Scanning.{cut_at}
use Rattle.syntax.specs.declared.Service.{Service}
use Rattle.syntax.specs.declared.Syntax.{Syntax}
use Rattle.syntax.specs.declared.cutting.Cut.{Cut}
use Rattle.syntax.specs.declared.cutting.Cut.TheVariants.{Ends, Spoilt, Open}
use Rattle.syntax.specs.declared.Version.{Version}
use Rattle.grammar.specs.Segments.{Asked}
use Rattle.grammar.specs.Lists.{Snoc}
use Rattle.grammar.specs.Elements.{formed}
use Rattle.grammar.specs.Loads.{load_right}
use Rattle.grammar.specs.Verdict.{tested}
use Rattle.elements.specs.Kinds.{tag_kind}
use Rattle.message.specs.Summary.{Summary, StateS, start_s, idle_s, busy_s, done_s, order_s, subset_s, refs_s, counts_s, scope_s, next_s, AnswerS, read_s, refused_s, decided_s}
use Rattle.message.specs.Steps.{summary_in, Roomy}
use Rattle.references.specs.Refs.{ref_at, refs_in, Indexed, Offered}
use Rattle.elements.specs.Octets.{text_at}
use Rattle.elements.specs.Fields.{Fields, start_in, end_in}
use Rattle.elements.specs.Formed.{looked}
use Rattle.elements.specs.declared.fields.Shape.{Shape}
use Rattle.message.specs.declared.Message.{Message}
use Rattle.turns.specs.declared.state.Phase.{Phase}
use Rattle.turns.specs.declared.state.Phase.TheVariants.{Start, Idle, Busy, Done}
use Rattle.turns.specs.declared.state.Stretch.{Stretch}
use Rattle.turns.specs.declared.state.State.{State}
use Rattle.elements.specs.declared.Kind.{Kind}
use Rattle.turns.specs.declared.state.Sight.{Sight}

abbrev pub unseen_as : ℕ → ℕ → Result (ℕ × Kind) Breach
unseen_as n p = Err (record { number = n; place = p })

-- "Others: 4, 3, ..": the cut, once the tag is good and gives this kind
abbrev pub seen_in : Cut → Kind → ℕ → Result (ℕ × Kind) Breach
seen_in (Ends e) k p = Ok (e, k)
seen_in (Spoilt e q) k p = unseen_as 3 q
seen_in Open k p = unseen_as 4 p

abbrev pub seen_as : Cut → ℕ → ℕ → ℕ → ℕ → Result (ℕ × Kind) Breach
seen_as x a b c p = seen_in x (tag_kind (a ∷ b ∷ c ∷ [])) p

abbrev pub seen_by : Cut → Option (ℕ × ℕ × ℕ) → ℕ → Result (ℕ × Kind) Breach
seen_by x None p = unseen_as 4 p
seen_by x (Some (a, b, c)) p = seen_as x a b c p

abbrev pub looked_at : Syntax → List ℕ → ℕ → Result (ℕ × Kind) Breach
looked_at y s p = seen_by (cut_at y s p) (tag_of y.service (drop p s)) p

-- a look at a segment of kind k, with its fields in the marks if it was seen
pub record Entered (y : Syntax) (s : List ℕ) (p : ℕ) (k : Kind) (r : Sight) (m : List ℕ) : Type 0 where
  pub look : r.looked ≡ seen_in (cut_at y s p) k p
  pub noted : (e : ℕ) (k' : Kind) → r.looked ≡ Ok (e, k') → Fields y.service s p r.shape.size r.shape.repeats m
  pub marks : length m ≡ 40

-- a look at a segment, with its fields in the marks if it was seen and is looked into
pub record Sighted (y : Syntax) (s : List ℕ) (p : ℕ) (r : Sight) (m : List ℕ) : Type 0 where
  pub look : r.looked ≡ looked_at y s p
  pub noted : (e : ℕ) (k : Kind) → r.looked ≡ Ok (e, k) → looked k ≡ true → Fields y.service s p r.shape.size r.shape.repeats m
  pub marks : length m ≡ 40

-- ---- the state that is kept

abbrev pub phased : Phase → List ℕ → Snoc (List ℕ) → Summary → StateS
phased Start u rs S = start_s
phased Idle u rs S = idle_s u rs
phased Busy u rs S = busy_s u rs S
phased Done u rs S = done_s

-- under the release ρ, in the octets s, with the headers' array h and the references l
abbrev pub state_in : ℕ → List ℕ → State → List ℕ → List ℕ → StateS
state_in ρ s x h l =
    phased x.phase (compared (content ρ (slice x.unb.start x.unb.end s))) (refs_in l x.count)
    (summary_in ρ s x.message x.unh.start x.unh.end h)

-- where the element at position p stands, by the marks
abbrev pub stretch_in : List ℕ → ℕ → Stretch
stretch_in m p = record { start = start_in m p 0; end = end_in m p 0 }

-- "References are compared by content": the second element of UNT or UNZ at p, and the 0062 or 0020 that was kept
abbrev pub repeated_ref : Service → List ℕ → ℕ → Stretch → Bool
repeated_ref σ s p w = same (compared (text_at σ s p 2 0)) (compared (content σ.release (slice w.start w.end s)))

-- after UNB, whose 0020 stands at u: between messages, none so far
abbrev pub after_unb : State → Stretch → State
after_unb x u = record { phase = Idle; count = 0; slot = x.slot; unb = u; unh = x.unh; message = x.message }

-- after UNH, whose 0062 stands at w and is offered slot i: in the message m that it begins
abbrev pub after_unh : State → ℕ → Stretch → Message → State
after_unh x i w m = record { phase = Busy; count = x.count; slot = i; unb = x.unb; unh = w; message = m }

-- after any other segment: the references stay
abbrev pub after_other : State → Phase → ℕ → Message → State
after_other x p n m = record { phase = p; count = n; slot = x.slot; unb = x.unb; unh = x.unh; message = m }

-- the segments of the message now open
abbrev pub open_size : Phase → Message → ℕ
open_size Start m = 0
open_size Idle m = 0
open_size Busy m = m.segments
open_size Done m = 0

-- what keeps everything in its room: a segment has at least 4 octets, a message at least two segments; i octets were read. They need not all stand in s:
-- s has those that the places of x and h mean.
-- Where there is room for it, the open message's reference stands behind the others, and is offered a slot
pub record Held (ρ : ℕ) (s : List ℕ) (x : State) (h l b : List ℕ) (i : ℕ) : Type 0 where
  pub indexed : Indexed l b x.count
  pub roomy : Roomy x.message h
  pub begun : 1 ≤ x.message.segments
  pub long : length h ≡ 36
  pub taken : 8 * x.count + 4 * open_size x.phase x.message ≤ i
  pub offered : x.phase ≡ Busy → 2 * x.count + 2 ≤ length l
      → (ref_at l x.count ≡ compared (content ρ (slice x.unh.start x.unh.end s))) × Offered l b x.count x.slot

-- ---- a step, of a segment that is whole and inside the repertoire: 7 to 12, then the state after it

abbrev pub decided_from : Version → StateS → Asked → ℕ → AnswerS
decided_from v S a p =
    decided_s
    (tested 7 p (order_s S a) ∷ tested 8 p (formed v a && subset_s S a) ∷ tested 9 p (refs_s S a) ∷ tested 10 p (counts_s v S a) ∷ tested 11 p (scope_s S a)
    ∷ tested 12 p (load_right a) ∷ [])
    (next_s S a)

-- the code's step has this answer; h, l and b are the arrays as they are left, i the place of what comes next
abbrev pub StepIs : AnswerS → Result State Breach → ℕ → List ℕ → List ℕ → List ℕ → List ℕ → ℕ → Type 0
StepIs (read_s S) (Ok x) ρ s h l b i = (state_in ρ s x h l ≡ S) × Held ρ s x h l b i
StepIs (read_s S) (Err f) ρ s h l b i = ⊥
StepIs (refused_s n p) (Ok x) ρ s h l b i = ⊥
StepIs (refused_s n p) (Err f) ρ s h l b i = (f.number ≡ n) × (f.place ≡ p)

-- a segment at p, whole and inside, with what was noted of it: its kind k, and if it is looked into, its fields. Behind it q octets are read, and there is
-- room for the open message's reference
pub record Ready (y : Syntax) (s : List ℕ) (x : State) (h l b : List ℕ) (p q : ℕ) (k : Kind) (f : Shape) (m : List ℕ) : Type 0 where
  pub before : ℕ
  pub held : Held y.service.release s x h l b before
  pub ends : before + 4 ≤ q
  pub short : q ≤ 65535
  pub room : x.phase ≡ Busy → 2 * x.count + 2 ≤ length l
  pub kind : k ≡ tag_kind (slice p (p + 3) s)
  pub noted : looked k ≡ true → Fields y.service s p f.size f.repeats m
  pub marks : length m ≡ 40
