-- What a segment does in an open message, once it may come (7) and is well formed (8): the summary after it, or the number that tells its breach.
use Rattle.std.specs.Prelude.{ℕ, suc, ◌+◌, ◌*◌, ◌≤◌, ◌<◌, ◌≡◌, Bool, true, false, cond, not, List, [], get_or, Result, Ok, Err}
use Rattle.std.proofs.Math.Option.{Option, none, some}
use Rattle.std.proofs.Math.Seq.{slice}
use Rattle.syntax.specs.Content.{content, compared}
use Rattle.grammar.specs.Lists.{among}
use Rattle.grammar.specs.Segments.{Asked}
use Rattle.grammar.specs.Rules.{scope_code}
use Rattle.grammar.specs.Loads.{load_in, control_in, load_right}
use Rattle.message.specs.Summary.{ref_in, Summary, free_at, pairs_right, more_in_last, usa_group, usc_group, grown_by, own_more, ush_next, usr_next, ust_next, item_next, usb_next, loaded, controlled}
use Rattle.message.specs.Heads.{head_refs, head_sizes, head_flags, pos_or}
use Rattle.elements.specs.Octets.{text_at}
use Rattle.syntax.specs.declared.Service.{Service}
use Rattle.elements.specs.declared.Kind.{Kind}
use Rattle.elements.specs.declared.Kind.TheVariants.{Unb, Unh, Unt, Unz, Ush, Usa, Usc, Usr, Ust, Usb, Usx, Usy, Reserved, Qty, Cnt, Other}
use Rattle.message.specs.declared.Group.TheVariants.{Header, Ack, Trailer}
use Rattle.message.specs.declared.Message.{Message}

-- names end in `M` where they say what a segment does in a message: the summary after it, or a number
pub data AnswerM : Type 0 where
  to_m : Summary → AnswerM
  bad_m : ℕ → AnswerM

abbrev pub ush_m : Summary → Asked → AnswerM
ush_m S a = cond (not (among S.refs (ref_in a 2))) (cond (scope_code S.m.autack (a.text 3 0)) (to_m (ush_next S a)) (bad_m 11)) (bad_m 9)

abbrev pub ust_m : Summary → Asked → Option ℕ → AnswerM
ust_m S a none = bad_m 9
ust_m S a (some i) = to_m (ust_next S a (some i))

abbrev pub usy_m : Summary → Asked → AnswerM
usy_m S a = cond (among S.refs (ref_in a 1)) (to_m (grown_by S (Ack true true) S.sizes)) (bad_m 9)

abbrev pub qty_m : Summary → Asked → AnswerM
qty_m S a = cond (load_right a) (to_m (item_next S (loaded S.m.sums (load_in a)))) (bad_m 12)

-- by kind; UNT ends the message and is not here
abbrev pub step_m : Kind → Summary → Asked → AnswerM
step_m Unb S a = bad_m 7
step_m Unh S a = bad_m 7
step_m Unt S a = bad_m 7
step_m Unz S a = bad_m 7
step_m Ush S a = ush_m S a
step_m Usa S a = to_m (grown_by S (usa_group S.m.group) (more_in_last S.sizes))
step_m Usc S a = to_m (grown_by S (usc_group S.m.group) (more_in_last S.sizes))
step_m Usr S a = to_m (usr_next S S.m.group)
step_m Ust S a = ust_m S a (free_at (ref_in a 1) S.refs S.flags)
step_m Usb S a = to_m (usb_next S)
step_m Usx S a = to_m (grown_by S (Ack true false) S.sizes)
step_m Usy S a = usy_m S a
step_m Reserved S a = bad_m 7
step_m Qty S a = qty_m S a
step_m Cnt S a = to_m (item_next S (controlled S.m.sums (control_in a)))
step_m Other S a = to_m (item_next S S.m.sums)

-- ---- the same, as the code keeps it: the struct m, the message's 0062 from a to e of s under the release ρ, the headers' array h

abbrev pub summary_in : ℕ → List ℕ → Message → ℕ → ℕ → List ℕ → Summary
summary_in ρ s m a e h =
    record { m = m; ref = compared (content ρ (slice a e s)); refs = head_refs ρ s h m.headers; sizes = head_sizes h m.headers; flags = head_flags h m.headers }

-- one segment more: a header's USH, a trailer's UST, and the USR of the trailer group now open
abbrev pub headed : Message → Message
headed m = record { group = Header 0; autack = m.autack; segments = suc m.segments; headers = suc m.headers; sums = m.sums; pair = m.pair }

abbrev pub trailed : Message → ℕ → ℕ → Message
trailed m claim base = record {
  group = Trailer false;
  autack = m.autack;
  segments = suc m.segments;
  headers = m.headers;
  sums = m.sums;
  pair = record { right = pairs_right m.pair; claim = claim; base = base; own = 1 };
}

abbrev pub own_grown : Message → Message
own_grown m = record { group = Trailer true; autack = m.autack; segments = suc m.segments; headers = m.headers; sums = m.sums; pair = own_more m.pair }

-- what keeps every sum within its type: nothing is more than the segments so far, a load less than 10^12 grams
pub record Roomy (m : Message) (h : List ℕ) : Type 0 where
  pub headers : m.headers ≤ 9
  pub loads : m.sums.loads ≤ m.segments
  pub grams : m.sums.grams ≤ m.segments * 1000000000000
  pub back : m.sums.back ≤ m.segments * 1000000000000
  pub base : m.pair.base ≤ m.segments
  pub own : m.pair.own ≤ m.segments
  pub sizes : (i : ℕ) → i < m.headers → get_or h (4 * i + 2) 0 ≤ m.segments

-- "Each UST names a header not yet named": of the UST at a, the first header of its reference that no trailer has named, or as many as there are headers
pub record Sought (σ : Service) (s : List ℕ) (a : ℕ) (m : Message) (h : List ℕ) (i : ℕ) : Type 0 where
  pub found : i ≡ pos_or m.headers (free_at (compared (text_at σ s a 1 0)) (head_refs σ.release s h m.headers) (head_flags h m.headers))
  pub most : i ≤ m.headers

-- the answer of the code, with the headers' array as it is left
abbrev pub MovedIs : AnswerM → Result Message ℕ → ℕ → List ℕ → ℕ → ℕ → List ℕ → Type 0
MovedIs (to_m S) (Ok m) ρ s a e h = (summary_in ρ s m a e h ≡ S) × Roomy m h
MovedIs (to_m S) (Err k) ρ s a e h = ⊥
MovedIs (bad_m n) (Ok m) ρ s a e h = ⊥
MovedIs (bad_m n) (Err k) ρ s a e h = k ≡ n
