-- The verdict, as document 01 prints it: for every list of octets the reading, or the first refusal in the paper's order.
use Rattle.syntax.specs.declared.Breach.{Breach}
use Rattle.std.specs.Prelude.{ℕ, ◌+◌, Bool, true, false, cond, not, ◌&&◌, List, [], ◌∷◌, length, get_or, drop, Option, Result, Some, None, Ok, Err}
use Rattle.std.proofs.Math.Option.{Option as Maybe, none, some}
use Rattle.syntax.specs.Content.{compared}
use Rattle.syntax.specs.Octets.{same}
use Rattle.syntax.specs.Cutting.{first_outside}
use Rattle.syntax.specs.Opening.{starts_una, una_service, is_there, begun_of}
use Rattle.syntax.specs.Refusals.{refusal_at, at_zero}
use Rattle.syntax.specs.Tree.{Segment, print_s}
use Rattle.syntax.specs.Reader.{Chain, over, left, open', chain, cut}
use Rattle.syntax.specs.declared.Refusal.{Refusal}
use Rattle.syntax.specs.declared.Syntax.{Syntax}
use Rattle.syntax.specs.declared.opening.Start.{Start}
use Rattle.grammar.specs.Lists.{Snoc, nil, ◌▷◌, size, Rule, check}
use Rattle.grammar.specs.Grams.{Grams, no_grams, sum}
use Rattle.grammar.specs.Interchange.{Body, plain, ack, Open, msg, Message, message, Reading, start, idle, busy, done}
use Rattle.grammar.specs.Rules.{inside_s, order, formed_s, subsets, refs, counts, scopes, amount_s, ref_m}
use Rattle.grammar.specs.Loads.{loads}
use Rattle.grammar.specs.Valid.{Una, una, Interchange, interchange}
use Rattle.grammar.specs.Placing.{place}

-- ---- the tests of a segment

-- a test: the number that tells its breach, the place, and whether it is passed
pub data Test : Type 0 where
  tested : ℕ → ℕ → Bool → Test

-- a rule of what was read so far with the segment in it; a segment that has no place breaks it
abbrev pub on : (Reading → Rule) → Maybe Reading → Bool
on rule none = false
on rule (some x) = check (rule x)

-- the place of 3 is "the octet": the first one outside
abbrev pub found_at : ℕ → Option ℕ → ℕ
found_at p (Some q) = q
found_at p None = p

-- "Others: 4, 3, 7, 8, 9, 10, 11, 12." 4 is told where the segment is cut. At UNB, whose 4, 5, 6 come first, only 3 and 8 can fail.
-- `x` is what was read so far with the segment g, which stands at p, in its place
abbrev pub tests : Syntax → Segment → ℕ → Maybe Reading → List Test
tests y g p x =
    tested 3 (found_at p (first_outside y (print_s y.service g) p)) (check (inside_s y g))
    ∷ tested 7 p (on order x)
    ∷ tested 8 p (check (formed_s y g) && on subsets x)
    ∷ tested 9 p (on refs x)
    ∷ tested 10 p (on (counts y.version) x)
    ∷ tested 11 p (on scopes x)
    ∷ tested 12 p (check (amount_s g))
    ∷ []

-- ---- segments in order; the first bad one decides

pub data Answer : Type 0 where
  read : Reading → Answer
  refused : ℕ → ℕ → Answer

-- the first test that is not passed decides
abbrev pub decided : List Test → Maybe Reading → Answer
decided [] none = refused 7 0
decided [] (some x) = read x
decided (tested n p b ∷ ts) x = cond b (decided ts x) (refused n p)

abbrev pub then : Answer → (Reading → Answer) → Answer
then (read x) k = k x
then (refused n p) k = refused n p

-- "input ends early": 7 at the end. "Where no octet is left, 4 isn't given: it is 5 before UNB, 7 later."
abbrev pub at_end : Reading → ℕ → Answer
at_end start p = refused 7 p
at_end (idle u ms) p = refused 7 p
at_end (busy u ms o) p = refused 7 p
at_end (done u ms z) p = read (done u ms z)

-- "Octets after UNZ give 7 at the first of them, unread."
abbrev pub unless-done : Reading → ℕ → Answer → Answer
unless-done start p a = a
unless-done (idle u ms) p a = a
unless-done (busy u ms o) p a = a
unless-done (done u ms z) p a = refused 7 p

-- 4: "no terminator, or bad tag"
abbrev pub tagged-or : ℕ → Maybe Segment → (Segment → Answer) → Answer
tagged-or p none k = refused 4 p
tagged-or p (some g) k = k g

-- p is the place of what comes next
abbrev pub walk : Syntax → Reading → Chain → ℕ → Answer
walk y x over p = at_end x p
walk y x left p = unless-done x p (refused 4 p)
walk y x (open' c cs rs es n) p =
    unless-done x p
    (tagged-or p (cut c cs rs es)
    (λ (g : Segment). then (decided (tests y g p (place x g)) (place x g)) (λ (z : Reading). walk y z n (p + length (print_s y.service g)))))

-- ---- "1 and 2 come first. Then segments in order; the first bad one decides."

pub data Verdict : Type 0 where
  accepted : Interchange → Verdict
  refused_with : Refusal → Verdict

abbrev pub una_at : List ℕ → Maybe Una
una_at s = cond (starts_una s) (some (una (una_service s) (get_or s 5 0))) none

-- of the octets s, once their walk has ended. A walk that reads ends in `done` (`WalkLaws.walk-runs`: what it read is `Finished`; else `at_end` has
-- refused it, with its place), so that the cases `start`, `idle` and `busy` never come about
abbrev pub concluded : List ℕ → Maybe Una → Answer → Verdict
concluded s n (read start) = refused_with (refusal_at s 7 0)
concluded s n (read (idle u ms)) = refused_with (refusal_at s 7 0)
concluded s n (read (busy u ms o)) = refused_with (refusal_at s 7 0)
concluded s n (read (done u ms z)) = accepted (interchange n u ms z)
concluded s n (refused k p) = refused_with (refusal_at s k p)

abbrev pub verdict_by : List ℕ → Result Start Breach → Verdict
verdict_by s (Err f) = refused_with (refusal_at s f.number f.place)
verdict_by s (Ok x) = concluded s (una_at s) (walk x.syntax start (chain x.syntax.service false (drop x.at s)) x.at)

abbrev pub verdict_of : List ℕ → Verdict
verdict_of s = verdict_by s (begun_of s)

-- ---- the loads and grams of the message with a given 0062

-- of a body, B, and of a message, M: "In messages other than AUTACK"; "an AUTACK prints loads 0 grams 0"
abbrev pub loads_b : Body → Snoc Grams
loads_b (plain b) = loads b
loads_b (ack c ls) = nil

abbrev pub loads_m : Message → Snoc Grams
loads_m (message (msg h hs b ts) t) = loads_b b

pub data Totals : Type 0 where
  totalled : ℕ → Grams → Totals
  refused_totals : Refusal → Totals

-- 13: "no such message", at 0
abbrev pub totals_in : Snoc Message → List ℕ → Totals
totals_in nil r = refused_totals (at_zero 13)
totals_in (ms ▷ m) r = cond (same (ref_m m) r) (totalled (size (loads_m m)) (sum (loads_m m))) (totals_in ms r)

abbrev pub totals_by : Verdict → List ℕ → Totals
totals_by (refused_with f) r = refused_totals f
totals_by (accepted (interchange n u ms z)) r = totals_in ms r

abbrev pub totals_of : List ℕ → List ℕ → Totals
totals_of s r = totals_by (verdict_of s) (compared r)

-- ---- for each case the paper's number and place, and the ordinal of the segment at the place; 0 where there is none

abbrev pub numbers : Verdict → List ℕ
numbers (accepted t) = 0 ∷ 0 ∷ 0 ∷ []
numbers (refused_with f) = f.number ∷ f.place ∷ f.segment ∷ []

abbrev pub total_numbers : Totals → List ℕ
total_numbers (totalled n g) = 0 ∷ 0 ∷ 0 ∷ n ∷ []
total_numbers (refused_totals f) = f.number ∷ f.place ∷ f.segment ∷ 0 ∷ []

-- and the grams
abbrev pub total_grams : Totals → Grams
total_grams (totalled n g) = g
total_grams (refused_totals f) = no_grams
