-- Laws of the calls: the loads of a file and of a message are those that the walk adds, and what is left is told.
use Rattle.std.specs.Prelude.{ℕ, ◌+◌, ◌≤◌, refl, Bool, not, List, [], ◌∷◌, ◌++◌, T, leb, length, Float, Result, Ok, Err, ⊤}
use Rattle.std.proofs.Common.{arith, sym, ◌∙◌, subst, leb→le, length-append}
use Rattle.std.proofs.Math.Path.{◌≡◌, ap}
use Rattle.std.proofs.Math.Option.{Option, none, some}
use Rattle.std.specs.Float.{binary32}
use Rattle.std.specs.Float.Ieee.{is_nan, fits, of_bits, to_bits}
use Rattle.std.specs.Float.Ieee.Bits.{of_bits-fits}
use Rattle.std.specs.Float.Ieee.Fits.{and_r}
use Rattle.syntax.specs.Content.{compared}
use Rattle.syntax.specs.Opening.{begun_of}
use Rattle.syntax.specs.Refusals.{refusal_at, at_zero}
use Rattle.syntax.specs.Service.{fit}
use Rattle.syntax.specs.Tree.{Segment, print}
use Rattle.syntax.specs.declared.Service.{Service}
use Rattle.syntax.specs.declared.Breach.{Breach}
use Rattle.syntax.specs.declared.Refusal.{Refusal}
use Rattle.syntax.specs.declared.Syntax.{Syntax}
use Rattle.syntax.specs.declared.opening.Start.{Start}
use Rattle.grammar.specs.Lists.{Snoc, nil, ◌▷◌, ◌+++◌, joined, list, Rule, holds, every}
use Rattle.grammar.proofs.ListsLaws.{every-left, every-right}
use Rattle.grammar.specs.Grams.{Grams}
use Rattle.grammar.specs.Segments.{Unb, Unh, Unt, seg}
use Rattle.grammar.specs.Interchange.{Leaf, Body, Open, msg, Message, message, done, shown, show_header, show_trailer, show_body, show_open, show_message}
use Rattle.grammar.specs.Rules.{amount_s}
use Rattle.grammar.specs.Loads.{loads}
use Rattle.grammar.specs.Valid.{Una, una, Interchange, interchange, Valid, opening_in, una_of, print_una, print_interchange, in_force, syntax_in, segments, reading}
use Rattle.grammar.specs.Verdict.{Verdict, accepted, refused_with, verdict_of, verdict_by, loads_b, loads_m}
use Rattle.grammar.proofs.VerdictLaws.{verdict-exact}
use Rattle.grammar.specs.Named.{Placed, placed}
use Rattle.groups.specs.Parts.{body_in}
use Rattle.groups.specs.PartsLaws.{body-row, call-refused, call-missing, call-holds}
use Rattle.groups.specs.Stand.{Row, Stand}
use Rattle.groups.specs.StandLaws.{stand-row}
use Rattle.groups.specs.Calls.{Answered, given, refused_as, or_missing, answered_by, then, message_in, service_in, Holds}
use Rattle.groups.specs.CallsLaws.{begins, placed-every}
use Rattle.grammar.proofs.PlacesLaws.{wide-list}
use Rattle.grammar.specs.Places.{wide}
use Rattle.walk.specs.declared.sections.Layout.{Layout}
use Rattle.judge.specs.Told.{verdict_as}
use Rattle.kilograms.specs.OldSum.{Old, tally, refused, limit, added_all, single, handed_in, handed_bits}
use Rattle.kilograms.specs.SingleLaws.{Whole}
use Rattle.kilograms.specs.Running.{running_as, Held, Runs}
use Rattle.kilograms.specs.RunningLaws.{whole-real, runs-whole, held-handed, handed-none}
use Rattle.kilograms.specs.declared.Tally.{Tally}
use Rattle.returns.specs.Returns.{file_loads, message_loads, file_loads_of, message_loads_of, weighed, Summed, left, refused_sum, summed_as, summed_by, old_sum_as, told_sum, single_in, single_of, sum_numbers}
use Rattle.returns.specs.Reading.{added_from, Starts}
use Rattle.returns.proofs.LoadsLaws.{body-loads, file-loads, from-loads}
use Rattle.returns.specs.ReadingLaws.{held-from}
use Rattle.returns.specs.declared.sums.Left.{Left}

-- ---- what is left

pub sum-real : (t : Tally) → Runs (Ok t) → T (not (is_nan t.sum))
sum-real t r = let k = runs-whole t r in whole-real t.sum k.value k.whole

-- the fields of what the code keeps
sum_of : Result Tally ℕ → Float
sum_of (Ok t) = t.sum
sum_of (Err n) = single 0

loads_in : Result Tally ℕ → ℕ
loads_in (Ok t) = t.loads
loads_in (Err n) = n

kilograms_in : Result Tally ℕ → ℕ
kilograms_in (Ok t) = t.kilograms
kilograms_in (Err n) = 0

is_refused : Result Tally ℕ → ℕ
is_refused (Ok t) = 0
is_refused (Err n) = 1

pub left_so : (t : Tally) {w b : ℕ} → ((v : ℕ) → Whole t.sum v → v ≤ limit → w ≡ v) → b ≡ to_bits binary32 t.sum
    → (o : Old) → Held o → Ok t ≡ running_as o
    → Ok (record { sum = w; single = t.sum; bits = b; loads = t.loads; kilograms = t.kilograms }) ≡ old_sum_as (summed_as o)
unfolding sum_of loads_in kilograms_in is_refused
left_so t f d (refused n) h e = let z : ◌≡◌ {A = ℕ} 0 1 = ap is_refused e in absurd (omega (arith, z))
left_so t {w} {b} f d (tally v n m) h e =
    let a : t.sum ≡ single v = ap sum_of e in
    let q : w ≡ v = f v (subst (λ (x : Float). Whole x v) (sym a) h.1.0) h.0 in
    let r : b ≡ to_bits binary32 (single v) = d ∙ ap (to_bits binary32) a in
    ap (λ (x : ℕ). Ok (record { sum = x; single = t.sum; bits = b; loads = t.loads; kilograms = t.kilograms })) q
    ∙ ap (λ (x : Float). Ok (record { sum = v; single = x; bits = b; loads = t.loads; kilograms = t.kilograms })) a
    ∙ ap (λ (x : ℕ). Ok (record { sum = v; single = single v; bits = x; loads = t.loads; kilograms = t.kilograms })) r
    ∙ ap (λ (x : ℕ). Ok (record { sum = v; single = single v; bits = to_bits binary32 (single v); loads = x; kilograms = t.kilograms })) (ap loads_in e)
    ∙ ap (λ (x : ℕ). Ok (record { sum = v; single = single v; bits = to_bits binary32 (single v); loads = n; kilograms = x })) (ap kilograms_in e)

module _ {k : Result Tally ℕ} where
  pub concluded-left : {t : Tally} {r : Result Left Refusal} → k ≡ Ok t → ((o : Old) → Held o → Ok t ≡ running_as o → r ≡ old_sum_as (summed_as o))
      → (o : Old) → Held o → k ≡ running_as o → r ≡ old_sum_as (summed_as o)
  concluded-left e f o h q = f o h (sym e ∙ q)

  pub concluded-refused : {n : ℕ} → k ≡ Err n → (o : Old) → Held o → k ≡ running_as o → Err (at_zero n) ≡ old_sum_as (summed_as o)
  unfolding loads_in is_refused
  concluded-refused e (refused m) h q = ap (λ (x : ℕ). Err (at_zero x)) (ap loads_in (sym e ∙ q))
  concluded-refused e (tally v m f) h q = let z : ◌≡◌ {A = ℕ} 1 0 = ap is_refused (sym e ∙ q) in absurd (omega (arith, z))

-- ---- a file

-- its segments stand from UNB to the end of the octets
una-length : (n : Option Una) → length (print_una n) ≡ (opening_in n).at
una-length none = refl
una-length (some (una σ m)) = refl

file-row : (s : List ℕ) (i : Interchange) (x : Start) → begun_of s ≡ Ok x → verdict_of s ≡ accepted i
    → Row x.syntax.service s x.at (list (shown (reading i))) (length s)
file-row s i x e d =
    let b = begins s i x e d in
    let k = (verdict-exact s i).0 d in
    let w = stand-row x.syntax.service s x.at (shown (reading i)) b.stands in
    let l : length (print_una (una_of i)) + length (print (in_force (syntax_in i)) (segments i)) ≡ length s =
    sym (length-append (print_una (una_of i)) (print (in_force (syntax_in i)) (segments i))) ∙ ap length k.1 in
    let u : length (print (in_force (syntax_in i)) (segments i)) ≡ length (print x.syntax.service (segments i)) = ap (λ (σ : Service). length (print σ (segments i))) b.service in
    let v = una-length (una_of i) in
    let z : x.at + wide x.syntax.service (shown (reading i)) ≡ length s =
    omega (arith, l, u, v, b.at, wide-list x.syntax.service (shown (reading i))) in
    subst (λ (n : ℕ). Row x.syntax.service s x.at (list (shown (reading i))) n) z w

file-adds : (i : Interchange) → Valid i → (o : Old) → added_from o (list (shown (reading i))) ≡ added_all o (weighed (file_loads i))
file-adds (interchange n u ms z) v o =
    from-loads o (shown (done u ms z)) v.weighed ∙ ap (λ (l : Snoc Grams). added_all o (weighed l)) (file-loads u ms z)

module _ (s : List ℕ) {g : Result Start Breach} (e : g ≡ begun_of s) where
  pub file-unbegun : {f : Breach} {r : Result Left Refusal} → g ≡ Err f → (o : Old) (i : Interchange) → verdict_of s ≡ accepted i → r ≡ old_sum_as (summed_as (added_all o (weighed (file_loads i))))
  file-unbegun {f} d o i v =
      let q : refused_with (refusal_at s f.number f.place) ≡ accepted i = sym (ap (verdict_by s) (sym e ∙ d)) ∙ v in
      let z : ◌≡◌ {A = ℕ} 0 1 = cc in
      absurd (omega arith)

  pub file-so : {x : Start} {before k : Result Tally ℕ} {r : Result Left Refusal} → g ≡ Ok x
      → ((gs : List Segment) (o : Old) → Row x.syntax.service s x.at gs (length s) → Held o → before ≡ running_as o → k ≡ running_as (added_from o gs))
      → ((o : Old) → Held o → k ≡ running_as o → r ≡ old_sum_as (summed_as o))
      → (o : Old) (i : Interchange) → Held o → before ≡ running_as o → verdict_of s ≡ accepted i → r ≡ old_sum_as (summed_as (added_all o (weighed (file_loads i))))
  file-so {x} d f c o i h q v =
      let w = file-row s i x (sym e ∙ d) v in
      let n = ((verdict-exact s i).0 v).0 in
      c (added_from o (list (shown (reading i)))) (held-from o (list (shown (reading i))) h) (f (list (shown (reading i))) o w h q) ∙ ap (λ (p : Old). old_sum_as (summed_as p)) (file-adds i n o)

-- the verdict first
module _ (s : List ℕ) {v : Result ⊤ Refusal} (e : v ≡ verdict_as (verdict_of s)) {r : Result Left Refusal} where
  pub file-read : {before : Result Tally ℕ} → v ≡ Ok tt
      → ((o : Old) (i : Interchange) → Held o → before ≡ running_as o → verdict_of s ≡ accepted i → r ≡ old_sum_as (summed_as (added_all o (weighed (file_loads i)))))
      → (o : Old) → Held o → before ≡ running_as o → r ≡ old_sum_as (summed_by o (file_loads_of s))
  file-read d f o h q = by (verdict_of s) (sym d ∙ e) (λ i k. f o i h q k)
    where
      by : (w : Verdict) → Ok tt ≡ verdict_as w → ((i : Interchange) → w ≡ accepted i → r ≡ old_sum_as (summed_as (added_all o (weighed (file_loads i)))))
          → r ≡ old_sum_as (summed_by o (answered_by w (λ i. some (file_loads i))))
      by (accepted i) k g = g i refl
      by (refused_with f) k g = let z : ◌≡◌ {A = ℕ} 0 1 = cc in absurd (omega arith)

  pub file-refused : {f : Refusal} {before : Result Tally ℕ} → v ≡ Err f → r ≡ Err f → (o : Old) → Held o → before ≡ running_as o → r ≡ old_sum_as (summed_by o (file_loads_of s))
  file-refused {f} d g o h q = by (verdict_of s) (sym d ∙ e)
    where
      by : (w : Verdict) → Err f ≡ verdict_as w → r ≡ old_sum_as (summed_by o (answered_by w (λ i. some (file_loads i))))
      by (accepted i) k = let z : ◌≡◌ {A = ℕ} 0 1 = cc in absurd (omega arith)
      by (refused_with k) z = let x : f ≡ k = cc in g ∙ ap Err x

-- ---- a message

-- every amount of a message is written right
each-message : (ms : Snoc Message) → holds (every amount_s (joined show_message ms)) → holds (every (λ (m : Message). every amount_s (show_message m)) ms)
each-message nil h = tt
each-message (ms ▷ m) h = (each-message ms (every-left amount_s (joined show_message ms) (show_message m) h), every-right amount_s (joined show_message ms) (show_message m) h)

body-right : (o : Open) (t : Leaf) → holds (every amount_s (show_message (message o t))) → holds (every amount_s (show_body (body_in o)))
body-right (msg h hs b ts) t w =
    every-right amount_s (nil ▷ seg Unh h +++ joined show_header hs) (show_body b)
    (every-left amount_s (nil ▷ seg Unh h +++ joined show_header hs +++ show_body b) (joined show_trailer ts) w.0)

message-right : (i : Interchange) → Valid i → (m : List ℕ) (o : Open) (t : Leaf) (q : ℕ) → message_in i m ≡ some (placed (message o t) q) → holds (every amount_s (show_body (body_in o)))
message-right (interchange n u ms z) v m o t q e =
    body-right o t
    (placed-every (service_in (interchange n u ms z)) (opening_in n).at u (compared m) (λ (k : Message). every amount_s (show_message k)) ms e
    (each-message ms (every-right amount_s (nil ▷ seg Unb u) (joined show_message ms) v.weighed.0)))

body_of : (o : Open) (t : Leaf) → loads_b (body_in o) ≡ loads_m (message o t)
body_of (msg h hs b ts) t = refl

module _ (s m : List ℕ) where
  abbrev ask : Interchange → Placed → Option (Snoc Grams)
  ask i p = some (message_loads p)

  pub message-refused : {f : Refusal} {before : Result Tally ℕ} → verdict_of s ≡ refused_with f → (o : Old) → Held o → before ≡ running_as o → Err f ≡ old_sum_as (summed_by o (message_loads_of s m))
  message-refused e o h q = sym (ap (λ (a : Answered (Snoc Grams)). old_sum_as (summed_by o a)) (call-refused s m ask e))

  pub message-missing : {f : Refusal} {before : Result Tally ℕ} → (i : Interchange) × ((verdict_of s ≡ accepted i) × (message_in i m ≡ none)) → f ≡ at_zero 13
      → (o : Old) → Held o → before ≡ running_as o → Err f ≡ old_sum_as (summed_by o (message_loads_of s m))
  message-missing k e o h q = ap Err e ∙ sym (ap (λ (a : Answered (Snoc Grams)). old_sum_as (summed_by o a)) (call-missing s m ask k))

  pub message-so : {y : Syntax} {c : Layout} {rows : List ℕ} {before k : Result Tally ℕ} {r : Result Left Refusal} → Holds s m y c rows
      → ((gs : List Segment) (o : Old) → Row y.service s c.body gs c.tail → Held o → before ≡ running_as o → k ≡ running_as (added_from o gs))
      → ((o : Old) → Held o → k ≡ running_as o → r ≡ old_sum_as (summed_as o))
      → (o : Old) → Held o → before ≡ running_as o → r ≡ old_sum_as (summed_by o (message_loads_of s m))
  message-so {y} {c} w f g o h q =
      let b = body_in w.o in
      let v = ((verdict-exact s w.i).0 w.read).0 in
      let n : loads (show_body b) ≡ loads_m (message w.o w.t) = body-loads b ∙ body_of w.o w.t in
      g (added_from o (list (show_body b))) (held-from o (list (show_body b)) h) (f (list (show_body b)) o (body-row w []) h q)
      ∙ ap (λ (p : Old). old_sum_as (summed_as p))
      (from-loads o (show_body b) (message-right w.i v m w.o w.t w.q w.named) ∙ ap (λ (l : Snoc Grams). added_all o (weighed l)) n)
      ∙ sym (ap (λ (a : Answered (Snoc Grams)). old_sum_as (summed_by o a)) (call-holds s m ask w))

-- ---- the calls

pub starts-handed : (x : Float) {k : Result Tally ℕ} → T (fits binary32 x) → k ≡ running_as (handed_in x) → Starts k
starts-handed x f e = record { old = handed_in x; held = held-handed x f; is = e; none_yet = handed-none x }

pub starts-bits : (b : ℕ) {k : Result Tally ℕ} → k ≡ running_as (handed_bits b) → Starts k
starts-bits b e = starts-handed (of_bits binary32 b) (of_bits-fits binary32 b) e

pub held-bits : (b : ℕ) → Held (handed_bits b)
held-bits b = held-handed (of_bits binary32 b) (of_bits-fits binary32 b)

-- an interchange that is accepted has at most 65,535 octets
pub short-so : (s : List ℕ) (i : Interchange) → verdict_of s ≡ accepted i → length s ≤ 65535
short-so s i d =
    let k = (verdict-exact s i).0 d in
    subst (λ (l : List ℕ). length l ≤ 65535) k.1
    (leb→le (length (print_interchange i)) 65535 (and_r (leb 1 (length (print_interchange i))) (leb (length (print_interchange i)) 65535) k.0.octets_right))

-- the answer, and with it the numbers
told-so : (x : Summed) → told_sum (old_sum_as x) ≡ sum_numbers x
told-so (left v n e) = refl
told-so (refused_sum f) = refl

pub sum-promised : {r : Result Left Refusal} (x : Summed) → r ≡ old_sum_as x → (r ≡ old_sum_as x) × (told_sum r ≡ sum_numbers x)
sum-promised x e = (e, ap told_sum e ∙ told-so x)

pub single-told : {r : Result Left Refusal} (x : Summed) → r ≡ old_sum_as x → single_in r ≡ single_of x
single-told x e = ap single_in e ∙ by x
  where
    by : (x : Summed) → single_in (old_sum_as x) ≡ single_of x
    by (left v n e) = refl
    by (refused_sum f) = refl
