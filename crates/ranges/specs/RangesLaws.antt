-- What the code makes of the message and the groups that it finds is what the definitions of the ranges say.
use Rattle.std.specs.Prelude.{ℕ, ◌+◌, ◌≤◌, ◌≡◌, refl, List, [], ◌∷◌, Bool, true, false, cond, length, Option, Result, Some, None, Ok, Err}
use Rattle.std.proofs.Common.{arith, ap, ◌∙◌, sym, subst}
use Rattle.std.proofs.Math.Option.{Option as Maybe, none, some}
use Rattle.std.proofs.Math.Seq.{slice}
use Rattle.syntax.specs.Content.{compared}
use Rattle.syntax.specs.Octets.{octets, same}
use Rattle.syntax.specs.Tree.{Segment}
use Rattle.syntax.specs.declared.Service.{Service}
use Rattle.syntax.specs.declared.Syntax.{Syntax}
use Rattle.syntax.specs.Refusals.{at_zero}
use Rattle.syntax.specs.declared.Refusal.{Refusal}
use Rattle.grammar.specs.Lists.{Snoc, nil, ◌▷◌, ◌+++◌, joined}
use Rattle.grammar.specs.Segments.{Unh, seg}
use Rattle.grammar.specs.Interchange.{Header, header, Trailer, Open, msg, message, show_header, show_trailer, show_body, show_open}
use Rattle.grammar.specs.Rules.{ref_h, ref_t}
use Rattle.grammar.specs.Valid.{Interchange}
use Rattle.grammar.specs.Verdict.{accepted, refused_with, verdict_of}
use Rattle.grammar.specs.Places.{wide}
use Rattle.grammar.proofs.PlacesLaws.{wide-join}
use Rattle.grammar.specs.Named.{placed}
use Rattle.walk.specs.Layout.{heads_at, body_at, tail_at}
use Rattle.walk.specs.declared.sections.Layout.{Layout}
use Rattle.groups.specs.Stand.{Stand}
use Rattle.groups.specs.Groups.{Chosen, chosen, chosen_by, name_at, sought_in, range_of, headers_as}
use Rattle.groups.specs.GroupsLaws.{header-scope, groups-sought}
use Rattle.groups.specs.Parts.{scope_h, header_named, trailer_named, header_at, header_end, trailer_at}
use Rattle.groups.specs.PartsLaws.{call-refused, call-missing, call-holds, header-found, trailer-found, header-there}
use Rattle.groups.specs.Calls.{Answered, given, refused_as, or_missing, then, service_in, message_in, Holds}
use Rattle.groups.specs.declared.named.Groups.{Groups}
use Rattle.groups.specs.declared.named.Range.{Range}
use Rattle.ranges.specs.Ranges.{of_scope, header_in, Parts, parts, scope1_at, scope1_of, Run, run, scope2_at, scope2_of}
use Rattle.ranges.specs.declared.scopes.Parts.{Parts as Parted}
use Rattle.ranges.specs.Told.{parts_as, part_numbers, told_parts, run_as, run_numbers, told_run, PartsInside, RunInside, header_part, body_part, run_part, start_of, end_of, scoped_by, header_found, trailer_found, parts_by, run_by}
use Rattle.groups.specs.CallsLaws.{none-some}

-- ---- scope 1 and scope 2

module _ {s m : List ℕ} {y : Syntax} {c : Layout} {rows : List ℕ} (h : Holds s m y c rows) (r : List ℕ) where
  pub header-scoped : (code : List ℕ) → header_found y.service s c rows code r ≡ range_of show_header y.service (heads_at y.service h.q h.o) (header_in code h.o r)
  header-scoped code = ap (scoped_by y.service s code) (header-found h r) ∙ by (header_named h.o r) (λ hs x e. header-there h r e)
    where
      by : (k : Maybe (Chosen Header)) → ((hs : Snoc Header) (x : Header) → k ≡ some (chosen hs x) → Stand y.service s (header_at y.service h.q h.o (chosen hs x)) (show_header x))
          → scoped_by y.service s code (range_of show_header y.service (heads_at y.service h.q h.o) k)
          ≡ range_of show_header y.service (heads_at y.service h.q h.o) (then k (of_scope code))
      by none f = refl
      by (some (chosen hs (header u us cs))) f =
          let e : name_at y.service s (header_at y.service h.q h.o (chosen hs (header u us cs))) 3 ≡ scope_h (header u us cs) =
          header-scope y.service h.fits s (header_at y.service h.q h.o (chosen hs (header u us cs))) u us cs (f hs (header u us cs) refl) in
          ap (λ (t : List ℕ). cond (same t code) (range_of show_header y.service (heads_at y.service h.q h.o) (some (chosen hs (header u us cs)))) None) e
          ∙ each (same (scope_h (header u us cs)) code)
        where
          each : (b : Bool) → cond b (range_of show_header y.service (heads_at y.service h.q h.o) (some (chosen hs (header u us cs)))) None
              ≡ range_of show_header y.service (heads_at y.service h.q h.o) (cond b (some (chosen hs (header u us cs))) none)
          each true = refl
          each false = refl

  pub scope1-here : {x : Option Range} {a : Result Parted Refusal} → x ≡ header_found y.service s c rows (octets "1") r → a ≡ parts_by c x → a ≡ parts_as (scope1_of s m r)
  scope1-here {x} e d =
      d ∙ ap (parts_by c) (e ∙ header-scoped (octets "1")) ∙ by (header_in (octets "1") h.o r)
      ∙ sym (ap (λ (v : Service). parts_as (or_missing (scope1_at v (placed (message h.o h.t) h.q) r))) h.service)
      ∙ sym (ap parts_as (call-holds s m (λ i p. scope1_at (service_in i) p r) h))
    where
      by : (k : Maybe (Chosen Header)) → parts_by c (range_of show_header y.service (heads_at y.service h.q h.o) k)
          ≡ parts_as (or_missing (then k (λ x. some (parts (header_at y.service h.q h.o x) (header_end y.service h.q h.o x) (body_at y.service h.q h.o) (tail_at y.service h.q h.o)))))
      by none = refl
      by (some (chosen hs x)) = rw (h.laid.body, h.laid.tail)

  pub scope2-here : {x z : Option Range} {a : Result Range Refusal} → x ≡ header_found y.service s c rows (octets "2") r → z ≡ trailer_found y.service s c rows r → a ≡ run_by x z
      → a ≡ run_as (scope2_of s m r)
  scope2-here {x} {z} e f d =
      d ∙ ap (λ (k : Option Range). run_by k z) (e ∙ header-scoped (octets "2")) ∙ ap (run_by (range_of show_header y.service (heads_at y.service h.q h.o) (header_in (octets "2") h.o r))) (f ∙ trailer-found h r)
      ∙ by (header_in (octets "2") h.o r) (trailer_named h.o r)
      ∙ sym (ap (λ (v : Service). run_as (or_missing (scope2_at v (placed (message h.o h.t) h.q) r))) h.service)
      ∙ sym (ap run_as (call-holds s m (λ i p. scope2_at (service_in i) p r) h))
    where
      by : (k : Maybe (Chosen Header)) (j : Maybe (Chosen Trailer))
          → run_by (range_of show_header y.service (heads_at y.service h.q h.o) k) (range_of show_trailer y.service (tail_at y.service h.q h.o) j)
          ≡ run_as (or_missing (then k (λ x. then j (λ t. some (run (header_at y.service h.q h.o x) (trailer_at y.service h.q h.o t))))))
      by none none = refl
      by none (some (chosen ts t)) = refl
      by (some (chosen hs x)) none = refl
      by (some (chosen hs x)) (some (chosen ts t)) = refl

-- ---- the ranges lie within the octets

module _ {A : Type 0} (show : A → Snoc Segment) (name : A → List ℕ) (σ : Service) (r : List ℕ) where
  chosen-inside : (xs : Snoc A) {ys : Snoc A} {a : A} → chosen_by name xs r ≡ some (chosen ys a) → wide σ (joined show ys) + wide σ (show a) ≤ wide σ (joined show xs)
  chosen-inside nil e = none-some e
  chosen-inside (xs ▷ x) {ys} {a} e = by (same (name x) r) (λ k. chosen-inside xs k) e
    where
      by : (b : Bool) → (chosen_by name xs r ≡ some (chosen ys a) → wide σ (joined show ys) + wide σ (show a) ≤ wide σ (joined show xs))
          → cond b (some (chosen xs x)) (chosen_by name xs r) ≡ some (chosen ys a) → wide σ (joined show ys) + wide σ (show a) ≤ wide σ (joined show (xs ▷ x))
      by true f e =
          let k : xs ≡ ys = cc in
          let j : x ≡ a = cc in
          let p : wide σ (joined show xs) ≡ wide σ (joined show ys) = ap (λ (zs : Snoc A). wide σ (joined show zs)) k in
          let q : wide σ (show x) ≡ wide σ (show a) = ap (λ (z : A). wide σ (show z)) j in
          omega (arith, p, q, wide-join σ (joined show xs) (show x))
      by false f e = omega (arith, f e, wide-join σ (joined show xs) (show x))

header-before : (σ : Service) (q : ℕ) (o : Open) (r : List ℕ) {k : Chosen Header} (code : List ℕ) → header_in code o r ≡ some k
    → (header_at σ q o k ≤ header_end σ q o k) × (header_end σ q o k ≤ body_at σ q o)
header-before σ q (msg u hs b ts) r {k} code e = by (chosen_by ref_h hs (compared r)) (λ ys a d. chosen-inside show_header ref_h σ (compared r) hs d) e
  where
    by : (x : Maybe (Chosen Header)) → ((ys : Snoc Header) (a : Header) → x ≡ some (chosen ys a) → wide σ (joined show_header ys) + wide σ (show_header a) ≤ wide σ (joined show_header hs))
        → then x (of_scope code) ≡ some k → (header_at σ q (msg u hs b ts) k ≤ header_end σ q (msg u hs b ts) k) × (header_end σ q (msg u hs b ts) k ≤ body_at σ q (msg u hs b ts))
    by none f e = none-some e
    by (some (chosen ys a)) f e = each (same (scope_h a) code) e
      where
        each : (c : Bool) → cond c (some (chosen ys a)) none ≡ some k → (header_at σ q (msg u hs b ts) k ≤ header_end σ q (msg u hs b ts) k) × (header_end σ q (msg u hs b ts) k ≤ body_at σ q (msg u hs b ts))
        each true e =
            let j : chosen ys a ≡ k = cc in
            let l = f ys a refl in
            subst (λ (z : Chosen Header). (header_at σ q (msg u hs b ts) z ≤ header_end σ q (msg u hs b ts) z) × (header_end σ q (msg u hs b ts) z ≤ body_at σ q (msg u hs b ts))) j (omega arith, omega (arith, l))
        each false e = none-some e

trailer-before : (σ : Service) (q : ℕ) (o : Open) (r : List ℕ) {k : Chosen Trailer} → trailer_named o r ≡ some k
    → (tail_at σ q o ≤ trailer_at σ q o k) × (trailer_at σ q o k ≤ q + wide σ (show_open o))
trailer-before σ q (msg u hs b ts) r {k} e = by k e
  where
    by : (k : Chosen Trailer) → chosen_by ref_t ts (compared r) ≡ some k
        → (tail_at σ q (msg u hs b ts) ≤ trailer_at σ q (msg u hs b ts) k) × (trailer_at σ q (msg u hs b ts) k ≤ q + wide σ (show_open (msg u hs b ts)))
    by (chosen ys a) e =
        let l = chosen-inside show_trailer ref_t σ (compared r) ts e in (
          omega arith,
          omega (
            arith,
            l,
            wide-join σ (nil ▷ seg Unh u +++ joined show_header hs +++ show_body b) (joined show_trailer ts),
            wide-join σ (nil ▷ seg Unh u +++ joined show_header hs) (show_body b),
            wide-join σ (nil ▷ seg Unh u) (joined show_header hs),
          ),
        )

body-before : (σ : Service) (q : ℕ) (o : Open) → (body_at σ q o ≤ tail_at σ q o) × (tail_at σ q o ≤ q + wide σ (show_open o))
body-before σ q (msg u hs b ts) = (
  omega arith,
  omega (
    arith,
    wide-join σ (nil ▷ seg Unh u +++ joined show_header hs +++ show_body b) (joined show_trailer ts),
    wide-join σ (nil ▷ seg Unh u +++ joined show_header hs) (show_body b),
    wide-join σ (nil ▷ seg Unh u) (joined show_header hs),
  ),
)

module _ {s m : List ℕ} {y : Syntax} {c : Layout} {rows : List ℕ} (h : Holds s m y c rows) (r : List ℕ) where
  pub scope1-inside : {x : Option Range} {a : Result Parted Refusal} → x ≡ header_found y.service s c rows (octets "1") r → a ≡ parts_by c x → PartsInside a (length s)
  scope1-inside {x} {a} e d =
      subst (λ (v : Result Parted Refusal). PartsInside v (length s)) (sym (d ∙ ap (parts_by c) (e ∙ header-scoped h r (octets "1"))))
      (by (header_in (octets "1") h.o r) (λ k j. header-before y.service h.q h.o r (octets "1") j))
    where
      by : (k : Maybe (Chosen Header))
          → ((z : Chosen Header) → k ≡ some z → (header_at y.service h.q h.o z ≤ header_end y.service h.q h.o z) × (header_end y.service h.q h.o z ≤ body_at y.service h.q h.o))
          → PartsInside (parts_by c (range_of show_header y.service (heads_at y.service h.q h.o) k)) (length s)
      by none f = tt
      by (some (chosen hs x)) f =
          let l = f (chosen hs x) refl in
          let b = body-before y.service h.q h.o in (
            l.0,
            omega (arith, l.1, b.0, b.1, h.laid.unt, h.laid.end, h.laid.inside),
            omega (arith, b.0, h.laid.body, h.laid.tail),
            omega (arith, b.1, h.laid.tail, h.laid.unt, h.laid.end, h.laid.inside),
          )

  pub scope2-inside : {x z : Option Range} {a : Result Range Refusal} → x ≡ header_found y.service s c rows (octets "2") r → z ≡ trailer_found y.service s c rows r → a ≡ run_by x z → RunInside a (length s)
  scope2-inside {x} {z} e g d =
      subst (λ (v : Result Range Refusal). RunInside v (length s))
      (sym (d ∙ ap (λ (k : Option Range). run_by k z) (e ∙ header-scoped h r (octets "2"))
      ∙ ap (run_by (range_of show_header y.service (heads_at y.service h.q h.o) (header_in (octets "2") h.o r))) (g ∙ trailer-found h r)))
      (by (header_in (octets "2") h.o r) (trailer_named h.o r) (λ k j. header-before y.service h.q h.o r (octets "2") j) (λ k j. trailer-before y.service h.q h.o r j))
    where
      by : (k : Maybe (Chosen Header)) (j : Maybe (Chosen Trailer))
          → ((z : Chosen Header) → k ≡ some z → (header_at y.service h.q h.o z ≤ header_end y.service h.q h.o z) × (header_end y.service h.q h.o z ≤ body_at y.service h.q h.o))
          → ((z : Chosen Trailer) → j ≡ some z → (tail_at y.service h.q h.o ≤ trailer_at y.service h.q h.o z) × (trailer_at y.service h.q h.o z ≤ h.q + wide y.service (show_open h.o)))
          → RunInside (run_by (range_of show_header y.service (heads_at y.service h.q h.o) k) (range_of show_trailer y.service (tail_at y.service h.q h.o) j)) (length s)
      by none none f g = tt
      by none (some (chosen ts t)) f g = tt
      by (some (chosen hs x)) none f g = tt
      by (some (chosen hs x)) (some (chosen ts t)) f g =
          let l = f (chosen hs x) refl in
          let k = g (chosen ts t) refl in
          let b = body-before y.service h.q h.o in
          (omega (arith, l.0, l.1, b.0, k.0), omega (arith, k.1, h.laid.unt, h.laid.end, h.laid.inside))

-- ---- the part that is handed back is told by the numbers

module _ {n p g a b c d : ℕ} where
  pub header-part : (x : Answered Parts) → n ∷ p ∷ g ∷ a ∷ b ∷ c ∷ d ∷ [] ≡ part_numbers x → run a b ≡ header_part x
  header-part (given (parts a' b' c' d')) e = cc
  header-part (refused_as f') e = cc

  pub body-part : (x : Answered Parts) → n ∷ p ∷ g ∷ a ∷ b ∷ c ∷ d ∷ [] ≡ part_numbers x → run c d ≡ body_part x
  body-part (given (parts a' b' c' d')) e = cc
  body-part (refused_as f') e = cc

pub run-part : {n p g a b : ℕ} (x : Answered Run) → n ∷ p ∷ g ∷ a ∷ b ∷ [] ≡ run_numbers x → run a b ≡ run_part x
run-part (given (run a' b')) e = cc
run-part (refused_as f') e = cc

module _ (s m r : List ℕ) {f : Refusal} where
  pub scope1-refused : verdict_of s ≡ refused_with f → Err f ≡ parts_as (scope1_of s m r)
  scope1-refused e = sym (ap parts_as (call-refused s m (λ i p. scope1_at (service_in i) p r) e))

  pub scope2-refused : verdict_of s ≡ refused_with f → Err f ≡ run_as (scope2_of s m r)
  scope2-refused e = sym (ap run_as (call-refused s m (λ i p. scope2_at (service_in i) p r) e))

  module _ (d : f ≡ at_zero 13) (k : (i : Interchange) × ((verdict_of s ≡ accepted i) × (message_in i m ≡ none))) where
    pub scope1-missing : Err f ≡ parts_as (scope1_of s m r)
    scope1-missing = ap Err d ∙ sym (ap parts_as (call-missing s m (λ i p. scope1_at (service_in i) p r) k))

    pub scope2-missing : Err f ≡ run_as (scope2_of s m r)
    scope2-missing = ap Err d ∙ sym (ap run_as (call-missing s m (λ i p. scope2_at (service_in i) p r) k))

-- what the companion calls promise: the answer, with it the numbers, and where the places lie

pub parts-promised : {a : Result Parted Refusal} {Lie : Type 0} (x : Answered Parts) → a ≡ parts_as x → Lie → (a ≡ parts_as x) × ((told_parts a ≡ part_numbers x) × Lie)
parts-promised x e q = (e, (ap told_parts e ∙ by x, q))
  where
    by : (x : Answered Parts) → told_parts (parts_as x) ≡ part_numbers x
    by (given (parts a b c d)) = refl
    by (refused_as f) = refl

pub run-promised : {a : Result Range Refusal} {Lie : Type 0} (x : Answered Run) → a ≡ run_as x → Lie → (a ≡ run_as x) × ((told_run a ≡ run_numbers x) × Lie)
run-promised x e q = (e, (ap told_run e ∙ by x, q))
  where
    by : (x : Answered Run) → told_run (run_as x) ≡ run_numbers x
    by (given (run a b)) = refl
    by (refused_as f) = refl

-- ---- the code, call by call

module _ (σ : Service) (s : List ℕ) (c : Layout) (rows r : List ℕ) {g : Groups} {x : Option Range} (e : x ≡ sought_in σ s rows g.first g.element (compared r) g.count g.end)
    (k : g ≡ headers_as c) (code : List ℕ) where
  headers-sought : x ≡ sought_in σ s rows 0 2 (compared r) c.headers c.body
  headers-sought = groups-sought σ s rows r e k

  pub scoped-hit : {a : Range} {b : Bool} → x ≡ Some a → b ≡ same (name_at σ s a.start 3) code → b ≡ true → Some a ≡ header_found σ s c rows code r
  scoped-hit {a} q d f = sym (ap (scoped_by σ s code) (sym headers-sought ∙ q) ∙ ap (λ (b : Bool). cond b (Some a) None) (sym d ∙ f))

  pub scoped-other : {a : Range} {b : Bool} → x ≡ Some a → b ≡ same (name_at σ s a.start 3) code → b ≡ false → None ≡ header_found σ s c rows code r
  scoped-other {a} q d f = sym (ap (scoped_by σ s code) (sym headers-sought ∙ q) ∙ ap (λ (b : Bool). cond b (Some a) None) (sym d ∙ f))

  pub scoped-none : x ≡ None → None ≡ header_found σ s c rows code r
  scoped-none q = sym (ap (scoped_by σ s code) (sym headers-sought ∙ q))

pub parts-inside : {a : Result Parted Refusal} {x : Parted} (n : ℕ) → a ≡ Ok x → PartsInside a n → PartsInside (Ok x) n
parts-inside n e q = subst (λ (v : Result Parted Refusal). PartsInside v n) e q

pub run_inside : {a : Result Range Refusal} {x : Range} (n : ℕ) → a ≡ Ok x → RunInside a n → RunInside (Ok x) n
run_inside n e q = subst (λ (v : Result Range Refusal). RunInside v n) e q

-- a part of the octets s that starts and ends as the range r does, and lies in memory where it starts
module _ (s : List ℕ) (r : Run) {a b : ℕ} (e : run a b ≡ r) where
  pub part-octets : {z : List ℕ} → z ≡ slice a b s → z ≡ slice (start_of r) (end_of r) s
  part-octets d = d ∙ ap (λ (x : Run). slice (start_of x) (end_of x) s) e

  pub part_placed : {B : Type 0} {k : B} (o : ℕ) {z : B × ℕ} → z ≡ (k, a + o) → z ≡ (k, start_of r + o)
  part_placed {k = k} o {z = z} d = subst (λ (x : Run). z ≡ (k, start_of x + o)) e d
