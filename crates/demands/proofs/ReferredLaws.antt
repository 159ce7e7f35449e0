-- F01: a run is given exactly where the AUTACK refers to the interchange, and it is the run of messages that are no AUTACK.
use Rattle.std.specs.Prelude.{ℕ, ◌+◌, ◌≡◌, refl, List, ◌↔◌, Bool, true, false, cond, T}
use Rattle.std.proofs.Common.{arith, ap, ◌∙◌, sym, append_assoc}
use Rattle.std.proofs.Math.Option.{none, some}
use Rattle.syntax.specs.Octets.{octets, same}
use Rattle.syntax.proofs.ContentLaws.{same_self}
use Rattle.syntax.specs.Tree.{Segment}
use Rattle.syntax.specs.declared.Service.{Service}
use Rattle.grammar.specs.Lists.{Snoc, nil, ◌▷◌, ◌+++◌, joined, list}
use Rattle.grammar.specs.TestLaws.{passes}
use Rattle.grammar.proofs.PlacingLaws.{same-eq}
use Rattle.grammar.proofs.ListsLaws.{joined-join}
use Rattle.grammar.specs.Segments.{Unb, Unz, seg, unb0020, usx0020, usx0062_text}
use Rattle.grammar.specs.Interchange.{Message, idle, done, shown, show_message}
use Rattle.grammar.specs.Valid.{Interchange, interchange, opening_in, una_of}
use Rattle.grammar.specs.Verdict.{accepted, verdict_of}
use Rattle.grammar.specs.Counted.{messages_in}
use Rattle.grammar.specs.Places.{wide}
use Rattle.grammar.proofs.PlacesLaws.{wide-join, wide-list}
use Rattle.spans.specs.Span.{Parted, parted, parted_of, run_right, Span, span, span_by, span_at}
use Rattle.spans.specs.SpanLaws as spans
use Rattle.groups.specs.Stand.{Stand}
use Rattle.groups.specs.StandLaws.{list-join, stand-front, stand-back}
use Rattle.groups.specs.Calls.{given, then, service_in}
use Rattle.groups.specs.CallsLaws.{none-some}
use Rattle.ranges.specs.Ranges.{Run, run}
use Rattle.weaving.proofs.WovenLaws.{una-length}
use Rattle.f01.specs.Targets.{target}
use Rattle.f01.specs.F01.{run_of, run_in, f01_of}
use Rattle.demands.specs.AskedLaws.{then-so, read-stands, stand-as, Part, part, part_at}
use Rattle.demands.specs.Stated.{unb_of, Refers}
use Rattle.demands.specs.Printed.{F01}
use Rattle.demands.specs.ReferringLaws.{across-so, across-there}
use Rattle.demands.specs.PartedLaws.{each-autack, each-other, some-there, right-run, parted-so}

-- ---- the run of the other interchange

-- where messages end, and the next starts
abbrev start_at : Interchange → Snoc Message → ℕ
start_at i b = (opening_in (una_of i)).at + wide (service_in i) (shown (idle (unb_of i) b))

-- the run stands there
run-part : (s : List ℕ) (i : Interchange) (b r a : Snoc Message) → verdict_of s ≡ accepted i → messages_in i ≡ b +++ r +++ a
    → Part (service_in i) s (start_at i b) (start_at i (b +++ r)) (joined show_message r)
run-part s (interchange n u ms z) b r a v w =
    let i : Interchange = interchange n u ms z in
    let σ : Service = service_in (interchange n u ms z) in
    let p : ℕ = (opening_in n).at in
    let U : Snoc Segment = nil ▷ seg Unb u in
    let B : Snoc Segment = joined show_message b in
    let R : Snoc Segment = joined show_message r in
    let L : Snoc Segment = joined show_message a +++ (nil ▷ seg Unz z) in
    let jm : joined show_message ms ≡ B +++ R +++ joined show_message a =
    ap (joined show_message) w ∙ joined-join show_message (b +++ r) a ∙ ap (λ (y : Snoc Segment). y +++ joined show_message a) (joined-join show_message b r) in
    let st : Stand σ s p (U +++ B +++ R +++ L) =
    stand-as (shown (done u ms z)) (U +++ B +++ R +++ L) (ap (λ (y : Snoc Segment). list (U +++ y +++ (nil ▷ seg Unz z))) jm ∙ simp (list-join, append_assoc)) (read-stands s (interchange n u ms z) v) in
    let sr : Stand σ s (start_at i b) R = stand-back σ s p (U +++ B) R (stand-front σ s p (U +++ B +++ R) L st) in
    let pb : start_at i b + wide σ R ≡ start_at i (b +++ r) =
    omega (arith, wide-join σ U (joined show_message (b +++ r)), ap (wide σ) (joined-join show_message b r), wide-join σ B R, wide-join σ U B) in
    part_at refl pb (part σ s (start_at i b) R sr)

pub record Runs (i : Interchange) (k : List ℕ) (p : Run) : Type 0 where
  pub named : unb0020 (unb_of i) ≡ k
  pub before : Snoc Message
  pub inside : Snoc Message
  pub behind : Snoc Message
  pub parts : parted_of (messages_in i) ≡ parted before inside behind
  pub right : T (run_right inside)

run-so : (i : Interchange) (k m : List ℕ) (p : Run) → run_in i (target k m) ≡ some p → Runs i k p
run-so (interchange n u ms z) k m p e = by (same (unb0020 u) k) refl e
  where
    by : (c : Bool) → same (unb0020 u) k ≡ c → cond c (then (span_at (service_in (interchange n u ms z)) (opening_in n).at u ms) (λ x. some (run_of x))) none ≡ some p → Runs (interchange n u ms z) k p
    by false q e = none-some e
    by true q e =
        let t = then-so (span_at (service_in (interchange n u ms z)) (opening_in n).at u ms) (λ x. some (run_of x)) p e in
        each (parted_of ms) refl t.a t.first
      where
        each : (y : Parted) → parted_of ms ≡ y → (x : Span) → span_by (service_in (interchange n u ms z)) (opening_in n).at u (parted_of ms) ≡ some x → Runs (interchange n u ms z) k p
        each (parted b r a) d x f = one (run_right r) refl (sym (ap (span_by (service_in (interchange n u ms z)) (opening_in n).at u) d) ∙ f)
          where
            one : (c : Bool) → run_right r ≡ c → cond c (some (span (start_at (interchange n u ms z) b) (start_at (interchange n u ms z) (b +++ r)))) none ≡ some x → Runs (interchange n u ms z) k p
            one false y h = none-some h
            one true y h = record {
              named = same-eq (unb0020 u) k (passes (same (unb0020 u) k) q);
              before = b;
              inside = r;
              behind = a;
              parts = d;
              right = passes (run_right r) y;
            }

run-there : (i : Interchange) (k m : List ℕ) {b r a : Snoc Message} → unb0020 (unb_of i) ≡ k → parted_of (messages_in i) ≡ parted b r a → run_right r ≡ true
    → run_in i (target k m) ≡ some (run (start_at i b) (start_at i (b +++ r)))
run-there (interchange n u ms z) k m {b} {r} {a} e d y =
    let i : Interchange = interchange n u ms z in
    ap (λ (c : Bool). cond c (then (span_at (service_in i) (opening_in n).at u ms) (λ x. some (run_of x))) none) (ap (λ (x : List ℕ). same x k) e ∙ same_self k)
    ∙ ap (λ (p : Parted). then (span_by (service_in i) (opening_in n).at u p) (λ x. some (run_of x))) d
    ∙ ap (λ (c : Bool). then (cond c (some (span (start_at i b) (start_at i (b +++ r)))) none) (λ x. some (run_of x))) y

-- ---- both

module _ (a s m r : List ℕ) where
  refers-so : (p : Run) → f01_of a s m r ≡ given p → Refers a s m r
  refers-so p e =
      let g = across-so (octets "F01") run_in a s m r p e in
      let x = run-so g.i (usx0020 g.tied.usx) (usx0062_text g.tied.usx) p g.gave in
      let w = spans.parted-so {ms = messages_in g.i} x.parts in
      record {
        to = record { autack = g.autack; tied = g.tied; i = g.i; read = g.read; refers = x.named };
        before = x.before;
        run = x.inside;
        behind = x.behind;
        whole = w.whole;
        autacks-before = each-autack w.before;
        some-inside = some-there x.inside x.right;
        none_inside = each-other x.right;
        autacks-behind = each-autack w.behind;
      }

  refers-parted : (w : Refers a s m r) → parted_of (messages_in w.to.i) ≡ parted w.before w.run w.behind
  refers-parted w = ap parted_of w.whole ∙ parted-so w.before w.run w.behind w.autacks-before w.some-inside w.none_inside w.autacks-behind

  refers-there : (w : Refers a s m r) → f01_of a s m r ≡ given (run (start_at w.to.i w.before) (start_at w.to.i (w.before +++ w.run)))
  refers-there w =
      across-there (octets "F01") run_in a s m r w.to (run (start_at w.to.i w.before) (start_at w.to.i (w.before +++ w.run)))
      (run-there w.to.i (usx0020 w.to.tied.usx) (usx0062_text w.to.tied.usx) w.to.refers (refers-parted w) (right-run w.run w.some-inside w.none_inside))

  pub f01-given : ((p : Run) × (f01_of a s m r ≡ given p)) ↔ Refers a s m r
  f01-given = (
    λ (h : (p : Run) × (f01_of a s m r ≡ given p)). refers-so h.0 h.1,
    λ (w : Refers a s m r). (run (start_at w.to.i w.before) (start_at w.to.i (w.before +++ w.run)), refers-there w),
  )

  pub f01-printed : (x y : ℕ) → f01_of a s m r ≡ given (run x y) → F01 a s m r x y
  f01-printed x y e =
      let w = refers-so (run x y) e in
      let g : given (run (start_at w.to.i w.before) (start_at w.to.i (w.before +++ w.run))) ≡ given (run x y) = sym (refers-there w) ∙ e in
      let st : start_at w.to.i w.before ≡ x = cc in
      let en : start_at w.to.i (w.before +++ w.run) ≡ y = cc in
      let h = part_at st en (run-part s w.to.i w.before w.run w.behind w.to.read w.whole) in
      record {
        of = w;
        start = omega (arith, st, una-length (una_of w.to.i), wide-list (service_in w.to.i) (shown (idle (unb_of w.to.i) w.before)));
        octets = h.octets;
        end = h.end;
      }
