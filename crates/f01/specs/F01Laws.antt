-- What the code makes of the interchange that the AUTACK refers to is what the definition of F01 says.
use Rattle.std.specs.Prelude.{ℕ, ◌≤◌, ◌≡◌, refl, List, Bool, true, false, cond, length, Result, Ok, Err, Some, None, Option}
use Rattle.std.proofs.Common.{ap, ◌∙◌, sym, subst}
use Rattle.std.proofs.Math.Option.{Option as Maybe, none, some}
use Rattle.syntax.specs.Refusals.{refusal_at, at_zero}
use Rattle.syntax.specs.Octets.{same}
use Rattle.syntax.specs.Opening.{begun_of}
use Rattle.syntax.specs.declared.Service.{Service}
use Rattle.syntax.specs.declared.Breach.{Breach}
use Rattle.syntax.specs.declared.Refusal.{Refusal}
use Rattle.syntax.specs.declared.opening.Start.{Start}
use Rattle.grammar.specs.Lists.{Snoc}
use Rattle.grammar.specs.Interchange.{Leaf, Message, done}
use Rattle.grammar.specs.Valid.{Interchange, interchange, opening_in}
use Rattle.grammar.specs.Verdict.{Verdict, accepted, verdict_of, verdict_by, una_at, read}
use Rattle.walk.specs.RunLaws.{verdict-by}
use Rattle.walk.specs.Runs.{answer_from}
use Rattle.spans.specs.Span.{Span, span, span_at}
use Rattle.spans.specs.Spanning.{WholeBy, SpanIs}
use Rattle.spans.specs.declared.span.Run.{Run as Spanned}
use Rattle.groups.specs.Groups.{ref_name_at}
use Rattle.groups.specs.Calls.{refused_as, or_missing, answered_by, then, service_in}
use Rattle.groups.specs.CallsLaws.{begins}
use Rattle.ranges.specs.Ranges.{Run, run}
use Rattle.ranges.specs.Told.{run_as}
use Rattle.f01.specs.Targets.{Target, target}
use Rattle.f01.specs.F01.{run_of, run_in}
use Rattle.f01.specs.Referring.{is_referred}
use Rattle.f01.specs.ReferringLaws.{reference-so}

-- ---- the run of the other interchange

module _ (s : List ℕ) (o : Maybe Target) where
  abbrev asks : Interchange → Maybe Run
  asks i = then o (run_in i)

  pub run-unbegun : {f : Breach} {g : Result Start Breach} {k : Refusal} → g ≡ begun_of s → g ≡ Err f → k ≡ refusal_at s f.number f.place
      → Err k ≡ run_as (answered_by (verdict_of s) asks)
  run-unbegun {f} e d h = ap Err h ∙ sym (ap (λ (b : Result Start Breach). run_as (answered_by (verdict_by s b) asks)) (sym e ∙ d))

  module _ {x : Start} {g : Result Start Breach} (e : g ≡ begun_of s) (d : g ≡ Ok x) where
    -- the 0020 of the octets
    abbrev named : List ℕ
    named = ref_name_at x.syntax.service s x.at 5

    pub run-refused : {f : Breach} {k : Result (Option Spanned) Breach} {g : Refusal} → k ≡ Err f → SpanIs x.syntax s x.at k → g ≡ refusal_at s f.number f.place
        → Err g ≡ run_as (answered_by (verdict_of s) asks)
    run-refused {f} j q h =
        ap Err h ∙ sym (ap (λ (v : Verdict). run_as (answered_by v asks)) (verdict-by s e d (subst (SpanIs x.syntax s x.at) j q)))

    -- of the run z of the octets, if it is asked for
    abbrev held_by : Maybe Span → Target → Maybe Run
    held_by z (target k m) = cond (same named k) (then z (λ y. some (run_of y))) none

    -- what is read, and its run
    record Whole (z : Maybe Span) : Type 0 where
      i : Interchange
      read : verdict_of s ≡ accepted i
      runs : (t : Target) → run_in i t ≡ held_by z t

    whole : (z : Maybe Span) → WholeBy x.syntax s x.at z → Whole z
    whole z w = by w.0 w.1 w.2 w.3.0 w.3.1
      where
        by : (u : Leaf) (ms : Snoc Message) (l : Leaf) → answer_from x.syntax s x.at ≡ read (done u ms l) → span_at x.syntax.service x.at u ms ≡ z → Whole z
        by u ms l a k =
            let i : Interchange = interchange (una_at s) u ms l in
            let v : verdict_of s ≡ accepted i = verdict-by s e d a in
            record { i = i; read = v; runs = each v }
          where
            each : (v : verdict_of s ≡ accepted (interchange (una_at s) u ms l)) (t : Target) → run_in (interchange (una_at s) u ms l) t ≡ held_by z t
            each v (target n m) =
                let i : Interchange = interchange (una_at s) u ms l in
                let b = begins s i x (sym e ∙ d) v in
                ap (λ (c : Bool). cond c (then (span_at (service_in i) (opening_in (una_at s)).at u ms) (λ y. some (run_of y))) none) (reference-so s i x (sym e ∙ d) v n)
                ∙ ap (λ (o : Maybe Span). cond (same named n) (then o (λ y. some (run_of y))) none)
                (ap (λ (σ : Service). span_at σ (opening_in (una_at s)).at u ms) b.service ∙ ap (λ (p : ℕ). span_at x.syntax.service p u ms) b.at ∙ k)

    asked-run : {z : Maybe Span} → Whole z → answered_by (verdict_of s) asks ≡ or_missing (then o (held_by z))
    asked-run {z} w = ap (λ (v : Verdict). answered_by v asks) w.read ∙ by o
      where
        by : (o : Maybe Target) → or_missing (then o (run_in w.i)) ≡ or_missing (then o (held_by z))
        by none = refl
        by (some t) = ap or_missing (w.runs t)

    pub run_none : {f : Refusal} {k : Result (Option Spanned) Breach} → k ≡ (Ok None) → SpanIs x.syntax s x.at k → f ≡ at_zero 13 → Err f ≡ run_as (answered_by (verdict_of s) asks)
    run_none {f} j q n =
        ap Err n ∙ sym (ap run_as (asked-run (whole none (subst (SpanIs x.syntax s x.at) j q)) ∙ by o))
      where
        by : (o : Maybe Target) → or_missing (then o (held_by none)) ≡ refused_as (at_zero 13)
        by none = refl
        by (some (target r m)) = each (same named r)
          where
            each : (b : Bool) → or_missing {A = Run} (cond b none none) ≡ refused_as (at_zero 13)
            each true = refl
            each false = refl

    module _ {z : Spanned} {k : Result (Option Spanned) Breach} (j : k ≡ Ok (Some z)) (q : SpanIs x.syntax s x.at k) {b : Bool} (t : b ≡ is_referred o named) where
      spanned : SpanIs x.syntax s x.at (Ok (Some z))
      spanned = subst (SpanIs x.syntax s x.at) j q

      by-test : (o : Maybe Target) → or_missing (then o (held_by (some (span z.start z.end)))) ≡ or_missing (cond (is_referred o named) (some (run z.start z.end)) none)
      by-test none = refl
      by-test (some (target r m)) = refl

      answers : answered_by (verdict_of s) asks ≡ or_missing (cond b (some (run z.start z.end)) none)
      answers = asked-run (whole (some (span z.start z.end)) spanned.0) ∙ by-test o ∙ ap (λ (c : Bool). or_missing (cond c (some (run z.start z.end)) none)) (sym t)

      pub run-there : b ≡ true → Ok (record { start = z.start; end = z.end }) ≡ run_as (answered_by (verdict_of s) asks)
      run-there h = sym (ap run_as (answers ∙ ap (λ (c : Bool). or_missing (cond c (some (run z.start z.end)) none)) h))

      pub run-other : {f : Refusal} → b ≡ false → f ≡ at_zero 13 → Err f ≡ run_as (answered_by (verdict_of s) asks)
      run-other h n =
          ap Err n ∙ sym (ap run_as (answers ∙ ap (λ (c : Bool). or_missing (cond c (some (run z.start z.end)) none)) h))

      pub run-within : (z.start ≤ z.end) × (z.end ≤ length s)
      run-within = (spanned.1, spanned.2)
