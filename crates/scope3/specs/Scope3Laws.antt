-- What the code makes of the message that is found is what the definition of scope 3 says.
use Rattle.groups.specs.declared.named.Range.{Range}
use Rattle.std.specs.Prelude.{ℕ, ⊤, ◌+◌, ◌≤◌, ◌≡◌, refl, List, Bool, true, false, cond, length, Result, Ok, Err, Some, None, Option}
use Rattle.std.proofs.Common.{arith, ap, ◌∙◌, sym, subst}
use Rattle.std.proofs.Math.Option.{Option as Maybe, none, some}
use Rattle.std.proofs.Math.Seq.{slice}
use Rattle.syntax.specs.Refusals.{refusal_at, at_zero}
use Rattle.syntax.specs.Octets.{same}
use Rattle.syntax.specs.Content.{content, compared}
use Rattle.syntax.specs.Opening.{begun_of}
use Rattle.syntax.specs.declared.Service.{Service}
use Rattle.syntax.specs.declared.Syntax.{Syntax}
use Rattle.syntax.specs.declared.classes.Classes.{Classes}
use Rattle.syntax.specs.declared.Breach.{Breach}
use Rattle.syntax.specs.declared.Refusal.{Refusal}
use Rattle.syntax.specs.declared.opening.Start.{Start}
use Rattle.grammar.specs.Interchange.{Leaf, Open, msg, message, show_message}
use Rattle.grammar.specs.Rules.{autack}
use Rattle.grammar.specs.Valid.{Interchange}
use Rattle.grammar.specs.Verdict.{Verdict, accepted, refused_with, verdict_of}
use Rattle.grammar.specs.Places.{wide}
use Rattle.grammar.specs.Named.{Placed, placed}
use Rattle.walk.specs.Sections.{autack_o}
use Rattle.walk.specs.declared.sections.Layout.{Layout}
use Rattle.finding.specs.Finding.{FoundIs}
use Rattle.judge.specs.Told.{verdict_as}
use Rattle.groups.specs.Groups.{ref_name_at}
use Rattle.groups.specs.Calls.{or_missing, answered_by, then, service_in, message_in, Holds}
use Rattle.groups.specs.CallsLaws.{named-refused, named-not-read, named-missing, named_here}
use Rattle.ranges.specs.Ranges.{Run, run}
use Rattle.ranges.specs.Told.{run_as, RunInside}
use Rattle.f01.specs.Targets.{has_reference}
use Rattle.f01.specs.Referring.{target_from}
use Rattle.f01.specs.ReferringLaws.{reference-so}
use Rattle.f01.specs.declared.Referred.{Referred}
use Rattle.scope3.specs.Scope3.{whole_at, whole_in}
use Rattle.scope3.specs.Whole.{whole_by}

-- ---- where nothing is referred to

module _ (s : List ℕ) {v : Result ⊤ Refusal} (e : v ≡ verdict_as (verdict_of s)) {f : Refusal} where
  pub unreferred-read : v ≡ Ok tt → f ≡ at_zero 13 → Err f ≡ run_as (answered_by (verdict_of s) (λ i. none))
  unreferred-read d n = by (verdict_of s) (sym d ∙ e)
    where
      by : (w : Verdict) → Ok tt ≡ verdict_as w → Err f ≡ run_as (answered_by w (λ i. none))
      by (accepted i) k = ap Err n
      by (refused_with g) k = let z : ◌≡◌ {A = ℕ} 0 1 = cc in absurd (omega arith)

  pub unreferred-refused : v ≡ Err f → Err f ≡ run_as (answered_by (verdict_of s) (λ i. none))
  unreferred-refused d = by (verdict_of s) (sym d ∙ e)
    where
      by : (w : Verdict) → Err f ≡ verdict_as w → Err f ≡ run_as (answered_by w (λ i. none))
      by (accepted i) k = let z : ◌≡◌ {A = ℕ} 0 1 = cc in absurd (omega arith)
      by (refused_with g) k = let q : f ≡ g = cc in ap Err q

-- ---- the message that is found

-- it is no AUTACK: from its UNH to the end of its UNT
whole-so : (c : Layout) (σ : Service) (o : Open) (t : Leaf) (q : ℕ) → c.autack ≡ autack_o o → c.unh ≡ q → c.end ≡ q + wide σ (show_message (message o t)) → (b : Bool)
    → whole_by c b ≡ run_as (or_missing (cond b (whole_at σ (placed (message o t) q)) none))
whole-so c σ (msg u hs w ts) t q a h k false = refl
whole-so c σ (msg u hs w ts) t q a h k true =
    ap (λ (g : Bool). cond g (Err (at_zero 13)) (Ok (record { start = c.unh; end = c.end }))) a ∙ by (autack u)
  where
    by : (g : Bool) → cond g (Err (at_zero 13)) (Ok (record { start = c.unh; end = c.end }))
        ≡ run_as (or_missing (cond g none (some (run q (q + wide σ (show_message (message (msg u hs w ts) t)))))))
    by true = refl
    by false = ap (λ (n : ℕ). Ok (record { start = n; end = c.end })) h ∙ ap (λ (n : ℕ). Ok (record { start = q; end = n })) k

whole-within : (c : Layout) (n : ℕ) → c.unh ≤ c.end → c.end ≤ n → (b : Bool) → RunInside (whole_by c b) n
whole-within c n h k false = tt
whole-within c n h k true = by c.autack
  where
    by : (g : Bool) → RunInside (cond g (Err (at_zero 13)) (Ok (record { start = c.unh; end = c.end }))) n
    by true = tt
    by false = (h, k)

-- as the code makes it, case by case
module _ (c : Layout) {b : Bool} where
  pub whole-other : {f : Refusal} → b ≡ false → f ≡ at_zero 13 → Err f ≡ whole_by c b
  whole-other e n = ap Err n ∙ sym (ap (whole_by c) e)

  pub whole-autack : {f : Refusal} → b ≡ true → c.autack ≡ true → f ≡ at_zero 13 → Err f ≡ whole_by c b
  whole-autack e a n =
      ap Err n
      ∙ sym (ap (whole_by c) e ∙ ap (λ (g : Bool). cond g (Err (at_zero 13)) (Ok (record { start = c.unh; end = c.end }))) a)

  pub whole_run : b ≡ true → c.autack ≡ false → Ok (record { start = c.unh; end = c.end }) ≡ whole_by c b
  whole_run e a = sym (ap (whole_by c) e ∙ ap (λ (g : Bool). cond g (Err (at_zero 13)) (Ok (record { start = c.unh; end = c.end }))) a)

-- a is the AUTACK's interchange, s the other; x is what is referred to
module _ (s a : List ℕ) (x : Referred) where
  -- the 0020 and the 0062 of the USX
  abbrev other : List ℕ
  other = compared (content x.release (slice x.interchange.start x.interchange.end a))

  abbrev name : List ℕ
  name = content x.release (slice x.message.start x.message.end a)

  abbrev asks : Interchange → Maybe Run
  asks i = whole_in i (target_from a x)

  pub whole-unbegun : {f : Breach} {g : Result Start Breach} {k : Refusal} → g ≡ begun_of s → g ≡ Err f → k ≡ refusal_at s f.number f.place
      → Err k ≡ run_as (answered_by (verdict_of s) asks)
  whole-unbegun e d h = sym (ap (λ (v : Verdict). run_as (answered_by v asks)) (named-refused s name e d h))

  -- p are the octets of the 0062
  module _ {b : Start} {g : Result Start Breach} (e : g ≡ begun_of s) (d : g ≡ Ok b) {p : List ℕ} (o : p ≡ slice x.message.start x.message.end a) (rows : List ℕ) where
    -- what was found by them was found by the name
    found : (r : Result (Option Layout) Breach) → FoundIs b.syntax s b.at (compared (content x.release p)) r rows → FoundIs b.syntax s b.at (compared name) r rows
    found r q = subst (λ (l : List ℕ). FoundIs b.syntax s b.at (compared (content x.release l)) r rows) o q

    pub whole-refused : {r : Result (Option Layout) Breach} {f : Breach} {k : Refusal} → r ≡ Err f → FoundIs b.syntax s b.at (compared (content x.release p)) r rows
        → k ≡ refusal_at s f.number f.place → Err k ≡ run_as (answered_by (verdict_of s) asks)
    whole-refused {r} j q h = sym (ap (λ (v : Verdict). run_as (answered_by v asks)) (named-not-read s name e d rows j (found r q) h))

    pub whole-missing : {r : Result (Option Layout) Breach} {f : Refusal} → r ≡ (Ok None) → FoundIs b.syntax s b.at (compared (content x.release p)) r rows → f ≡ at_zero 13
        → Err f ≡ run_as (answered_by (verdict_of s) asks)
    whole-missing {r} j q n =
        let w = named-missing s name e d rows j (found r q) in
        ap Err n
        ∙ sym (ap (λ (v : Verdict). run_as (answered_by v asks)) w.1.0
        ∙ ap (λ (m : Maybe Placed). run_as (or_missing (cond (has_reference w.0 other) (then m (whole_at (service_in w.0))) none))) w.1.1 ∙ by (has_reference w.0 other))
      where
        by : (c : Bool) → run_as (or_missing (cond c none none)) ≡ Err (at_zero 13)
        by true = refl
        by false = refl

    pub whole_here : {r : Result (Option Layout) Breach} {c : Layout} (t : Classes) {f : Bool} {z : Result Range Refusal} → t.syntax ≡ b.syntax → r ≡ Ok (Some c)
        → FoundIs b.syntax s b.at (compared (content x.release p)) r rows → f ≡ same (ref_name_at b.syntax.service s b.at 5) other → z ≡ whole_by c f
        → (z ≡ run_as (answered_by (verdict_of s) asks)) × RunInside z (length s)
    whole_here {r} {c} t {f} {z} w j q k n = by (subst (λ (y : Syntax). Holds s name y c rows) w (named_here s name e d rows t w j (found r q)))
      where
        by : Holds s name b.syntax c rows → (z ≡ run_as (answered_by (verdict_of s) asks)) × RunInside z (length s)
        by h =
            let σ : Service = b.syntax.service in
            let m : Placed = placed (message h.o h.t) h.q in
            let end : c.end ≡ h.q + wide σ (show_message (message h.o h.t)) = omega (arith, h.laid.end, h.laid.unt) in (
              n ∙ whole-so c σ h.o h.t h.q h.laid.autack h.laid.unh end f
                  ∙ sym (ap (λ (v : Verdict). run_as (answered_by v asks)) h.read
                  ∙ ap (λ (u : Bool). run_as (or_missing (cond u (then (message_in h.i name) (whole_at (service_in h.i))) none))) (reference-so s h.i b (sym e ∙ d) h.read other ∙ sym k)
                  ∙ ap (λ (v : Maybe Placed). run_as (or_missing (cond f (then v (whole_at (service_in h.i))) none))) h.named
                  ∙ ap (λ (v : Service). run_as (or_missing (cond f (whole_at v m) none))) h.service),
              subst (λ (v : Result Range Refusal). RunInside v (length s)) (sym n) (whole-within c (length s) (omega (arith, end, h.laid.unh)) h.laid.inside f),
            )
