-- Laws of the totals of the message that a call names.
use Rattle.walk.specs.declared.sections.Layout.{Layout}
use Rattle.judge.specs.declared.totals.Loads.{Loads}
use Rattle.std.specs.Prelude.{ℕ, ◌+◌, ◌≡◌, refl, Bool, true, false, cond, List, Result, Ok, Err, Some, None, Option}
use Rattle.std.proofs.Common.{ap, sym, ◌∙◌, subst}
use Rattle.std.proofs.Math.Option.{Option as Maybe, some}
use Rattle.syntax.proofs.ContentLaws.{plain-content}
use Rattle.syntax.specs.Content.{content, compared}
use Rattle.syntax.specs.Octets.{same}
use Rattle.syntax.specs.Opening.{begun_of}
use Rattle.syntax.specs.Refusals.{refusal_at}
use Rattle.syntax.specs.declared.Breach.{Breach}
use Rattle.syntax.specs.declared.Syntax.{Syntax}
use Rattle.syntax.specs.declared.Refusal.{Refusal}
use Rattle.syntax.specs.declared.Service.{Service}
use Rattle.syntax.specs.declared.opening.Start.{Start as Opening, Start}
use Rattle.grammar.specs.Lists.{Snoc, nil, ◌▷◌, size}
use Rattle.grammar.specs.Grams.{sum}
use Rattle.grammar.specs.WeighedLaws.{signed_back}
use Rattle.grammar.specs.Interchange.{Leaf, Message, idle, shown}
use Rattle.grammar.specs.Rules.{ref_m}
use Rattle.grammar.specs.Places.{wide}
use Rattle.grammar.specs.Named.{Placed, placed, placed_in, totals_at}
use Rattle.grammar.specs.Verdict.{Verdict, verdict_by, loads_m, Totals, totalled, refused_totals, totals_in, totals_by, totals_of, total_numbers, total_grams}
use Rattle.walk.specs.RunLaws.{verdict-by}
use Rattle.finding.specs.Finding.{FoundIs}
use Rattle.judge.specs.Totals.{totalled_by, totals_as, told_totals, told_grams, Light}

-- the totals are those of the message where it stands
pub totals-placed : (σ : Service) (p : ℕ) (u : Leaf) (ms : Snoc Message) (r : List ℕ) → totals_in ms r ≡ totals_at (placed_in σ p u ms r)
totals-placed σ p u nil r = refl
totals-placed σ p u (ms ▷ m) r = by (same (ref_m m) r) (totals-placed σ p u ms r)
  where
    by : (b : Bool) → totals_in ms r ≡ totals_at (placed_in σ p u ms r)
        → cond b (totalled (size (loads_m m)) (sum (loads_m m))) (totals_in ms r) ≡ totals_at (cond b (some (placed m (p + wide σ (shown (idle u ms))))) (placed_in σ p u ms r))
    by true e = refl
    by false e = e

module _ (s r : List ℕ) where
  pub totals-refused : {f : Breach} {g : Result Start Breach} {k : Refusal} → g ≡ begun_of s → g ≡ Err f → k ≡ refusal_at s f.number f.place
      → Err k ≡ totals_as (totals_of s r)
  totals-refused {f} e d h = ap Err h ∙ ap (λ (b : Result Start Breach). totals_as (totals_by (verdict_by s b) (compared r))) (sym d ∙ e)

  pub totals-found : {b : Opening} {g : Result Start Breach} (f : Result (Option Layout) Breach) (rows : List ℕ) → g ≡ begun_of s → g ≡ Ok b → FoundIs b.syntax s b.at (compared r) f rows
      → totalled_by s f ≡ totals_as (totals_of s r)
  totals-found {b} (Err g) rows e d q = sym (ap (λ (v : Verdict). totals_as (totals_by v (compared r))) (verdict-by s e d q))
  totals-found {b} (Ok None) rows e d q =
      sym (ap (λ (v : Verdict). totals_as (totals_by v (compared r))) (verdict-by s e d q.3.0)
      ∙ ap totals_as (totals-placed b.syntax.service b.at q.0 q.1 (compared r)) ∙ ap (λ (o : Maybe Placed). totals_as (totals_at o)) q.3.1)
  totals-found {b} (Ok (Some c)) rows e d q =
      let k = q.3.1 in
      sym (ap (λ (v : Verdict). totals_as (totals_by v (compared r))) (verdict-by s e d q.3.0)
      ∙ ap totals_as (totals-placed b.syntax.service b.at q.0 q.1 (compared r)) ∙ ap (λ (o : Maybe Placed). totals_as (totals_at o)) k.3.0
      ∙ rw (k.3.1.loads, k.3.1.grams, k.3.1.below))

  -- a name that is content already
  pub totals-plain : {b : Opening} {g : Result Start Breach} (f : Result (Option Layout) Breach) (rows : List ℕ) → g ≡ begun_of s → g ≡ Ok b → FoundIs b.syntax s b.at (compared (content 32 r)) f rows
      → totalled_by s f ≡ totals_as (totals_of s r)
  totals-plain {b} f rows e d q = totals-found f rows e d (subst (λ (k : List ℕ). FoundIs b.syntax s b.at (compared k) f rows) (plain-content r) q)

pub totals-light : (y : Syntax) (s : List ℕ) (p : ℕ) (r : List ℕ) (f : Result (Option Layout) Breach) (rows : List ℕ) → FoundIs y s p r f rows → Light (totalled_by s f)
totals-light y s p r (Err g) rows q = tt
totals-light y s p r (Ok None) rows q = tt
totals-light y s p r (Ok (Some c)) rows q = q.3.1.3.1.light

-- what the call promises: the answer, and with it the numbers, the grams and their bound
pub totals-promised : {a : Result Loads Refusal} (t : Totals) → a ≡ totals_as t → Light a
    → (a ≡ totals_as t) × ((told_totals a ≡ total_numbers t) × ((told_grams a ≡ total_grams t) × Light a))
totals-promised t e l = (e, (ap told_totals e ∙ by t, (ap told_grams e ∙ grams-by t, l)))
  where
    by : (t : Totals) → told_totals (totals_as t) ≡ total_numbers t
    by (totalled loads grams) = refl
    by (refused_totals f) = refl

    grams-by : (t : Totals) → told_grams (totals_as t) ≡ total_grams t
    grams-by (totalled loads grams) = signed_back grams
    grams-by (refused_totals f) = refl
