-- Laws of the verdict as the call answers it.
use Rattle.std.specs.Prelude.{ℕ, ⊤, ◌≡◌, refl, List, Result, Ok, Err}
use Rattle.std.proofs.Common.{ap, sym, ◌∙◌}
use Rattle.std.proofs.Math.Option.{Option}
use Rattle.std.specs.Result.{MatchResult, IsErrAnd}
use Rattle.std.proofs.lemmas.Result.{err_from_is_err_and}
use Rattle.syntax.specs.Opening.{begun_of}
use Rattle.syntax.specs.Refusals.{refusal_at}
use Rattle.syntax.specs.declared.Breach.{Breach}
use Rattle.syntax.specs.declared.Refusal.{Refusal}
use Rattle.syntax.specs.declared.opening.Start.{Start as Opening, Start}
use Rattle.grammar.specs.Lists.{Snoc}
use Rattle.grammar.specs.Interchange.{Leaf, Message, Reading, start, idle, busy, done}
use Rattle.grammar.specs.Valid.{Una}
use Rattle.grammar.specs.Verdict.{Answer, read, refused, Verdict as Judged, accepted, refused_with, concluded, verdict_by, verdict_of, una_at, numbers}
use Rattle.walk.specs.RunLaws.{verdict-by}
use Rattle.walk.specs.Runs.{answer_from}
use Rattle.judge.specs.Told.{verdict_as, walked_as, told_verdict, refused_in}

-- the whole was read
pub walked_whole : (s : List ℕ) {a : Answer} {t : Reading} → (a ≡ read t) × ((u : Leaf) × (ms : Snoc Message) × (z : Leaf) × (t ≡ done u ms z)) → walked_as s a ≡ Ok tt
walked_whole s q = ap (walked_as s) (q.0 ∙ ap read q.1.3)

-- a breach ended it
pub walked-not : (s : List ℕ) {a : Answer} {f : Breach} {g : Refusal} → a ≡ refused f.number f.place → g ≡ refusal_at s f.number f.place → Err g ≡ walked_as s a
walked-not s q k = ap Err k ∙ ap (walked_as s) (sym q)

-- the call gives back the breach that was found
pub given-back : {A : Type 0} (s : List ℕ) (r : Result A Breach) {a : Result A Refusal} {Q : Breach → Refusal → Type 0} → MatchResult r (λ x. a ≡ Ok x) (λ f. IsErrAnd a (Q f))
    → ((f : Breach) (g : Refusal) → Q f g → g ≡ refusal_at s f.number f.place) → a ≡ refused_in s r
given-back s (Ok x) h w = h
given-back s (Err f) h w = let p = err_from_is_err_and _ h in p.1 ∙ ap Err (w f p.0 p.2)

unmarked : (s : List ℕ) (n : Option Una) (a : Answer) → verdict_as (concluded s n a) ≡ walked_as s a
unmarked s n (read start) = refl
unmarked s n (read (idle u ms)) = refl
unmarked s n (read (busy u ms o)) = refl
unmarked s n (read (done u ms z)) = refl
unmarked s n (refused number place) = refl

told-as : (v : Judged) → told_verdict (verdict_as v) ≡ numbers v
told-as (accepted t) = refl
told-as (refused_with f) = refl

-- what the call promises: the answer, and with it the numbers
pub promised : {r : Result ⊤ Refusal} (v : Judged) → r ≡ verdict_as v → (r ≡ verdict_as v) × (told_verdict r ≡ numbers v)
promised v e = (e, ap told_verdict e ∙ told-as v)

module _ (s : List ℕ) {g : Result Start Breach} (e : g ≡ begun_of s) where
  pub judged-unbegun : {f : Breach} {r : Refusal} → g ≡ Err f → r ≡ refusal_at s f.number f.place
      → (Err r ≡ verdict_as (verdict_of s)) × (told_verdict (Err r) ≡ numbers (verdict_of s))
  judged-unbegun d k = promised (verdict_of s) (ap Err k ∙ ap (λ (b : Result Start Breach). verdict_as (verdict_by s b)) (sym d ∙ e))

  pub judged-walked : {b : Opening} {r : Result ⊤ Refusal} → g ≡ Ok b → r ≡ walked_as s (answer_from b.syntax s b.at)
      → (r ≡ verdict_as (verdict_of s)) × (told_verdict r ≡ numbers (verdict_of s))
  judged-walked {b} d q =
      promised (verdict_of s)
      (q ∙ sym (unmarked s (una_at s) (answer_from b.syntax s b.at)) ∙ sym (ap verdict_as (verdict-by s e d refl)))
