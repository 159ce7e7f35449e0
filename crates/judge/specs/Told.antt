-- The verdict as the call answers it, and the paper's number and place for each case of the answer.
use Rattle.syntax.specs.declared.Breach.{Breach}
use Rattle.syntax.specs.declared.Refusal.{Refusal}
use Rattle.syntax.specs.Refusals.{refusal_at}
use Rattle.std.specs.Prelude.{ℕ, ⊤, List, [], ◌∷◌, Result, Ok, Err}
use Rattle.std.proofs.Math.Option.{none}
use Rattle.grammar.specs.Verdict.{Verdict as Judged, accepted, refused_with, Answer, concluded}

-- "a verdict enum carries a refusal struct": its number, place and segment; of an accepted interchange the reading is not handed out
abbrev pub verdict_as : Judged → Result ⊤ Refusal
verdict_as (accepted t) = Ok tt
verdict_as (refused_with f) = Err f

-- a breach in s as the call gives it back
abbrev pub refused_in : {A : Type 0} → List ℕ → Result A Breach → Result A Refusal
refused_in s (Ok x) = Ok x
refused_in s (Err f) = Err (refusal_at s f.number f.place)

-- of a walk over s that has ended; UNA has no part in it
abbrev pub walked_as : List ℕ → Answer → Result ⊤ Refusal
walked_as s a = verdict_as (concluded s none a)

-- the paper's number and place, and the segment; 0 where there is none
abbrev pub told_verdict : Result ⊤ Refusal → List ℕ
told_verdict (Ok tt) = 0 ∷ 0 ∷ 0 ∷ []
told_verdict (Err f) = f.number ∷ f.place ∷ f.segment ∷ []
