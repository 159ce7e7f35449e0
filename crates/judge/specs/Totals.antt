-- The totals of the message that a call names.
use Rattle.syntax.specs.declared.Breach.{Breach}
use Rattle.walk.specs.declared.sections.Layout.{Layout}
use Rattle.syntax.specs.declared.Refusal.{Refusal}
use Rattle.judge.specs.declared.totals.Loads.{Loads}
use Rattle.std.specs.Prelude.{ℕ, ◌<◌, List, [], ◌∷◌, Result, Ok, Err, Some, None, Option}
use Rattle.syntax.specs.Refusals.{refusal_at, at_zero}
use Rattle.grammar.specs.Grams.{Grams, no_grams, signed, below, magnitude}
use Rattle.grammar.specs.Verdict.{Totals as Totalled, totalled, refused_totals}

-- of the message found in s; 13 where there is none
abbrev pub totalled_by : List ℕ → Result (Option Layout) Breach → Result Loads Refusal
totalled_by s (Ok (Some c)) = Ok (record { loads = c.loads; grams = c.grams; below = c.below })
totalled_by s (Ok None) = Err (at_zero 13)
totalled_by s (Err f) = Err (refusal_at s f.number f.place)

-- the totals as the call answers them: loads, and grams with their sign; or the refusal
abbrev pub totals_as : Totalled → Result Loads Refusal
totals_as (totalled loads grams) = Ok (record { loads = loads; grams = magnitude grams; below = below grams })
totals_as (refused_totals f) = Err f

-- the paper's number and place, the segment, then loads; 0 where there is none
abbrev pub told_totals : Result Loads Refusal → List ℕ
told_totals (Ok x) = 0 ∷ 0 ∷ 0 ∷ x.loads ∷ []
told_totals (Err f) = f.number ∷ f.place ∷ f.segment ∷ 0 ∷ []

-- and the grams
abbrev pub told_grams : Result Loads Refusal → Grams
told_grams (Ok x) = signed x.below x.grams
told_grams (Err f) = no_grams

-- 65,535 octets hold less than 2^63 grams, so that they go into an `int64_t`
abbrev pub Light : Result Loads Refusal → Type 0
Light (Ok x) = x.grams < 9223372036854775808
Light (Err f) = Unit {0}
