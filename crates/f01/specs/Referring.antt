-- What an AUTACK refers to, as the code tells it.
use Rattle.syntax.specs.declared.Breach.{Breach}
use Rattle.syntax.specs.declared.Refusal.{Refusal}
use Rattle.syntax.specs.Refusals.{refusal_at, at_zero}
use Rattle.groups.specs.declared.named.Range.{Range}
use Rattle.std.specs.Prelude.{ℕ, ◌≡◌, Bool, false, List, Result, Ok, Some, None, Err, Option}
use Rattle.std.proofs.Math.Option.{Option as Maybe, none, some}
use Rattle.std.proofs.Math.Seq.{slice}
use Rattle.syntax.specs.Octets.{same}
use Rattle.syntax.specs.Content.{content, compared}
use Rattle.grammar.specs.Valid.{Interchange}
use Rattle.grammar.specs.Verdict.{accepted, refused_with, verdict_of}
use Rattle.f01.specs.Targets.{Target, target, target_in}
use Rattle.f01.specs.declared.Referred.{Referred}

-- the 0020 and the 0062 that are referred to, read off the octets a of the AUTACK's interchange
abbrev pub target_from : List ℕ → Referred → Target
target_from a x =
    target (compared (content x.release (slice x.interchange.start x.interchange.end a))) (content x.release (slice x.message.start x.message.end a))

abbrev pub referred_in : List ℕ → Result (Option Referred) Refusal → Maybe Target
referred_in a (Ok (Some x)) = some (target_from a x)
referred_in a (Ok None) = none
referred_in a (Err f) = none

-- a run that was sought in s, as the code gives it back
abbrev pub given_by : List ℕ → Result (Option Range) Breach → Result Range Refusal
given_by s (Ok (Some x)) = Ok x
given_by s (Ok None) = Err (at_zero 13)
given_by s (Err f) = Err (refusal_at s f.number f.place)

-- the octets a are read, and this is what their message m with its header r, of this scope code, refers to; or a is refused
abbrev pub Refers : List ℕ → List ℕ → List ℕ → List ℕ → Result (Option Referred) Refusal → Type 0
Refers code a m r (Ok (Some x)) = (i : Interchange) × ((verdict_of a ≡ accepted i) × (target_in code i m r ≡ referred_in a (Ok (Some x))))
Refers code a m r (Ok None) = (i : Interchange) × ((verdict_of a ≡ accepted i) × (target_in code i m r ≡ none))
Refers code a m r (Err f) = verdict_of a ≡ refused_with f

-- the 0020 is this one
abbrev pub is_referred : Maybe Target → List ℕ → Bool
is_referred none t = false
is_referred (some (target k m)) t = same t k
