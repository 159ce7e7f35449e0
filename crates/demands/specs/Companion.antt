-- "Range calls hand back the caller's own octets .. A companion call gives start and end. On refusal the part is empty and starts at 0". A call that hands back a
-- part tells no number of its own: it is the companion's start and end that the part has.
use Rattle.std.specs.Prelude.{ℕ, ◌≡◌, List, [], ◌∷◌, drop}
use Rattle.std.proofs.Math.Seq.{slice}
use Rattle.syntax.specs.declared.Refusal.{Refusal}
use Rattle.groups.specs.Calls.{Answered, refused_as}
use Rattle.ranges.specs.Ranges.{Parts, Run}
use Rattle.ranges.specs.Told.{part_numbers, run_numbers, header_part, body_part, run_part, start_of, end_of}

-- the companion's own numbers: those behind the refusal's
abbrev pub own : List ℕ → List ℕ
own numbers = drop 3 numbers

-- a part of s that is empty and starts at 0
abbrev pub Empty : List ℕ → Run → Type 0
Empty s p = (start_of p ≡ 0) × (slice (start_of p) (end_of p) s ≡ [])

-- scope 1: what `scope1_places` tells, and the parts that `scope1_header` and `scope1_body` hand back of s
pub record Companion1 (s : List ℕ) (x : Answered Parts) : Type 0 where
  pub told : own (part_numbers x) ≡ start_of (header_part x) ∷ end_of (header_part x) ∷ start_of (body_part x) ∷ end_of (body_part x) ∷ []
  pub refused : (f : Refusal) → x ≡ refused_as f → Empty s (header_part x) × Empty s (body_part x)

-- scope 2, F01 and scope 3: what `scope2_places`, `f01_places` or `scope3_places` tells, and the part that `scope2_run`, `f01_run` or `scope3_run` hands back of s
pub record CompanionRun (s : List ℕ) (x : Answered Run) : Type 0 where
  pub told : own (run_numbers x) ≡ start_of (run_part x) ∷ end_of (run_part x) ∷ []
  pub refused : (f : Refusal) → x ≡ refused_as f → Empty s (run_part x)
