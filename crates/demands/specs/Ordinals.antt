-- Which segment a refusal names, told without counting: what stands before its place.
use Rattle.std.specs.Prelude.{ℕ, suc, ◌+◌, ◌≤◌, List, ◌≡◌, T, length, Some, Ok}
use Rattle.std.proofs.Math.Seq.{slice}
use Rattle.syntax.specs.Service.{without_repetition}
use Rattle.syntax.specs.Cutting.{end_at}
use Rattle.syntax.specs.Opening.{opening_of}
use Rattle.syntax.specs.Tree.{Segment, print, well}
use Rattle.syntax.specs.declared.Refusal.{Refusal}
use Rattle.syntax.specs.declared.Service.{Service}
use Rattle.syntax.specs.declared.opening.Opening.{Opening}

-- "the ordinal of the segment at the place: UNB is 1, UNA counts as none, and an end of input counts as the next ordinal"
pub record SegmentAt (s : List ℕ) (f : Refusal) : Type 0 where
  -- where UNB stands, behind UNA's octets if there is a UNA; and the service characters in force, as UNA or the standard names them, the repetition aside
  pub opening : Opening
  pub opened : opening_of s ≡ Ok opening
  pub σ : Service
  pub in-force : without_repetition σ ≡ without_repetition opening.service
  -- from UNB up to `start` stand whole segments, one fewer than the ordinal
  pub segments : List Segment
  pub written : T (well σ segments)
  pub start : ℕ
  pub start_is : start ≡ opening.at + length (print σ segments)
  pub octets : slice opening.at start s ≡ print σ segments
  pub ordinal : f.segment ≡ suc (length segments)
  -- the place is there; 3 is told of an octet inside the segment that starts there
  pub at : (f.number ≡ 3 → ⊥) → f.place ≡ start
  pub inside : f.number ≡ 3 → (start ≤ f.place) × ((e : ℕ) × ((end_at σ s start ≡ Some e) × (f.place ≤ e)))
