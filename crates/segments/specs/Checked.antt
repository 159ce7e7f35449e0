-- A good segment's end lies in the input, at or after its start; and what that and the cursors' laws give to the loops.
use Rattle.std.specs.Prelude.{ℕ, ◌+◌, ◌-◌, ◌≤◌, ◌<◌, List, ◌≡◌, length, drop, Option, Result, Some, Ok, Err}
use Rattle.std.proofs.Common.{arith, sym, ◌∙◌, subst}
use Rattle.syntax.specs.Scanning.{cut_at}
use Rattle.syntax.proofs.CuttingLaws.{CutIn, cut_in}
use Rattle.syntax.specs.Scanning.{next_of}
use Rattle.syntax.proofs.ContentLaws.{next-steps}
use Rattle.syntax.specs.Segment.{edge_at}
use Rattle.syntax.proofs.SegmentLaws.{edge-steps}
use Rattle.syntax.specs.declared.Breach.{Breach}
use Rattle.syntax.specs.declared.Service.{Service}
use Rattle.syntax.specs.declared.Syntax.{Syntax}
use Rattle.syntax.specs.declared.cutting.Cut.{Cut}
use Rattle.syntax.specs.declared.cutting.Cut.TheVariants.{Ends}

abbrev pub CheckedIn : List ℕ → ℕ → Result ℕ Breach → Type 0
CheckedIn s a (Ok e) = (a ≤ e) × (e < length s)
CheckedIn s a (Err f) = Unit {0}

pub refused-in : (s : List ℕ) (a : ℕ) {f : Breach} {r : Result ℕ Breach} → r ≡ Err f → CheckedIn s a r
refused-in s a e = subst (CheckedIn s a) (sym e) tt

pub ends-in : (y : Syntax) (s : List ℕ) (a : ℕ) {e : ℕ} {r : Cut} → r ≡ cut_at y s a → r ≡ Ends e → (a ≤ e) × (e < length s)
ends-in y s a h d = subst (CutIn s a) (sym h ∙ d) (cut_in y s a)

module _ (s : List ℕ) (a : ℕ) {e : ℕ} {r : Result ℕ Breach} (g : CheckedIn s a r) (d : r ≡ Ok e) where
  pub good-in : (a ≤ e) × (e < length s)
  good-in = subst (CheckedIn s a) d g

  pub good-less : length s - (e + 1) < length s - a
  good-less = let w = good-in in omega arith

pub next-less : (ρ : ℕ) (x : List ℕ) (i : ℕ) {b j : ℕ} {r : Option (ℕ × ℕ)} → r ≡ next_of ρ (drop i x) i → r ≡ Some (b, j) → length x - j < length x - i
next-less ρ x i h d = let w = next-steps ρ x i h d in omega arith

module _ (σ : Service) (s : List ℕ) (i : ℕ) {q k : ℕ} {r : Option (ℕ × ℕ)} (h : r ≡ edge_at σ s i) (d : r ≡ Some (q, k)) where
  pub edge_in : (i ≤ q) × (q < length s)
  edge_in = let w = edge-steps σ s i h d in (w.low, w.high)

  pub edge-less : length s - (q + 1) < length s - i
  edge-less = let w = edge_in in omega arith
