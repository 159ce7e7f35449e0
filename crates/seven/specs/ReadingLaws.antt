-- The steps of `read`, as the code has them
use Prim.Native.Nat.{ℕ, zero, suc, ◌+◌, ◌-◌, ◌≤◌, ◌<◌}
use Rattle.std.proofs.Math.Numerals.{add-one}
use native.Mathlib.Omega.{arith}
use Rattle.std.specs.Prelude.{◌≡◌, refl, List, [], length, get_or, drop, Option, Some, None}
use Rattle.std.proofs.Math.Path.{ap}
use Rattle.std.proofs.Common.{◌∙◌, drop_of_length-le, drop-cons}
use borrow.Author.Tests.{lt-ltb, le-ltb, le-leb, lt-leb}
use Rattle.seven.specs.Groups.{joined, read_from}

pub step-none : (most : ℕ) (s : List ℕ) (at : ℕ) (left : ℕ) → left ≡ 0 → None ≡ read_from left most (drop at s) at
unfolding read_from
step-none most s at zero e = refl
step-none most s at (suc k) e = absurd (omega arith)

read-empty : (left most at : ℕ) → None ≡ read_from left most [] at
unfolding read_from
read-empty zero most at = refl
read-empty (suc k) most at = refl

pub step_cut : (left most : ℕ) (s : List ℕ) (at : ℕ) → length s ≤ at → None ≡ read_from left most (drop at s) at
step_cut left most s at h = rw (drop_of_length-le s {i = at} h) (read-empty left most at)

module _ (most : ℕ) (s : List ℕ) (at b : ℕ) (within : at < length s) (e : b ≡ get_or s at 0) where
  pub step-last : (left : ℕ) → (left ≡ 0 → ⊥) → b < 128 → b ≤ most → Some (b, at + 1) ≡ read_from left most (drop at s) at
  unfolding read_from
  step-last zero z h l = absurd (z refl)
  step-last (suc k) z h l = rw (drop-cons s at 0 within, ← e, lt-ltb b 128 h, le-leb b most l, add-one at)

  pub step-big : (left : ℕ) → (left ≡ 0 → ⊥) → b < 128 → most < b → None ≡ read_from left most (drop at s) at
  unfolding read_from
  step-big zero z h l = absurd (z refl)
  step-big (suc k) z h l = rw (drop-cons s at 0 within, ← e, lt-ltb b 128 h, lt-leb b most l)

  pub step-more : (left : ℕ) (r x : Option (ℕ × ℕ)) → (left ≡ 0 → ⊥) → 128 ≤ b → x ≡ read_from (left - 1) most (drop (at + 1) s) (at + 1) → r ≡ joined most (b - 128) x → r ≡ read_from left most (drop at s) at
  unfolding read_from
  step-more zero r x z h ex er = absurd (z refl)
  step-more (suc k) r x z h ex er =
      let p : suc k - 1 ≡ k = omega arith in
      let y : x ≡ read_from k most (drop (suc at) s) (suc at) = ex ∙ ap (λ (i : ℕ). read_from (suc k - 1) most (drop i s) i) (add-one at) ∙ ap (λ (i : ℕ). read_from i most (drop (suc at) s) (suc at)) p in
      er ∙ rw (drop-cons s at 0 within, ← e, le-ltb b 128 h, y)
