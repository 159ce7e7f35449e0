-- SHA-1 fed by parts: what is left behind the whole blocks.
use Rattle.std.specs.Prelude.{List, drop, length, take, ℕ, ◌%◌, ◌*◌, ◌++◌, ◌+◌, ◌-◌, ◌/◌, ◌<◌, ◌≡◌, ◌≤◌}
use Rattle.std.proofs.Common.{arith, length-append, length-take-le, ◌∙◌}
use Rattle.std.proofs.Math.Path.{ap, sym}
use Rattle.std.proofs.Math.Seq.{drop-append-add}
use Rattle.sha.specs.Feeding.{kept, left}

module _ (b part : List ℕ) (k : ℕ) (full : length b ≡ 64) (l : k < 64) where
  front : length (take k b) ≡ k
  front = length-take-le k b (omega (arith, full))

  size : length (take k b ++ part) ≡ k + length part
  size = length-append (take k b) part ∙ ap (λ (n : ℕ). n + length part) front

  module _ (m : 64 - k ≤ length part) where
    behind : (j : ℕ) → k ≤ j → drop j (take k b ++ part) ≡ drop (j - k) part
    behind j g =
        let n : j ≡ length (take k b) + (j - k) = omega (arith, front) in
        ap (λ (i : ℕ). drop i (take k b ++ part)) n ∙ drop-append-add (take k b) part (j - k)

    pub left_behind : {r : List ℕ} → r ≡ kept (drop (length part - (k + length part) % 64) part) → r ≡ kept (left (take k b ++ part))
    left_behind d =
        let n : length part - (k + length part) % 64 ≡ length (take k b ++ part) / 64 * 64 - k = omega (arith, size) in
        d ∙ ap (λ (j : ℕ). kept (drop j part)) n ∙ sym (ap kept (behind (length (take k b ++ part) / 64 * 64) (omega (arith, size))))
