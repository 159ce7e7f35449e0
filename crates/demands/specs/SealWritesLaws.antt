-- A call that writes a text and answers its length has written it, and it is not too long.
use Rattle.std.specs.Prelude.{ℕ, ◌≤◌, ◌≡◌, refl, List, ◌++◌, Bool, true, false, cond, ltb, length, take, drop, Ok}
use Rattle.std.proofs.Common.{arith, ap, ◌∙◌, sym, ltb-false}
use Rattle.std.proofs.Math.Seq.{take-append_seam}
use Rattle.writing.specs.Written.{Text, text, no_text, refused_as, Writes}
use Rattle.writing.specs.WrittenLaws.{length-told}

pub writes-so : (t : Text) (out : List ℕ) (k : ℕ) (out' : List ℕ) → Writes t out (Ok k) out' → (t ≡ text (take k out')) × ((length (take k out') ≡ k) × (k ≤ 65535))
writes-so (no_text f) out k out' w = length-told w.answer
writes-so (text x) out k out' w = by (ltb 65535 (length x)) refl (ltb (length out) (length x)) w.answer w.octets
  where
    by : (a : Bool) → ltb 65535 (length x) ≡ a → (b : Bool) → Ok k ≡ cond (cond a true b) (refused_as 15) (Ok (length x)) → out' ≡ cond (cond a true b) out (x ++ drop (length x) out)
        → (text x ≡ text (take k out')) × ((length (take k out') ≡ k) × (k ≤ 65535))
    by true d b e o = length-told e
    by false d true e o = length-told e
    by false d false e o =
        let n : k ≡ length x = cc in
        let f : take k out' ≡ x = ap (λ (j : ℕ). take j out') n ∙ ap (take (length x)) o ∙ take-append_seam x (drop (length x) out) in
        (ap text (sym f), (ap length f ∙ sym n, omega (arith, n, ltb-false 65535 (length x) d)))
