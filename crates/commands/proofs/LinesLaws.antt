-- Where the first word of a line ends.
use Rattle.std.proofs.Common.{◌≡◌, ◌≢◌, ◌↔◌, ◌==◌, Bool, true, false, Option, None, Some, is_some, not, sym, IsTrue, Bor, ℕ, zero, suc, ◌<◌, cond, List, [], ◌∷◌, length, get_or, take, drop, refl, ap, ◌∙◌, arith}
use Rattle.std.proofs.lemmas.Bool.{eq-eqb, ne_eqb, false≢true}
use Rattle.commands.specs.Lines.{onto_first, words, words_left}

pub words_at : (xs : List ℕ) (i : ℕ) → i < length xs → get_or xs i 0 ≡ 32 → ((k : ℕ) → k < i → get_or xs k 0 ≢ 32) → words xs ≡ take i xs ∷ words (drop (suc i) xs)
words_at [] i inside space before = absurd (omega arith)
words_at (b ∷ bs) zero inside space before =
    ap (λ t. cond t ([] ∷ words bs) (onto_first b (words bs))) (eq-eqb b 32 space)
words_at (b ∷ bs) (suc i) inside space before =
    ap (λ t. cond t ([] ∷ words bs) (onto_first b (words bs))) (ne_eqb b 32 (before 0 (omega arith)))
    ∙ ap (onto_first b) (words_at bs i (omega arith) space (λ k below. before (suc k) (omega arith)))

pub words_whole : (xs : List ℕ) → ((k : ℕ) → k < length xs → get_or xs k 0 ≢ 32) → words xs ≡ xs ∷ []
words_whole [] none = refl
words_whole (b ∷ bs) none =
    ap (λ t. cond t ([] ∷ words bs) (onto_first b (words bs))) (ne_eqb b 32 (none 0 (omega arith)))
    ∙ ap (onto_first b) (words_whole bs (λ k below. none (suc k) (omega arith)))

some_word : (t : Bool) (b : ℕ) (ws : List (List ℕ)) → cond t ([] ∷ ws) (onto_first b ws) ≡ [] → ⊥
some_word true b ws e = omega (arith, ap length e)
some_word false b [] e = omega (arith, ap length e)
some_word false b (w ∷ ws) e = omega (arith, ap length e)

-- A line has a word.
pub words_some : (xs : List ℕ) → words xs ≡ [] → ⊥
words_some [] e = omega (arith, ap length e)
words_some (b ∷ bs) e = some_word (b == 32) b (words bs) e

-- Nothing is left exactly where no words are.
pub over_is : (m : Option (Bor (List ℕ))) (b : Bool) → not b ≡ is_some m → IsTrue b ↔ (words_left m ≡ [])
over_is None true h = (λ e. refl, λ e. refl)
over_is None false h = absurd (false≢true (sym h))
over_is (Some l) true h = absurd (false≢true h)
over_is (Some l) false h = (λ e. absurd (false≢true e), λ e. absurd (words_some l.now e))
