-- The forms of a register, branch by branch.
use Rattle.std.specs.Prelude.{Bool, List, [], false, leb, ltb, negsuc, pos, refl, set, suc, true, zero, ℕ, ◌%◌, ◌*◌, ◌+◌, ◌-◌, ◌/◌, ◌<◌, ◌∷◌, ◌≡◌, ◌≤◌}
use Rattle.std.proofs.Common.{ap, arith, le-ltb, leb-false, leb-true, lt-ltb, sym, ◌∙◌}
use Rattle.grammar.specs.Grams.{below, magnitude, signed}
use Rattle.seven.specs.Groups.{shortest}
use Rattle.writing.specs.Laid.{Laid}
use Rattle.writing.specs.LaidLaws.{laid_none, laid_same}
use Rattle.forms.specs.declared.Form.{Form}
use Rattle.forms.specs.declared.Form.TheVariants.{Old, Signed, Small}
use Rattle.forms.specs.declared.Entry.{Entry}
use Rattle.forms.specs.Forms.{doubled, grams_number, grams_of, highest, large, mark, number_text}

pub four-laid : (n : ℕ) {a b c d : ℕ} {out out' : List ℕ} {at r : ℕ} → a ≡ n / 16777216 % 256 → b ≡ n / 65536 % 256 → c ≡ n / 256 % 256 → d ≡ n / 1 % 256
    → Laid out at (a ∷ b ∷ c ∷ d ∷ []) r out' → Laid out at (highest 4 n) r out'
four-laid n e f g h l = laid_same (rw (e, f, g, h)) l

pub eight-laid : (n : ℕ) {a b c d i j k m : ℕ} {out out' : List ℕ} {at r : ℕ} → a ≡ n / 72057594037927936 % 256 → b ≡ n / 281474976710656 % 256 → c ≡ n / 1099511627776 % 256 → d ≡ n / 4294967296 % 256
    → i ≡ n / 16777216 % 256 → j ≡ n / 65536 % 256 → k ≡ n / 256 % 256 → m ≡ n / 1 % 256
    → Laid out at (a ∷ b ∷ c ∷ d ∷ i ∷ j ∷ k ∷ m ∷ []) r out' → Laid out at (highest 8 n) r out'
eight-laid n e f g h e' f' g' h' l = laid_same (rw (e, f, g, h, e', f', g', h')) l

module _ (f : Form) (k n : ℕ) {out : List ℕ} {at r : ℕ} {out' : List ℕ} where
  pub laid-small : f ≡ Small → Laid out at (shortest n) r out' × (r ≤ at + 10) → Laid out at (number_text f k n) r out' × (r ≤ at + 10)
  unfolding number_text
  laid-small e l = (rw e l.0, l.1)

  pub laid-signed : f ≡ Signed → Laid out at (shortest n) r out' × (r ≤ at + 10) → Laid out at (number_text f k n) r out' × (r ≤ at + 10)
  unfolding number_text
  laid-signed e l = (rw e l.0, l.1)

pub mark-laid-old : (f : Form) (out : List ℕ) → f ≡ Old → Laid out 0 (mark f) 0 out × (0 ≤ 1)
mark-laid-old f out e = (rw e laid_none, omega arith)

pub mark-laid-small : (f : Form) (out out' : List ℕ) → f ≡ Small → out' ≡ set out 0 2 → Laid out 0 (mark f) 1 out' × (1 ≤ 1)
mark-laid-small f out out' e h = (rw e (record { place = refl; octets = h }), omega arith)

pub mark-laid-signed : (f : Form) (out out' : List ℕ) → f ≡ Signed → out' ≡ set out 0 3 → Laid out 0 (mark f) 1 out' × (1 ≤ 1)
mark-laid-signed f out out' e h = (rw e (record { place = refl; octets = h }), omega arith)

clash : true ≡ false → ⊥
clash e = let z : ◌≡◌ {A = ℕ} 0 1 = cc in absurd (omega arith)

pub below-told : (b : Bool) (n : ℕ) → b ≡ true → ltb 0 n ≡ below (signed b n)
below-told true zero e = refl
below-told true (suc n) e = lt-ltb 0 (suc n) (omega arith)
below-told false n e = absurd (clash (sym e))

below-is : (b : Bool) (n : ℕ) → below (signed b n) ≡ true → (signed b n ≡ negsuc (n - 1)) × (1 ≤ n)
below-is true zero e = absurd (clash (sym e))
below-is true (suc n) e = (ap negsuc (omega arith), omega arith)
below-is false n e = absurd (clash (sym e))

above-is : (b : Bool) (n : ℕ) → below (signed b n) ≡ false → signed b n ≡ pos n
above-is true zero e = refl
above-is true (suc n) e = absurd (clash e)
above-is false n e = refl

magnitude-is : (b : Bool) (n : ℕ) → magnitude (signed b n) ≡ n
magnitude-is true zero = refl
magnitude-is true (suc n) = refl
magnitude-is false n = refl

module _ (e : Entry) {b : Bool} (r : b ≡ below (grams_of e)) where
  pub over_below : b ≡ true → ltb 9223372036854775808 e.grams ≡ large Signed (grams_of e)
  over_below h = let k = below-is e.below e.grams (sym r ∙ h) in rw k.0 (by (leb 9223372036854775808 (e.grams - 1)) refl k.1)
    where
      by : (t : Bool) → leb 9223372036854775808 (e.grams - 1) ≡ t → 1 ≤ e.grams → ltb 9223372036854775808 e.grams ≡ t
      by true d l = let z = leb-true 9223372036854775808 (e.grams - 1) d in lt-ltb 9223372036854775808 e.grams (omega arith)
      by false d l = let z = leb-false 9223372036854775808 (e.grams - 1) d in le-ltb 9223372036854775808 e.grams (omega arith)

  pub over-above : b ≡ false → leb 9223372036854775808 e.grams ≡ large Signed (grams_of e)
  over-above h = rw (above-is e.below e.grams (sym r ∙ h))

  module _ (l : large Signed (grams_of e) ≡ false) where
    pub twice-below : b ≡ true → (1 ≤ e.grams) × (e.grams ≤ 9223372036854775808)
    twice-below h =
        let k = below-is e.below e.grams (sym r ∙ h) in
        let d : leb 9223372036854775808 (e.grams - 1) ≡ false = sym (ap (large Signed) k.0) ∙ l in
        let z : e.grams - 1 < 9223372036854775808 = leb-false _ _ d in
        (k.1, omega (arith, k.1))

    pub twice-above : b ≡ false → e.grams < 9223372036854775808
    twice-above h = leb-false _ _ (sym (ap (large Signed) (above-is e.below e.grams (sym r ∙ h))) ∙ l)

  pub doubled-below : b ≡ true → (e.grams - 1) * 2 + 1 ≡ doubled (grams_of e)
  doubled-below h = let k = below-is e.below e.grams (sym r ∙ h) in rw k.0 (omega arith)

  pub doubled-above : b ≡ false → e.grams * 2 ≡ doubled (grams_of e)
  doubled-above h = rw (above-is e.below e.grams (sym r ∙ h)) (omega arith)

module _ (f : Form) (e : Entry) where
  pub number-old : f ≡ Old → e.grams ≡ grams_number f (grams_of e)
  number-old d = rw d (sym (magnitude-is e.below e.grams))

  pub number_small : f ≡ Small → e.grams ≡ grams_number f (grams_of e)
  number_small d = rw d (sym (magnitude-is e.below e.grams))

  pub signed-fits : f ≡ Signed → large f (grams_of e) ≡ false → large Signed (grams_of e) ≡ false
  signed-fits d h = sym (ap (λ (g : Form). large g (grams_of e)) d) ∙ h
