-- How long the parts of a register are, and that they are laid by their form.
use Rattle.std.specs.Prelude.{ℕ, zero, suc, ◌+◌, ◌-◌, ◌*◌, ◌/◌, ◌≤◌, ◌<◌, Bool, true, false, ◌||◌, List, [], ◌∷◌, ◌++◌, ◌≡◌, refl, length, take, drop, ◌⊎◌}
use Rattle.std.proofs.Common.{arith, append_assoc, take_all, ap, sym, ◌∙◌, length-append}
use Rattle.std.proofs.lemmas.Bool.{lt-leb}
use Rattle.std.specs.Int.{to_be_bytes}
use Rattle.std.proofs.Common.{inl, inr, w64}
use Rattle.grammar.specs.Grams.{signed, below}
use Rattle.seven.specs.Groups.{shortest}
use Rattle.seven.specs.WriteLaws.{shortest-few}
use Rattle.writing.specs.Laid.{Laid}
use Rattle.writing.specs.LaidLaws.{laid_same}
use Rattle.forms.specs.declared.Form.{Form}
use Rattle.forms.specs.declared.Form.TheVariants.{Old, Small, Signed}
use Rattle.forms.specs.declared.Entry.{Entry}
use Rattle.forms.specs.Forms.{highest, number_text, grams_of, grams_number, entry_text, entries_text, mark, count_text, large, any_below}

-- ---- lengths: what a form takes at most

pub highest-length : (k n : ℕ) → length (highest k n) ≡ k
highest-length zero n = refl
highest-length (suc k) n = ap suc (highest-length k n)

number-few : (f : Form) (k n : ℕ) → k ≤ 10 → length (number_text f k n) ≤ 10
unfolding number_text
number-few Old k n h = omega (arith, highest-length k n)
number-few Small k n h = shortest-few n
number-few Signed k n h = shortest-few n

four-parts : (a b c d : List ℕ) → length (a ++ b ++ c ++ d) ≡ length a + length b + length c + length d
four-parts a b c d = omega (arith, length-append (a ++ b ++ c) d, length-append (a ++ b) c, length-append a b)

mark-short : (f : Form) → length (mark f) ≤ 1
mark-short Old = omega arith
mark-short Small = omega arith
mark-short Signed = omega arith

pub count-short : (f : Form) (n : ℕ) → length (count_text f n) ≤ 11
count-short f n = omega (arith, length-append (mark f) (number_text f 4 n), mark-short f, number-few f 4 n (omega arith))

entry-short : (f : Form) (e : Entry) → length (entry_text f e) ≤ 40
entry-short f e =
    omega (
      arith,
      four-parts (number_text f 4 e.place) (number_text f 4 e.length) (number_text f 4 e.loads) (number_text f 8 (grams_number f (grams_of e))),
      number-few f 4 e.place (omega arith),
      number-few f 4 e.length (omega arith),
      number-few f 4 e.loads (omega arith),
      number-few f 8 (grams_number f (grams_of e)) (omega arith),
    )

pub entries-short : (f : Form) (es : List Entry) → length (entries_text f es) ≤ 40 * length es
entries-short f [] = omega arith
entries-short f (e ∷ es) = omega (arith, length-append (entry_text f e) (entries_text f es), entry-short f e, entries-short f es)

-- ---- entries one after the other

pub entries-joined : (f : Form) (es gs : List Entry) → entries_text f (es ++ gs) ≡ entries_text f es ++ entries_text f gs
entries-joined f [] gs = refl
entries-joined f (e ∷ es) gs = ap (λ (t : List ℕ). entry_text f e ++ t) (entries-joined f es gs) ∙ sym (append_assoc (entry_text f e) (entries_text f es) (entries_text f gs))

-- ---- numbers in octets, laid

lowest-of : (j m k n : ℕ) → m ≡ j + k → drop j (highest m n) ≡ highest k n
lowest-of zero m k n e = ap (λ (i : ℕ). highest i n) (omega arith)
lowest-of (suc j) zero k n e = absurd (omega arith)
lowest-of (suc j) (suc m) k n e = lowest-of j m k n (omega arith)

-- of the octets of a number below 2^64 the last k
pub octets-laid : (k n : ℕ) {b : List ℕ} {out out' : List ℕ} {at r : ℕ} → k ≤ 8 → b ≡ to_be_bytes w64 n → Laid out at (take (8 - (8 - k)) (drop (8 - k) b)) r out' → Laid out at (highest k n) r out'
octets-laid k n {b} h e l =
    let z : n / 1 ≡ n = omega arith in
    let w : b ≡ highest 8 n = rw z e in
    let d : drop (8 - k) b ≡ highest k n = ap (drop (8 - k)) w ∙ lowest-of (8 - k) 8 k n (omega arith) in
    laid_same (ap (take (8 - (8 - k))) d ∙ take_all (8 - (8 - k)) (highest k n) (omega (arith, highest-length k n))) l

-- ---- a number by its form, as the code has it

module _ (f : Form) (k n : ℕ) {out : List ℕ} {at r : ℕ} {out' : List ℕ} where
  pub laid-old : f ≡ Old → k ≤ 10 → Laid out at (highest k n) r out' → Laid out at (number_text f k n) r out' × (r ≤ at + 10)
  unfolding number_text
  laid-old e h l = (rw e l, omega (arith, l.place, highest-length k n))

  pub laid-new : (f ≡ Small) ⊎ (f ≡ Signed) → Laid out at (shortest n) r out' × (r ≤ at + 10) → Laid out at (number_text f k n) r out' × (r ≤ at + 10)
  unfolding number_text
  laid-new (inl e) l = (rw e l.0, l.1)
  laid-new (inr e) l = (rw e l.0, l.1)

-- ---- grams

-- those below 2^63 are in every form
pub light-fits : (f : Form) (e : Entry) → e.grams < 9223372036854775808 → large f (grams_of e) ≡ false
light-fits Old e h = refl
light-fits Small e h = refl
light-fits Signed e h = by e.below e.grams h
  where
    by : (b : Bool) (n : ℕ) → n < 9223372036854775808 → large Signed (signed b n) ≡ false
    by true zero h = refl
    by true (suc n) h = lt-leb 9223372036854775808 n (omega arith)
    by false n h = lt-leb 9223372036854775808 n h

pub grams-laid : (f : Form) {n k : ℕ} {out : List ℕ} {at r : ℕ} {out' : List ℕ} → n ≡ k → Laid out at (number_text f 8 n) r out' → Laid out at (number_text f 8 k) r out'
grams-laid f e l = laid_same (ap (number_text f 8) e) l

-- ---- whether a total is below zero, of entries one after the other

pub below_more : (es fs : List Entry) → any_below (es ++ fs) ≡ (any_below es || any_below fs)
below_more [] fs = refl
below_more (e ∷ es) fs = by (below (grams_of e)) (below_more es fs)
  where
    by : (b : Bool) → any_below (es ++ fs) ≡ (any_below es || any_below fs) → (b || any_below (es ++ fs)) ≡ (b || any_below es || any_below fs)
    by true h = refl
    by false h = h

pub or-false : (b : Bool) → (b || false) ≡ b
or-false true = refl
or-false false = refl
