-- The grams number of each form: what is written is read back, what is read was written so, and which grams a form holds.
use Rattle.std.specs.Prelude.{ℕ, zero, suc, ◌-◌, ◌*◌, ◌/◌, ◌%◌, ◌≤◌, ◌<◌, Bool, true, false, cond, ◌||◌, List, [], ◌∷◌, ◌++◌, ◌≡◌, refl, T, ltb, eqb, pos, negsuc}
use Rattle.std.proofs.Common.{arith, sym, ap, subst, lt-ltb, ltb-true, leb-false, eq-eqb, ne_eqb, eqb-true}
use Rattle.std.proofs.lemmas.Bool.{lt-leb, eqb-false}
use Rattle.syntax.specs.Refusals.{at_zero}
use Rattle.syntax.proofs.TreeLaws.{is_true}
use Rattle.grammar.specs.Grams.{Grams, below, magnitude}
use Rattle.grammar.specs.WeighedLaws.{signed_back}
use Rattle.writing.specs.Written.{text, no_text}
use Rattle.forms.specs.declared.Form.{Form}
use Rattle.forms.specs.declared.Form.TheVariants.{Old, Small, Signed}
use Rattle.forms.specs.declared.Entry.{Entry}
use Rattle.forms.specs.Forms.{grams_of, entry, doubled, grams_number, register_text, large, sign_lost, any_below, text_in}
use Rattle.moves.specs.Stored.{stored, halved, grams_by, any_large, moved_to, holds, AllFit}

clash : true ≡ false → ⊥
clash e = let z : ◌≡◌ {A = ℕ} 0 1 = cc in absurd (omega arith)

true-so : {b : Bool} → b ≡ true → T b
true-so e = subst T (sym e) tt

-- ---- doubled and halved: each number stands for one total, and each total for one number

pub doubled-back : (z : Grams) → halved (doubled z) ≡ z
doubled-back (pos n) = let h : 2 * n % 2 ≡ 1 → ⊥ = λ e. omega arith in rw (ne_eqb (2 * n % 2) 1 h) (ap pos (omega arith))
doubled-back (negsuc n) = rw (eq-eqb ((2 * suc n - 1) % 2) 1 (omega arith)) (ap negsuc (omega arith))

parity : (n : ℕ) → eqb (n % 2) 1 ≡ false → n % 2 ≡ 0
parity n e = by (n % 2) (omega arith) (eqb-false (n % 2) 1 e)
  where
    by : (x : ℕ) → x < 2 → (x ≡ 1 → ⊥) → x ≡ 0
    by zero l k = refl
    by (suc zero) l k = absurd (k refl)
    by (suc (suc x)) l k = absurd (omega arith)

pub halved-back : (n : ℕ) → doubled (halved n) ≡ n
halved-back n = by (eqb (n % 2) 1) refl
  where
    by : (t : Bool) → eqb (n % 2) 1 ≡ t → doubled (cond t (negsuc (n / 2)) (pos (n / 2))) ≡ n
    by true e = let o : n % 2 ≡ 1 = eqb-true (n % 2) 1 e in omega arith
    by false e = let o : n % 2 ≡ 0 = parity n e in omega arith

-- ---- grams below 2^63 are in form 3

pub light-held : (z : Grams) → magnitude z < 9223372036854775808 → T (holds Signed z)
light-held (pos n) h = true-so (lt-ltb n 9223372036854775808 h)
light-held (negsuc n) h = true-so (lt-ltb n 9223372036854775808 (omega arith))

-- ---- the number of a form

pub number-back-to : (f : Form) (n : ℕ) → grams_number f (grams_by f n) ≡ n
number-back-to Old n = refl
number-back-to Small n = refl
number-back-to Signed n = halved-back n

pub read_held : (f : Form) (n : ℕ) → n ≤ 18446744073709551615 → T (holds f (grams_by f n))
read_held Old n h = true-so (lt-ltb n 18446744073709551616 (omega arith))
read_held Small n h = true-so (lt-ltb n 18446744073709551616 (omega arith))
read_held Signed n h = by (eqb (n % 2) 1)
  where
    by : (t : Bool) → T (holds Signed (cond t (negsuc (n / 2)) (pos (n / 2))))
    by true = true-so (lt-ltb (n / 2) 9223372036854775808 (omega arith))
    by false = true-so (lt-ltb (n / 2) 9223372036854775808 (omega arith))

below-limit : (n m : ℕ) → T (ltb n m) → n < m
below-limit n m h = ltb-true n m (is_true (ltb n m) h)

pub held_back : (f : Form) (z : Grams) → T (holds f z) → (grams_number f z ≤ 18446744073709551615) × (grams_by f (grams_number f z) ≡ z)
held_back Old (pos n) h = let l = below-limit n 18446744073709551616 h in (omega arith, refl)
held_back Old (negsuc n) h = absurd h
held_back Small (pos n) h = let l = below-limit n 18446744073709551616 h in (omega arith, refl)
held_back Small (negsuc n) h = absurd h
held_back Signed (pos n) h = let l = below-limit n 9223372036854775808 h in (omega arith, doubled-back (pos n))
held_back Signed (negsuc n) h = let l = below-limit n 9223372036854775808 h in (omega arith, doubled-back (negsuc n))

-- ---- what a form holds is not refused in it

pub held_small : (f : Form) (z : Grams) → T (holds f z) → large f z ≡ false
held_small Old z h = refl
held_small Small z h = refl
held_small Signed (pos n) h = lt-leb 9223372036854775808 n (below-limit n 9223372036854775808 h)
held_small Signed (negsuc n) h = lt-leb 9223372036854775808 n (below-limit n 9223372036854775808 h)

pub held-sign : (f : Form) (z : Grams) → T (holds f z) → sign_lost f (below z) ≡ false
held-sign Old (pos n) h = refl
held-sign Old (negsuc n) h = absurd h
held-sign Small (pos n) h = refl
held-sign Small (negsuc n) h = absurd h
held-sign Signed z h = refl

-- .. and what one form holds and another does not refuse, the other holds too
pub held-too : (f g : Form) (z : Grams) → T (holds f z) → large g z ≡ false → sign_lost g (below z) ≡ false → T (holds g z)
held-too f Old z h l s = plain f z h s
  where
    plain : (f : Form) (z : Grams) → T (holds f z) → below z ≡ false → T (holds Old z)
    plain Old z h s = h
    plain Small (pos n) h s = h
    plain Small (negsuc n) h s = absurd h
    plain Signed (pos n) h s = let k = below-limit n 9223372036854775808 h in true-so (lt-ltb n 18446744073709551616 (omega arith))
    plain Signed (negsuc n) h s = absurd (clash s)
held-too f Small z h l s = plain f z h s
  where
    plain : (f : Form) (z : Grams) → T (holds f z) → below z ≡ false → T (holds Small z)
    plain Old (pos n) h s = h
    plain Old (negsuc n) h s = absurd h
    plain Small z h s = h
    plain Signed (pos n) h s = let k = below-limit n 9223372036854775808 h in true-so (lt-ltb n 18446744073709551616 (omega arith))
    plain Signed (negsuc n) h s = absurd (clash s)
held-too f Signed (pos n) h l s = true-so (lt-ltb n 9223372036854775808 (leb-false 9223372036854775808 n l))
held-too f Signed (negsuc n) h l s = true-so (lt-ltb n 9223372036854775808 (leb-false 9223372036854775808 n l))

-- ---- over the entries

neither : (a b : Bool) → (a || b) ≡ false → (a ≡ false) × (b ≡ false)
neither true b e = absurd (clash e)
neither false b e = (refl, e)

sign-neither : (g : Form) (a b : Bool) → sign_lost g (a || b) ≡ false → (sign_lost g a ≡ false) × (sign_lost g b ≡ false)
sign-neither Old a b e = neither a b e
sign-neither Small a b e = neither a b e
sign-neither Signed a b e = (refl, refl)

sign-both : (g : Form) (a b : Bool) → sign_lost g a ≡ false → sign_lost g b ≡ false → sign_lost g (a || b) ≡ false
sign-both Old a b d e = rw d e
sign-both Small a b d e = rw d e
sign-both Signed a b d e = refl

pub all_small : (f : Form) (es : List Entry) → AllFit f es → any_large f es ≡ false
all_small f [] a = refl
all_small f (e ∷ es) a = rw (held_small f (grams_of e) a.0.grams) (all_small f es a.1)

-- what form 3 holds is too large for none
pub any_small : (g : Form) (es : List Entry) → AllFit Signed es → any_large g es ≡ false
any_small Old [] a = refl
any_small Old (e ∷ es) a = any_small Old es a.1
any_small Small [] a = refl
any_small Small (e ∷ es) a = any_small Small es a.1
any_small Signed es a = all_small Signed es a

pub all-sign : (f : Form) (es : List Entry) → AllFit f es → sign_lost f (any_below es) ≡ false
all-sign Old [] a = refl
all-sign Small [] a = refl
all-sign Signed [] a = refl
all-sign f (e ∷ es) a = sign-both f (below (grams_of e)) (any_below es) (held-sign f (grams_of e) a.0.grams) (all-sign f es a.1)

pub all-too : (f g : Form) (es : List Entry) → AllFit f es → any_large g es ≡ false → sign_lost g (any_below es) ≡ false → AllFit g es
all-too f g [] a l s = tt
all-too f g (e ∷ es) a l s =
    let m = neither (large g (grams_of e)) (any_large g es) l in
    let k = sign-neither g (below (grams_of e)) (any_below es) s in
    let d = a.0 in
    (record { place = d.place; length = d.length; loads = d.loads; grams = held-too f g (grams_of e) d.grams m.0 k.0; plain = d.plain }, all-too f g es a.1 m.1 k.1)

-- ---- entries that fit are moved as their text, and what is moved as a text fits

pub fit-moved : (g : Form) (es : List Entry) → AllFit g es → moved_to g (stored es) ≡ text (register_text g es)
fit-moved g es a = rw (all_small g es a, all-sign g es a)

pub moved_fit : (f g : Form) (es : List Entry) {t : List ℕ} → AllFit f es → moved_to g (stored es) ≡ text t → AllFit g es × (register_text g es ≡ t)
moved_fit f g es {t} a w = by (any_large g es) refl w
  where
    on : (b : Bool) → sign_lost g (any_below es) ≡ b → any_large g es ≡ false → cond b (no_text (at_zero 19)) (text (register_text g es)) ≡ text t → AllFit g es × (register_text g es ≡ t)
    on true e l w = let z : ◌≡◌ {A = ℕ} 0 1 = cc in absurd (omega arith)
    on false e l w = let z : register_text g es ≡ t = cc in (all-too f g es a l e, z)

    by : (b : Bool) → any_large g es ≡ b → cond b (no_text (at_zero 17)) (text_in g es) ≡ text t → AllFit g es × (register_text g es ≡ t)
    by true e w = let z : ◌≡◌ {A = ℕ} 0 1 = cc in absurd (omega arith)
    by false e w = on (sign_lost g (any_below es)) refl e w

-- ---- an entry that is read has its grams

pub entry-grams : (p l o : ℕ) (z : Grams) → grams_of (entry p l o z) ≡ z
entry-grams p l o z = signed_back z

pub entry-plain : (p l o : ℕ) (z : Grams) → entry p l o (grams_of (entry p l o z)) ≡ entry p l o z
entry-plain p l o z = ap (entry p l o) (signed_back z)

-- ---- the entries one after the other, as the loop goes

pub large-more : (g : Form) (es fs : List Entry) → any_large g (es ++ fs) ≡ (any_large g es || any_large g fs)
large-more g [] fs = refl
large-more g (e ∷ es) fs = by (large g (grams_of e)) (large-more g es fs)
  where
    by : (b : Bool) → any_large g (es ++ fs) ≡ (any_large g es || any_large g fs) → (b || any_large g (es ++ fs)) ≡ (b || any_large g es || any_large g fs)
    by true h = refl
    by false h = h
