-- D2e: the check of a register accepts exactly what the write writes.
use Rattle.std.specs.Prelude.{ℕ, ◌≤◌, Bool, true, false, cond, List, [], ◌∷◌, ◌++◌, ◌↔◌, ◌≡◌, refl, T, ltb, length, drop, Ok, Err}
use Rattle.std.proofs.Common.{arith, ap, sym, ◌∙◌, subst, ltb-false, le-ltb}
use Rattle.syntax.specs.declared.Refusal.{Refusal}
use Rattle.syntax.specs.Octets.{same}
use Rattle.syntax.specs.Refusals.{at_zero}
use Rattle.syntax.proofs.ContentLaws.{same_self}
use Rattle.grammar.proofs.PlacingLaws.{same-eq}
use Rattle.grammar.specs.Verdict.{Verdict, accepted, refused_with, verdict_of}
use Rattle.writing.specs.Written.{Text, text, no_text, refused_as, Writes}
use Rattle.writing.specs.WrittenLaws.{writes, length-told}
use Rattle.forms.specs.Forms.{text_in}
use Rattle.forms.specs.declared.Form.{Form}
use Rattle.register.specs.Register.{entries_in, register_by, register_of, equal_to, checked_by, told_check, check_numbers}
use Rattle.demands.specs.NumbersLaws.{refused-number}

-- what has the numbers of `Same`: the register itself, where it may be written at all
pub record Accepted (x : Text) (g : List ℕ) : Type 0 where
  pub is : x ≡ text g
  pub short : length g ≤ 65535

-- ---- the check

text-accepted : (x : Text) (g : List ℕ) → told_check (Ok tt) ≡ told_check (equal_to x g) → Accepted x g
text-accepted (no_text f) g e = let z : ◌≡◌ {A = ℕ} 0 13 = cc in absurd (omega arith)
text-accepted (text t) g e = by (ltb 65535 (length t)) (ltb-false 65535 (length t)) (same t g) (λ d. same-eq t g (subst T (sym d) tt)) e
  where
    by : (l : Bool) → (l ≡ false → length t ≤ 65535) → (b : Bool) → (b ≡ true → t ≡ g) → told_check (Ok tt) ≡ told_check (cond l (Err (at_zero 13)) (cond b (Ok tt) (Err (at_zero 13))))
        → Accepted (text t) g
    by true k b f e = let z : ◌≡◌ {A = ℕ} 0 13 = cc in absurd (omega arith)
    by false k false f e = let z : ◌≡◌ {A = ℕ} 0 13 = cc in absurd (omega arith)
    by false k true f e = let h : t ≡ g = f refl in record { is = ap text h; short = subst (λ (x : List ℕ). length x ≤ 65535) h (k refl) }

-- a refusal has no number 0
check-accepted : (f : Form) (s g : List ℕ) → told_check (Ok tt) ≡ check_numbers f s g → Accepted (register_of f s) g
check-accepted f s g e = by (verdict_of s) (refused-number s) e
  where
    by : (v : Verdict) → ((w : Refusal) → v ≡ refused_with w → (1 ≤ w.number) × (w.number ≤ 12)) → told_check (Ok tt) ≡ told_check (checked_by f v g) → Accepted (register_by f v) g
    by (accepted i) h e = text-accepted (text_in f (entries_in i)) g e
    by (refused_with w) h e = let z : 0 ≡ w.number = cc in absurd (omega (arith, z, (h w refl).0))

accepted-checks : (f : Form) (s g : List ℕ) → Accepted (register_of f s) g → told_check (Ok tt) ≡ check_numbers f s g
accepted-checks f s g a = by (verdict_of s) a
  where
    by : (v : Verdict) → Accepted (register_by f v) g → told_check (Ok tt) ≡ told_check (checked_by f v g)
    by (accepted i) a = sym (ap (λ (x : Text). told_check (equal_to x g)) a.is ∙ rw (le-ltb 65535 (length g) a.short, same_self g))
    by (refused_with w) a = let z : no_text w ≡ text g = a.is in let y : ◌≡◌ {A = ℕ} 0 1 = cc in absurd (omega arith)

-- ---- the write

accepted-writes : {x : Text} {g out : List ℕ} → length g ≤ length out → Accepted x g → Writes x out (Ok (length g)) (g ++ drop (length g) out)
accepted-writes {x} {g} {out} h a =
    subst (λ (x : Text). Writes x out (Ok (length g)) (g ++ drop (length g) out)) (sym a.is)
    (writes (rw (le-ltb 65535 (length g) a.short, le-ltb (length out) (length g) h)) (rw (le-ltb 65535 (length g) a.short, le-ltb (length out) (length g) h)))

front : (a b x y : List ℕ) → length a ≡ length b → a ++ x ≡ b ++ y → a ≡ b
front [] [] x y l e = refl
front [] (c ∷ b) x y l e = absurd (omega (arith, l))
front (c ∷ a) [] x y l e = absurd (omega (arith, l))
front (c ∷ a) (d ∷ b) x y l e =
    let i : c ≡ d = cc in
    let j : a ++ x ≡ b ++ y = cc in
    let k : a ≡ b = front a b x y (omega (arith, l)) j in
    rw (i, k)

writes-accepted : (x : Text) (g out : List ℕ) → Writes x out (Ok (length g)) (g ++ drop (length g) out) → Accepted x g
writes-accepted (no_text f) g out w = length-told w.answer
writes-accepted (text t) g out w = by (ltb 65535 (length t)) (ltb-false 65535 (length t)) (ltb (length out) (length t)) w.answer w.octets
  where
    by : (l : Bool) → (l ≡ false → length t ≤ 65535) → (b : Bool) → Ok (length g) ≡ cond (cond l true b) (refused_as 15) (Ok (length t))
        → g ++ drop (length g) out ≡ cond (cond l true b) out (t ++ drop (length t) out) → Accepted (text t) g
    by true k b e d = length-told e
    by false k true e d = length-told e
    by false k false e d =
        let n : length g ≡ length t = cc in
        let h : t ≡ g = sym (front g t (drop (length g) out) (drop (length t) out) n d) in
        record { is = ap text h; short = subst (λ (x : List ℕ). length x ≤ 65535) h (k refl) }

-- ---- both, in each form

pub accepts-written : (f : Form) (s g out : List ℕ) → length g ≤ length out → (told_check (Ok tt) ≡ check_numbers f s g) ↔ Writes (register_of f s) out (Ok (length g)) (g ++ drop (length g) out)
accepts-written f s g out h = (λ e. accepted-writes h (check-accepted f s g e), λ w. accepted-checks f s g (writes-accepted (register_of f s) g out w))
