-- Lists that grow at the end, with one more put first, as sealing does; and rules on them.
use Rattle.std.specs.Prelude.{ℕ, ◌+◌, ◌≡◌, refl, List, Bool, true, false, not, cond, ◌||◌, T}
use Rattle.std.proofs.Common.{arith, ap, ◌∙◌, sym, subst, T_not}
use Rattle.std.proofs.Math.Option.{some}
use Rattle.std.proofs.Math.Bool.{or-false, or_assoc}
use Rattle.syntax.specs.Octets.{same}
use Rattle.syntax.proofs.ContentLaws.{same_self}
use Rattle.syntax.proofs.TreeLaws.{off}
use Rattle.grammar.specs.Lists.{Snoc, nil, ◌▷◌, ◌+++◌, each, joined, among, Rule, holds, every, distinct}
use Rattle.grammar.proofs.ListsLaws.{every-join}
use Rattle.grammar.specs.TestLaws.{is_true, passes, or_left, or_right}
use Rattle.grammar.specs.Rules.{one}
use Rattle.grammar.proofs.PlacingLaws.{same-eq, regroup}
use Rattle.groups.specs.Groups.{chosen, chosen_by}

abbrev pub front : {A : Type 0} → A → Snoc A → Snoc A
front x s = nil ▷ x +++ s

-- ---- texts that are told the same

pub not_same : (x y : List ℕ) → (x ≡ y → ⊥) → same x y ≡ false
not_same x y h = by (same x y) refl
  where
    by : (b : Bool) → same x y ≡ b → b ≡ false
    by true e = absurd (h (same-eq x y (passes (same x y) e)))
    by false e = refl

pub same-swap : (x y : List ℕ) → same x y ≡ false → same y x ≡ false
same-swap x y e = not_same y x (λ d. bad (sym (ap (same x) d ∙ same_self x) ∙ e))
  where
    bad : true ≡ false → ⊥
    bad z = let y : ◌≡◌ {A = ℕ} 0 1 = cc in omega arith

-- ---- one put first

pub each-front : {A B : Type 0} (f : A → B) (x : A) (s : Snoc A) → each f (front x s) ≡ front (f x) (each f s)
each-front f x nil = refl
each-front f x (s ▷ a) = ap (λ (t : Snoc _). t ▷ f a) (each-front f x s)

pub joined-front : {A B : Type 0} (f : A → Snoc B) (x : A) (s : Snoc A) → joined f (front x s) ≡ nil +++ f x +++ joined f s
joined-front f x nil = refl
joined-front f x (s ▷ a) = ap (λ (t : Snoc _). t +++ f a) (joined-front f x s) ∙ sym (regroup (nil +++ f x) (joined f s) (f a))

pub every_front : {A : Type 0} (f : A → Rule) (x : A) (s : Snoc A) → holds (f x) → holds (every f s) → holds (every f (front x s))
every_front f x s p h = every-join f (nil ▷ x) s (tt, p) h

pub every_map : {A : Type 0} (p q : A → Rule) (s : Snoc A) → ((a : A) → holds (p a) → holds (q a)) → holds (every p s) → holds (every q s)
every_map p q nil k h = tt
every_map p q (s ▷ a) k h = (every_map p q s k h.0, k a h.1)

pub among-front : (r : List ℕ) (s : Snoc (List ℕ)) (v : List ℕ) → among (front r s) v ≡ (among s v || same r v)
among-front r nil v = or-false (same r v)
among-front r (s ▷ a) v = ap (λ (b : Bool). same a v || b) (among-front r s v) ∙ sym (or_assoc (same a v) (among s v) (same r v))

nor : (a b : Bool) → T (not (a || b)) → T (not a) × T (not b)
nor true b h = absurd h
nor false b h = (tt, h)

nor-of : (a b : Bool) → T (not a) → b ≡ false → T (not (a || b))
nor-of true b h e = absurd h
nor-of false b h e = subst (λ (c : Bool). T (not c)) (sym e) tt

pub distinct-front : (r : List ℕ) (s : Snoc (List ℕ)) → holds (distinct s) → T (not (among s r)) → holds (distinct (front r s))
distinct-front r nil h k = (tt, tt)
distinct-front r (s ▷ a) h k =
    let n = nor (same a r) (among s r) k in (
      distinct-front r s h.0 n.1,
      subst (λ (b : Bool). T (not b)) (sym (among-front r s a)) (nor-of (among s a) (same r a) h.1 (same-swap a r (off (same a r) n.0))),
    )

-- ---- references

-- what names one of s does not name r, if s does not have it
pub away : (s : Snoc (List ℕ)) (r n : List ℕ) → T (not (among s r)) → T (among s n) → same n r ≡ false
away s r n h k = not_same n r (λ e. T_not (among s r) h (subst (λ (x : List ℕ). T (among s x)) e k))

pub aways : (s : Snoc (List ℕ)) (r : List ℕ) (v : Snoc (List ℕ)) → T (not (among s r)) → holds (every (one s) v) → T (not (among v r))
aways s r nil h k = tt
aways s r (v ▷ n) h k = subst (λ (b : Bool). T (not (b || among v r))) (sym (away s r n h k.1)) (aways s r v h k.0)

pub wider : (x : List ℕ) (s v : Snoc (List ℕ)) → holds (every (one s) v) → holds (every (one (front x s)) v)
wider x s v h = every_map (one s) (one (front x s)) v (λ n k. passes (among (front x s) n) (among-front x s n ∙ is_true (among s n || same x n) (or_left (among s n) (same x n) k))) h

pub longer : (x : List ℕ) (s v : Snoc (List ℕ)) → holds (every (one s) v) → holds (every (one (s ▷ x)) v)
longer x s v h = every_map (one s) (one (s ▷ x)) v (λ n k. or_right (same x n) (among s n) k) h

pub first-among : (r : List ℕ) (s : Snoc (List ℕ)) → T (among (front r s) r)
first-among r s = passes (among (front r s) r) (among-front r s r ∙ is_true (among s r || same r r) (or_right (among s r) (same r r) (passes (same r r) (same_self r))))

-- ---- the one of a reference, with one more put first

module _ {A : Type 0} (name : A → List ℕ) where
  -- one that was there is found, and what stands before it grows
  pub chosen-old : (r : List ℕ) (x : A) (s : Snoc A) {ys : Snoc A} {a : A} → chosen_by name s r ≡ some (chosen ys a) → chosen_by name (front x s) r ≡ some (chosen (front x ys) a)
  chosen-old r x nil e = let z : ◌≡◌ {A = ℕ} 0 1 = cc in absurd (omega arith)
  chosen-old r x (s ▷ b) {ys} {a} e = by (same (name b) r) (λ d. chosen-old r x s d) e
    where
      by : (t : Bool) → (chosen_by name s r ≡ some (chosen ys a) → chosen_by name (front x s) r ≡ some (chosen (front x ys) a))
          → cond t (some (chosen s b)) (chosen_by name s r) ≡ some (chosen ys a)
          → cond t (some (chosen (front x s) b)) (chosen_by name (front x s) r) ≡ some (chosen (front x ys) a)
      by true f e = let k : s ≡ ys = cc in let j : b ≡ a = cc in rw (k, j)
      by false f e = f e

  -- the new one is found, with none before it
  pub chosen-new : (x : A) (s : Snoc A) (r : List ℕ) → name x ≡ r → T (not (among (each name s) r)) → chosen_by name (front x s) r ≡ some (chosen nil x)
  chosen-new x nil r e h = rw (e, same_self r)
  chosen-new x (s ▷ b) r e h = by (same (name b) r) h (chosen-new x s r e)
    where
      by : (t : Bool) → T (not (t || among (each name s) r)) → (T (not (among (each name s) r)) → chosen_by name (front x s) r ≡ some (chosen nil x))
          → cond t (some (chosen (front x s) b)) (chosen_by name (front x s) r) ≡ some (chosen nil x)
      by true h k = absurd h
      by false h k = k h
