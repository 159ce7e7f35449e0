-- A reference that is used once names one of a row, and is found there.
use Rattle.std.specs.Prelude.{ℕ, ◌≡◌, refl, List, Bool, true, false, cond, ◌||◌, T}
use Rattle.std.proofs.Common.{ap, ◌∙◌, sym, subst, T_not}
use Rattle.std.proofs.Math.Option.{Option, none, some}
use Rattle.syntax.specs.Octets.{same}
use Rattle.syntax.proofs.ContentLaws.{same_self}
use Rattle.grammar.specs.Lists.{Snoc, nil, ◌▷◌, ◌+++◌, each, among, Rule, holds, every, distinct}
use Rattle.grammar.proofs.ListsLaws.{every-left}
use Rattle.grammar.specs.TestLaws.{passes, or_left, or_right}
use Rattle.grammar.proofs.PlacingLaws.{same-eq}
use Rattle.groups.specs.Groups.{Chosen, chosen, chosen_by}
use Rattle.groups.specs.GroupsLaws.{chosen-among}
use Rattle.groups.specs.CallsLaws.{none-some}
use Rattle.demands.specs.Stated.{In}

-- ---- what holds for every one of a row holds for one of it

pub every_in : {A : Type 0} (rule : A → Rule) {row : Snoc A} {a : A} → holds (every rule row) → In a row → holds (rule a)
every_in rule {row} {a} h x = (every-left rule (x.before ▷ a) x.behind (subst (λ (s : Snoc _). holds (every rule s)) x.whole h)).1

each-join : {A B : Type 0} (f : A → B) (a b : Snoc A) → each f (a +++ b) ≡ each f a +++ each f b
each-join f a nil = refl
each-join f a (b ▷ x) = ap (λ (s : Snoc _). s ▷ f x) (each-join f a b)

pub each_in : {A B : Type 0} (f : A → B) {row : Snoc A} {a : A} → In a row → In (f a) (each f row)
each_in f {row} {a} x = record { before = each f x.before; behind = each f x.behind; whole = ap (each f) x.whole ∙ each-join f (x.before ▷ a) x.behind }

pub among_in : (r : List ℕ) {row : Snoc (List ℕ)} → In r row → T (among row r)
among_in r {row} x = subst (λ (s : Snoc (List ℕ)). T (among s r)) (sym x.whole) (by x.before x.behind)
  where
    by : (b l : Snoc (List ℕ)) → T (among (b ▷ r +++ l) r)
    by b nil = or_left (same r r) (among b r) (passes (same r r) (same_self r))
    by b (l ▷ k) = or_right (same k r) (among (b ▷ r +++ l) r) (by b l)

-- ---- a search for the reference r, from the last of a row on

module _ {A B : Type 0} (name : A → List ℕ) (r : List ℕ) (f : Snoc A → B) (g : Snoc A → A → B) (step : (xs : Snoc A) (x : A) → f (xs ▷ x) ≡ cond (same (name x) r) (g xs x) (f xs)) where
  once : (bs ls : Snoc A) (x : A) → name x ≡ r → holds (distinct (each name (bs ▷ x +++ ls))) → f (bs ▷ x +++ ls) ≡ g bs x
  once bs nil x e d = step bs x ∙ ap (λ (c : Bool). cond c (g bs x) (f bs)) (ap (λ (n : List ℕ). same n r) e ∙ same_self r)
  once bs (ls ▷ l) x e d = step (bs ▷ x +++ ls) l ∙ by (same (name l) r) (same-eq (name l) r) (once bs ls x e d.0)
    where
      by : (b : Bool) → (T b → name l ≡ r) → f (bs ▷ x +++ ls) ≡ g bs x → cond b (g (bs ▷ x +++ ls) l) (f (bs ▷ x +++ ls)) ≡ g bs x
      by true k h =
          let t : T (among (each name (bs ▷ x +++ ls)) (name x)) = among_in (name x) (each_in name (record { before = bs; behind = ls; whole = refl })) in
          absurd (T_not (among (each name (bs ▷ x +++ ls)) (name l)) d.1 (subst (λ (n : List ℕ). T (among (each name (bs ▷ x +++ ls)) n)) (e ∙ sym (k tt)) t))
      by false k h = h

  -- it finds the one that has it
  pub found-once : {row : Snoc A} {a : A} (x : In a row) → name a ≡ r → holds (distinct (each name row)) → f row ≡ g x.before a
  found-once {row} {a} x e d =
      ap f x.whole ∙ once x.before x.behind a e (subst (λ (s : Snoc A). holds (distinct (each name s))) x.whole d)

pub chosen-once : {A : Type 0} (name : A → List ℕ) (r : List ℕ) {row : Snoc A} {a : A} (x : In a row) → name a ≡ r → holds (distinct (each name row))
    → chosen_by name row r ≡ some (chosen x.before a)
chosen-once name r x e d = found-once name r (λ s. chosen_by name s r) (λ s a. some (chosen s a)) (λ s a. refl) x e d

-- two that have it are one
pub one_place : {A : Type 0} (name : A → List ℕ) {row : Snoc A} → holds (distinct (each name row)) → (a b : A) (x : In a row) (y : In b row) → name a ≡ name b
    → (a ≡ b) × (x.before ≡ y.before)
one_place name {row} d a b x y e =
    let p = chosen-once name (name b) x e d in
    let q = chosen-once name (name b) y refl d in
    let z : some (chosen x.before a) ≡ some (chosen y.before b) = sym p ∙ q in
    (cc, cc)

-- ---- one that is chosen is in the row

pub chosen-in : {A : Type 0} (name : A → List ℕ) (r : List ℕ) (row : Snoc A) {ys : Snoc A} {a : A} → chosen_by name row r ≡ some (chosen ys a) → In a row × (name a ≡ r)
chosen-in name r row {ys} e = let w = chosen-among name r row e in (record { before = ys; behind = w.rest; whole = w.whole }, w.ref)

-- a reference among those of a row is found
pub among-chosen : {A : Type 0} (name : A → List ℕ) (r : List ℕ) (row : Snoc A) → T (among (each name row) r) → (ys : Snoc A) × ((a : A) × (chosen_by name row r ≡ some (chosen ys a)))
among-chosen name r nil h = absurd h
among-chosen {A} name r (xs ▷ x) h = by (same (name x) r) h (among-chosen name r xs)
  where
    by : (b : Bool) → T (b || among (each name xs) r) → (T (among (each name xs) r) → (ys : Snoc A) × ((a : A) × (chosen_by name xs r ≡ some (chosen ys a))))
        → (ys : Snoc A) × ((a : A) × (cond b (some (chosen xs x)) (chosen_by name xs r) ≡ some (chosen ys a)))
    by true h k = (xs, (x, refl))
    by false h k = k h
