-- Laws of lists that grow at the end.
use Rattle.std.specs.Prelude.{suc, ◌+◌, ◌≡◌, refl}
use Rattle.std.proofs.Common.{arith, ap, ◌∙◌, sym}
use Rattle.grammar.specs.Lists.{Snoc, nil, ◌▷◌, ◌+++◌, each, joined, size, Rule, holds, every}
use Rattle.grammar.proofs.PlacingLaws.{regroup}

-- equal lists have an equal last one, and the same before it
pub last_of : {A : Type 0} {xs ys : Snoc A} {a b : A} → xs ▷ a ≡ ys ▷ b → a ≡ b
last_of e = cc

pub first-of : {A : Type 0} {xs ys : Snoc A} {a b : A} → xs ▷ a ≡ ys ▷ b → xs ≡ ys
first-of e = cc

pub each-size : {A B : Type 0} (f : A → B) (s : Snoc A) → size (each f s) ≡ size s
each-size f nil = refl
each-size f (s ▷ a) = ap suc (each-size f s)

pub size-join : {A : Type 0} (a b : Snoc A) → size (a +++ b) ≡ size a + size b
size-join a nil = omega arith
size-join a (b ▷ x) = omega (arith, size-join a b)

-- two lists shown one after the other
pub joined-join : {A B : Type 0} (f : A → Snoc B) (a b : Snoc A) → joined f (a +++ b) ≡ joined f a +++ joined f b
joined-join f a nil = refl
joined-join f a (b ▷ x) = ap (λ (s : Snoc _). s +++ f x) (joined-join f a b) ∙ sym (regroup (joined f a) (joined f b) (f x))

-- a rule that holds of a list holds of its parts
pub every-left : {A : Type 0} (rule : A → Rule) (a b : Snoc A) → holds (every rule (a +++ b)) → holds (every rule a)
every-left rule a nil h = h
every-left rule a (b ▷ x) h = every-left rule a b h.0

pub every-right : {A : Type 0} (rule : A → Rule) (a b : Snoc A) → holds (every rule (a +++ b)) → holds (every rule b)
every-right rule a nil h = tt
every-right rule a (b ▷ x) h = (every-right rule a b h.0, h.1)

-- and one that holds of both parts holds of the list
pub every-join : {A : Type 0} (rule : A → Rule) (a b : Snoc A) → holds (every rule a) → holds (every rule b) → holds (every rule (a +++ b))
every-join rule a nil h k = h
every-join rule a (b ▷ x) h k = (every-join rule a b h k.0, k.1)

-- of all that is shown, one by one; and the other way
pub every-joined : {A B : Type 0} (rule : B → Rule) (show : A → Snoc B) (s : Snoc A) → holds (every rule (joined show s)) → holds (every (λ (a : A). every rule (show a)) s)
every-joined rule show nil h = tt
every-joined rule show (s ▷ a) h =
    (every-joined rule show s (every-left rule (joined show s) (show a) h), every-right rule (joined show s) (show a) h)

pub joined-every : {A B : Type 0} (rule : B → Rule) (show : A → Snoc B) (s : Snoc A) → holds (every (λ (a : A). every rule (show a)) s) → holds (every rule (joined show s))
joined-every rule show nil h = tt
joined-every rule show (s ▷ a) h = every-join rule (joined show s) (show a) (joined-every rule show s h.0) h.1
