-- The old sum is at most 32 kg off for each load, and over a chain of files the bounds add up.
use Rattle.std.specs.Prelude.{◌≡◌, ℕ, suc, ◌+◌, ◌*◌, ◌≤◌, Bool, true, false, cond, List, [], ◌∷◌, ◌++◌, length, nat_lt, refl}
use Rattle.std.proofs.Common.{arith, sym, subst, ltb-false}
use Rattle.std.proofs.Math.Option.{Option, none, some}
use Rattle.kilograms.specs.OldSum.{Old, tally, refused, limit, rounded, added, added_all}
use Rattle.kilograms.specs.RoundingLaws.{rounded-near, rounded-within}
use Rattle.kilograms.specs.Bounds.{exactly, Bounded}

-- what was refused stays refused
pub stays : (n : ℕ) (l : List (Option ℕ)) → added_all (refused n) l ≡ refused n
stays n [] = refl
stays n (x ∷ l) = stays n l

-- from the sum v, behind n loads of e kilograms
record Off (v n e : ℕ) (l : List (Option ℕ)) (w m f : ℕ) : Type 0 where
  loads : m ≡ n + length l
  exact : f ≡ e + exactly l
  above : w ≤ v + exactly l + 32 * length l
  below : v + exactly l ≤ w + 32 * length l
  within : w ≤ limit

abbrev OffBy : ℕ → ℕ → ℕ → List (Option ℕ) → Old → Type 0
OffBy v n e l (tally w m f) = Off v n e l w m f
OffBy v n e l (refused k) = Unit {0}

off : (v n e : ℕ) (l : List (Option ℕ)) → v ≤ limit → OffBy v n e l (added_all (tally v n e) l)
off v n e [] h = record { loads = omega arith; exact = omega arith; above = omega arith; below = omega arith; within = h }
off v n e (none ∷ l) h = subst (OffBy v n e (none ∷ l)) (sym (stays 23 l)) tt
off v n e (some x ∷ l) h = by (nat_lt limit (v + x)) refl (λ i. off (rounded (v + x)) (suc n) (e + x) l (rounded-within (v + x) i))
  where
    on : (o : Old) → OffBy (rounded (v + x)) (suc n) (e + x) l o → OffBy v n e (some x ∷ l) o
    on (refused k) g = tt
    on (tally w m f) g =
        let a = (rounded-near (v + x)).above in
        let b = (rounded-near (v + x)).below in
        let c = g.above in
        let d = g.below in
        let i = g.loads in
        let j = g.exact in
        record { loads = omega (arith, i); exact = omega (arith, j); above = omega (arith, a, c); below = omega (arith, b, d); within = g.within }

    by : (b : Bool) → nat_lt limit (v + x) ≡ b → (v + x ≤ limit → OffBy (rounded (v + x)) (suc n) (e + x) l (added_all (tally (rounded (v + x)) (suc n) (e + x)) l))
        → OffBy v n e (some x ∷ l) (added_all (cond b (refused 24) (tally (rounded (v + x)) (suc n) (e + x))) l)
    by true q k = subst (OffBy v n e (some x ∷ l)) (sym (stays 24 l)) tt
    by false q k = on (added_all (tally (rounded (v + x)) (suc n) (e + x)) l) (k (ltb-false limit (v + x) q))

-- a file: how many loads, their exact kilograms, and how far the sum is off
pub bounded : {v w n e : ℕ} (l : List (Option ℕ)) → v ≤ limit → added_all (tally v 0 0) l ≡ tally w n e → (n ≡ length l) × ((e ≡ exactly l) × Bounded v w n e)
bounded {v} {w} {n} {e} l h q =
    let g : Off v 0 0 l w n e = subst (OffBy v 0 0 l) q (off v 0 0 l h) in
    let a = g.loads in
    let b = g.exact in
    let c = g.above in
    let d = g.below in
    (omega (arith, a), (omega (arith, b), record { above = omega (arith, a, b, c); below = omega (arith, a, b, d); within = g.within }))

-- one file and then another
pub chained : {v w x n m e f : ℕ} → Bounded v w n e → Bounded w x m f → Bounded v x (n + m) (e + f)
chained a b =
    let p = a.above in
    let q = a.below in
    let r = b.above in
    let s = b.below in
    record { above = omega (arith, p, r); below = omega (arith, q, s); within = b.within }

-- loads in two parts, one after the other
pub added-parts : (k : Old) (l m : List (Option ℕ)) → added_all k (l ++ m) ≡ added_all (added_all k l) m
added-parts k [] m = refl
added-parts k (x ∷ l) m = added-parts (added k x) l m
