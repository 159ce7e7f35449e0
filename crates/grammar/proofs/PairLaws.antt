-- No more trailers than headers: the references of trailers differ, and each is that of a header.
use Rattle.std.specs.Prelude.{ℕ, suc, ◌+◌, ◌≤◌, Bool, true, false, cond, not, ◌||◌, List, ◌≡◌, refl, T}
use Rattle.std.proofs.Common.{arith, ap, sym, ◌∙◌, subst, leb→le}
use Rattle.std.proofs.lemmas.Bool.{false≢true}
use Rattle.syntax.specs.Octets.{same}
use Rattle.grammar.specs.Lists.{Snoc, nil, ◌▷◌, each, size, among, holds, every, distinct}
use Rattle.grammar.specs.Interchange.{Leaf, Open, msg, message}
use Rattle.grammar.specs.Rules.{ref_h, ref_t, one, ok_message, refs_open, refs_message}
use Rattle.grammar.specs.Places.{headers_in, trailers_in}
use Rattle.grammar.proofs.PlacingLaws.{same-eq}
use Rattle.grammar.specs.TestLaws.{is_true}
use Rattle.grammar.proofs.ListsLaws.{each-size}

-- how many of rs are among ts
abbrev pub count_in : Snoc (List ℕ) → Snoc (List ℕ) → ℕ
count_in ts nil = 0
count_in ts (rs ▷ r) = cond (among ts r) (suc (count_in ts rs)) (count_in ts rs)

more : (a b : Bool) (n m : ℕ) → n ≤ m → cond b (suc n) n ≤ cond (a || b) (suc m) m
more true true n m l = omega (arith, l)
more true false n m l = omega (arith, l)
more false true n m l = omega (arith, l)
more false false n m l = l

pub count_most : (ts rs : Snoc (List ℕ)) → count_in ts rs ≤ size rs
count_most ts nil = omega arith
count_most ts (rs ▷ r) = by (among ts r) (count_most ts rs)
  where
    by : (b : Bool) → count_in ts rs ≤ size rs → cond b (suc (count_in ts rs)) (count_in ts rs) ≤ suc (size rs)
    by true l = omega (arith, l)
    by false l = omega (arith, l)

count-up : (ts rs : Snoc (List ℕ)) (t : List ℕ) → count_in ts rs ≤ count_in (ts ▷ t) rs
count-up ts nil t = omega arith
count-up ts (rs ▷ r) t = more (same t r) (among ts r) (count_in ts rs) (count_in (ts ▷ t) rs) (count-up ts rs t)

same_refl : (x y : List ℕ) → T (same x y) → same y x ≡ true
same_refl x y h =
    let e = same-eq x y h in
    is_true (same y x) (subst (λ (z : List ℕ). T (same z x)) e (subst (λ (z : List ℕ). T (same x z)) (sym e) h))

count-new : (ts rs : Snoc (List ℕ)) (t : List ℕ) → T (not (among ts t)) → T (among rs t) → suc (count_in ts rs) ≤ count_in (ts ▷ t) rs
count-new ts nil t n a = absurd a
count-new ts (rs ▷ r) t n a = by (same r t) refl (count-new ts rs t n) a
  where
    grown : (b c : Bool) (k m : ℕ) → suc k ≤ m → suc (cond b (suc k) k) ≤ cond (c || b) (suc m) m
    grown true true k m l = omega (arith, l)
    grown true false k m l = omega (arith, l)
    grown false true k m l = omega (arith, l)
    grown false false k m l = l

    first : (b c : Bool) (k m : ℕ) → T (not b) → c ≡ true → k ≤ m → suc (cond b (suc k) k) ≤ cond (c || b) (suc m) m
    first true c k m x e l = absurd x
    first false true k m x e l = omega (arith, l)
    first false false k m x e l = absurd (false≢true e)

    by : (b : Bool) → same r t ≡ b → (T (among rs t) → suc (count_in ts rs) ≤ count_in (ts ▷ t) rs) → T (b || among rs t)
        → suc (cond (among ts r) (suc (count_in ts rs)) (count_in ts rs)) ≤ cond (same t r || among ts r) (suc (count_in (ts ▷ t) rs)) (count_in (ts ▷ t) rs)
    by true e ih x =
        let h : T (same r t) = subst T (sym e) tt in
        first (among ts r) (same t r) (count_in ts rs) (count_in (ts ▷ t) rs)
        (subst (λ (z : List ℕ). T (not (among ts z))) (sym (same-eq r t h)) n) (same_refl r t h) (count-up ts rs t)
    by false e ih x = grown (among ts r) (same t r) (count_in ts rs) (count_in (ts ▷ t) rs) (ih x)

pub pigeons : (ts rs : Snoc (List ℕ)) → holds (distinct ts) → holds (every (one rs) ts) → size ts ≤ count_in ts rs
pigeons nil rs d e = omega arith
pigeons (ts ▷ t) rs d e = let l = pigeons ts rs d.0 e.0 in let k = count-new ts rs t d.1 e.1 in omega (arith, l, k)

pub few-trailers : (o : Open) → holds (refs_open o) → size (trailers_in o) ≤ size (headers_in o)
few-trailers (msg h hs b ts) q =
    let l = pigeons (each ref_t ts) (each ref_h hs) q.1.1.0 q.1.1.1 in
    let m = count_most (each ref_t ts) (each ref_h hs) in
    let a = each-size ref_t ts in
    let c = each-size ref_h hs in
    omega (arith, l, m, a, c)

-- "0 to 9 header groups"
pub few-headers : (o : Open) (t : Leaf) → holds (ok_message (message o t)) → size (headers_in o) ≤ 9
few-headers (msg h hs b ts) t q = leb→le (size hs) 9 q.0.0

-- "one trailer group for each header"
pub few-tails : (o : Open) (t : Leaf) → holds (refs_message (message o t)) → size (trailers_in o) ≤ size (headers_in o)
few-tails (msg h hs b ts) t q = few-trailers (msg h hs b ts) q.0
