-- The messages of a sealed interchange: the one that is named is sealed, all others are as they were.
use Rattle.std.specs.Prelude.{ℕ, suc, ◌+◌, ◌≡◌, refl, List, Bool, true, false, cond}
use Rattle.std.proofs.Common.{ap, ◌∙◌, sym, subst}
use Rattle.std.proofs.Math.Option.{some}
use Rattle.syntax.specs.Octets.{same}
use Rattle.syntax.specs.declared.Service.{Service}
use Rattle.grammar.specs.Lists.{Snoc, nil, ◌▷◌, each, size, any, Rule, holds, every}
use Rattle.grammar.specs.Interchange.{Leaf, Header, Trailer, msg, Message, message, idle, shown}
use Rattle.grammar.specs.Rules.{ref_m}
use Rattle.grammar.proofs.PlacingLaws.{same-eq}
use Rattle.grammar.specs.Places.{wide}
use Rattle.grammar.specs.Named.{placed, placed_in}
use Rattle.weaving.specs.Seals.{sealed_message, sealed_in}
use Rattle.grammar.specs.TestLaws.{passes}
use Rattle.groups.specs.CallsLaws.{none-some}

-- ---- the messages

module _ (h : Header) (t : Trailer) (r : List ℕ) where
  ref-sealed : (m : Message) → ref_m (sealed_message h t m) ≡ ref_m m
  ref-sealed (message (msg u hs b ts) n) = refl

  pub refs-same : (ms : Snoc Message) → each ref_m (sealed_in h t ms r) ≡ each ref_m ms
  refs-same nil = refl
  refs-same (ms ▷ m) = by (same (ref_m m) r) (refs-same ms)
    where
      by : (b : Bool) → each ref_m (sealed_in h t ms r) ≡ each ref_m ms → each ref_m (cond b (ms ▷ sealed_message h t m) (sealed_in h t ms r ▷ m)) ≡ each ref_m ms ▷ ref_m m
      by true e = ap (λ (x : List ℕ). each ref_m ms ▷ x) (ref-sealed m)
      by false e = ap (λ (x : Snoc (List ℕ)). x ▷ ref_m m) e

  pub size_same : (ms : Snoc Message) → size (sealed_in h t ms r) ≡ size ms
  size_same nil = refl
  size_same (ms ▷ m) = by (same (ref_m m) r) (size_same ms)
    where
      by : (b : Bool) → size (sealed_in h t ms r) ≡ size ms → size (cond b (ms ▷ sealed_message h t m) (sealed_in h t ms r ▷ m)) ≡ suc (size ms)
      by true e = refl
      by false e = ap suc e

  pub any_same : (ms : Snoc Message) → any (sealed_in h t ms r) ≡ any ms
  any_same nil = refl
  any_same (ms ▷ m) = by (same (ref_m m) r)
    where
      by : (b : Bool) → any (cond b (ms ▷ sealed_message h t m) (sealed_in h t ms r ▷ m)) ≡ true
      by true = refl
      by false = refl

  module _ (σ : Service) (p : ℕ) (u : Leaf) where
    -- a rule that the message keeps when it is sealed, all keep
    pub every-sealed : (rule : Message → Rule) (ms : Snoc Message) {m : Message} {q : ℕ} → placed_in σ p u ms r ≡ some (placed m q)
        → (holds (rule m) → holds (rule (sealed_message h t m))) → holds (every rule ms) → holds (every rule (sealed_in h t ms r))
    every-sealed rule nil e k w = none-some e
    every-sealed rule (ms ▷ x) {m} {q} e k w = by (same (ref_m x) r) (λ d. every-sealed rule ms d k w.0) e
      where
        by : (b : Bool) → (placed_in σ p u ms r ≡ some (placed m q) → holds (every rule (sealed_in h t ms r)))
            → cond b (some (placed x (p + wide σ (shown (idle u ms))))) (placed_in σ p u ms r) ≡ some (placed m q)
            → holds (every rule (cond b (ms ▷ sealed_message h t x) (sealed_in h t ms r ▷ x)))
        by true f e = let j : m ≡ x = cc in (w.0, subst (λ (y : Message). holds (rule y) → holds (rule (sealed_message h t y))) j k w.1)
        by false f e = (f e, w.1)

    -- the message that is sealed is found where it was
    pub placed-sealed : (ms : Snoc Message) {m : Message} {q : ℕ} → placed_in σ p u ms r ≡ some (placed m q)
        → placed_in σ p u (sealed_in h t ms r) r ≡ some (placed (sealed_message h t m) q)
    placed-sealed nil e = none-some e
    placed-sealed (ms ▷ x) {m} {q} e = by (same (ref_m x) r) refl (λ d. placed-sealed ms d) e
      where
        by : (b : Bool) → same (ref_m x) r ≡ b → (placed_in σ p u ms r ≡ some (placed m q) → placed_in σ p u (sealed_in h t ms r) r ≡ some (placed (sealed_message h t m) q))
            → cond b (some (placed x (p + wide σ (shown (idle u ms))))) (placed_in σ p u ms r) ≡ some (placed m q)
            → placed_in σ p u (cond b (ms ▷ sealed_message h t x) (sealed_in h t ms r ▷ x)) r ≡ some (placed (sealed_message h t m) q)
        by true d f e =
            let j : x ≡ m = cc in
            let i : p + wide σ (shown (idle u ms)) ≡ q = cc in
            let z : same (ref_m (sealed_message h t x)) r ≡ true = ap (λ (y : List ℕ). same y r) (ref-sealed x) ∙ d in
            ap (λ (b : Bool). cond b (some (placed (sealed_message h t x) (p + wide σ (shown (idle u ms))))) (placed_in σ p u ms r)) z
            ∙ ap (λ (y : Message). some (placed (sealed_message h t y) (p + wide σ (shown (idle u ms))))) j ∙ ap (λ (n : ℕ). some (placed (sealed_message h t m) n)) i
        by false d f e = ap (λ (b : Bool). cond b (some (placed x (p + wide σ (shown (idle u (sealed_in h t ms r)))))) (placed_in σ p u (sealed_in h t ms r) r)) d ∙ f e

    -- any other message is found, as it was
    pub placed-other : (k : List ℕ) → same r k ≡ false → (ms : Snoc Message) {m : Message} {q : ℕ} → placed_in σ p u ms k ≡ some (placed m q)
        → (j : ℕ) × (placed_in σ p u (sealed_in h t ms r) k ≡ some (placed m j))
    placed-other k n nil e = none-some e
    placed-other k n (ms ▷ x) {m} {q} e = by (same (ref_m x) r) (same (ref_m x) k) refl refl (λ d. placed-other k n ms d) e
      where
        by : (b c : Bool) → same (ref_m x) r ≡ b → same (ref_m x) k ≡ c
            → (placed_in σ p u ms k ≡ some (placed m q) → (j : ℕ) × (placed_in σ p u (sealed_in h t ms r) k ≡ some (placed m j)))
            → cond c (some (placed x (p + wide σ (shown (idle u ms))))) (placed_in σ p u ms k) ≡ some (placed m q)
            → (j : ℕ) × (placed_in σ p u (cond b (ms ▷ sealed_message h t x) (sealed_in h t ms r ▷ x)) k ≡ some (placed m j))
        by true c d g f e =
            let z : same (ref_m x) k ≡ false = ap (λ (y : List ℕ). same y k) (same-eq (ref_m x) r (passes (same (ref_m x) r) d)) ∙ n in
            let w : placed_in σ p u ms k ≡ some (placed m q) = ap (λ (b : Bool). cond b (some (placed x (p + wide σ (shown (idle u ms))))) (placed_in σ p u ms k)) (sym z ∙ g) ∙ e in
            (q, ap (λ (b : Bool). cond b (some (placed (sealed_message h t x) (p + wide σ (shown (idle u ms))))) (placed_in σ p u ms k)) (ap (λ (y : List ℕ). same y k) (ref-sealed x) ∙ z) ∙ w)
        by false true d g f e =
            let j : x ≡ m = cc in (
              p + wide σ (shown (idle u (sealed_in h t ms r))),
              ap (λ (b : Bool). cond b (some (placed x (p + wide σ (shown (idle u (sealed_in h t ms r)))))) (placed_in σ p u (sealed_in h t ms r) k)) g
                  ∙ ap (λ (y : Message). some (placed y (p + wide σ (shown (idle u (sealed_in h t ms r)))))) j,
            )
        by false false d g f e =
            let z = f e in
            (z.0, ap (λ (b : Bool). cond b (some (placed x (p + wide σ (shown (idle u (sealed_in h t ms r)))))) (placed_in σ p u (sealed_in h t ms r) k)) g ∙ z.1)
