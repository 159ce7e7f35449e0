-- Pieces of two and of four octets.
use Rattle.std.specs.Prelude.{refl, List, None, Option, Some, [], drop, eqb, false, length, suc, true, ℕ, ◌∷◌, ◌≡◌}
use Rattle.syntax.specs.Content.{content}
use Rattle.filters.specs.declared.pieces.Piece.{Piece}
use Rattle.filters.specs.declared.pieces.Piece.TheVariants.{Of, Short, Over}
use Rattle.std.proofs.Common.{ap, arith, ne_eqb, sym, ◌∙◌}
use Rattle.syntax.specs.Scanning.{next_of}
use Rattle.syntax.proofs.ContentLaws.{next-over, next-steps}
use Rattle.filters.specs.Pieces.{Few, Taken, PieceBy, PieceAt}

abbrev pub PairBy : ℕ → List ℕ → ℕ → Piece 2 → Type 0
PairBy ρ x i r = PieceBy 2 ρ x i r

abbrev pub PairAt : ℕ → List ℕ → ℕ → Piece 2 → Type 0
PairAt ρ x i r = PieceAt 2 ρ x i r

abbrev pub FourBy : ℕ → List ℕ → ℕ → Piece 4 → Type 0
FourBy ρ x i r = PieceBy 4 ρ x i r

abbrev pub FourAt : ℕ → List ℕ → ℕ → Piece 4 → Type 0
FourAt ρ x i r = PieceAt 4 ρ x i r

module _ (ρ : ℕ) (x : List ℕ) (i : ℕ) {r : Option (ℕ × ℕ)} (e : r ≡ next_of ρ (drop i x) i) where
  pub over_none : r ≡ None → true ≡ eqb (length (content ρ (drop i x))) 0
  over_none d = rw (next-over ρ x i e d)

  pub over-some : {a j : ℕ} → r ≡ Some (a, j) → false ≡ eqb (length (content ρ (drop i x))) 0
  over-some {a} {j} d =
      let z : length (content ρ (drop i x)) ≡ suc (length (content ρ (drop j x))) = ap length (next-steps ρ x i e d).gives in
      sym (ne_eqb (length (content ρ (drop i x))) 0 (λ y. omega arith))

module _ {ρ : ℕ} {x : List ℕ} {i : ℕ} {r : Option (ℕ × ℕ)} (e : r ≡ next_of ρ (drop i x) i) where
  pub pair-none : r ≡ None → PairAt ρ x i Over
  pair-none d = record { is = next-over ρ x i e d }

  module _ {a j : ℕ} {q : Option (ℕ × ℕ)} (d : r ≡ Some (a, j)) (f : q ≡ next_of ρ (drop j x) j) where
    pub pair-odd : q ≡ None → PairAt ρ x i Short
    pair-odd h =
        let z : length (content ρ (drop i x)) ≡ 1 = ap length ((next-steps ρ x i e d).gives ∙ ap (λ (l : List ℕ). a ∷ l) (next-over ρ x j f h)) in
        record { is = record { some = omega arith; few = omega arith } }

    pub pair-two : {b k : ℕ} → q ≡ Some (b, k) → PairAt ρ x i (Of (a ∷ b ∷ []) k)
    pair-two h =
        let u = next-steps ρ x i e d in
        let v = next-steps ρ x j f h in
        record { is = (record { gives = u.gives ∙ ap (λ (l : List ℕ). a ∷ l) v.gives; forward = omega arith; inside = v.inside }, refl) }

module _ {ρ : ℕ} {x : List ℕ} {i : ℕ} {r : Piece 2} (h : PairAt ρ x i r) where
  pair_is : {q : Piece 2} → r ≡ q → PairBy ρ x i q
  pair_is {q} e = rw e at h.is

  pub four-none : r ≡ Over → FourAt ρ x i Over
  four-none e = record { is = pair_is {q = Over} e }

  pub four-odd : r ≡ Short → FourAt ρ x i Short
  four-odd e = let u : Few ρ x i 2 = pair_is {q = Short} e in record { is = record { some = u.some; few = omega (arith, u.few) } }

  module _ {a b j : ℕ} {q : Piece 2} (d : r ≡ Of (a ∷ b ∷ []) j) (f : PairAt ρ x j q) where
    two : Taken ρ x i (a ∷ b ∷ []) j
    two = (pair_is {q = Of (a ∷ b ∷ []) j} d).0

    more : length (content ρ (drop i x)) ≡ suc (suc (length (content ρ (drop j x))))
    more = ap length two.gives

    pub four-two : q ≡ Over → FourAt ρ x i Short
    four-two e =
        let u : content ρ (drop j x) ≡ [] = rw e at f.is in
        let v : length (content ρ (drop j x)) ≡ 0 = ap length u in
        record { is = record { some = omega (arith, more); few = omega (arith, more) } }

    pub four-three : q ≡ Short → FourAt ρ x i Short
    four-three e =
        let u : Few ρ x j 2 = rw e at f.is in
        record { is = record { some = omega (arith, more); few = omega (arith, more, u.few) } }

    pub four-of : {c d k : ℕ} → q ≡ Of (c ∷ d ∷ []) k → FourAt ρ x i (Of (a ∷ b ∷ c ∷ d ∷ []) k)
    four-of {c} {d} {k} e =
        let u = two in
        let v : Taken ρ x j (c ∷ d ∷ []) k × (length (c ∷ d ∷ []) ≡ 2) = rw e at f.is in
        record { is = (record { gives = u.gives ∙ ap (λ (l : List ℕ). a ∷ b ∷ l) v.0.gives; forward = omega (arith, u.forward, v.0.forward); inside = v.0.inside }, refl) }
