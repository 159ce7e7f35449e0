-- What reading some octets of content learns.
use Rattle.std.specs.Prelude.{ℕ, ◌+◌, ◌≤◌, ◌<◌, List, [], ◌∷◌, ◌++◌, ◌≡◌, refl, length, take, drop, set, get_or, replicate, Option, Some, None}
use Rattle.std.proofs.Common.{arith, add-one, append_assoc, ap, subst, sym, ◌∙◌, length-append, length-set, take_all}
use Rattle.std.proofs.lemmas.List.{length-take-le, length-replicate}
use Rattle.std.proofs.Math.Seq.{take-suc-set}
use Rattle.syntax.specs.Content.{content}
use Rattle.syntax.specs.Scanning.{next_of}
use Rattle.syntax.proofs.ContentLaws.{next-steps, next-over}
use Rattle.filters.specs.Pieces.{Taken, PieceAt}
use Rattle.filters.specs.declared.pieces.Piece.{Piece}
use Rattle.filters.specs.declared.pieces.Piece.TheVariants.{Of, Short, Over}

empty : (l : List ℕ) → length l ≡ 0 → l ≡ []
empty [] h = refl
empty (a ∷ l) h = absurd (omega arith)

-- ---- the loop that takes n octets: the first k stand in t, and the content from j on is left

pub record Taking (n ρ : ℕ) (x : List ℕ) (i : ℕ) (t : List ℕ) (k j : ℕ) : Type 0 where
  pub gives : content ρ (drop i x) ≡ take k t ++ content ρ (drop j x)
  pub forward : i + k ≤ j
  pub inside : 0 < k → j ≤ length x
  pub sized : length t ≡ n

pub taking-start : {n ρ : ℕ} {x : List ℕ} {i : ℕ} → Taking n ρ x i (replicate n 0) 0 i
taking-start {n} = record { gives = refl; forward = omega arith; inside = λ h. absurd (omega arith); sized = length-replicate n 0 }

module _ {n ρ : ℕ} {x : List ℕ} {i : ℕ} {t : List ℕ} {k j : ℕ} (g : Taking n ρ x i t k j) where
  module _ {r : Option (ℕ × ℕ)} (e : r ≡ next_of ρ (drop j x) j) where
    held : r ≡ None → k ≤ n → length (content ρ (drop i x)) ≡ k
    held d l =
        let z : length (content ρ (drop j x)) ≡ 0 = ap length (next-over ρ x j e d) in
        let s = g.sized in
        omega (arith, ap length g.gives, length-append (take k t) (content ρ (drop j x)), length-take-le k t (omega arith))

    pub taking-over : r ≡ None → k ≤ n → k ≡ 0 → PieceAt n ρ x i Over
    taking-over d l z = record { is = empty (content ρ (drop i x)) (held d l ∙ z) }

    pub taking-short : r ≡ None → k < n → (k ≡ 0 → ⊥) → PieceAt n ρ x i Short
    taking-short d l z = let h = held d (omega arith) in record { is = record { some = omega (arith, h, z); few = omega (arith, h) } }

    pub taking-on : {b next : ℕ} {t' : List ℕ} → k < n → r ≡ Some (b, next) → t' ≡ set t k b → Taking n ρ x i t' (k + 1) next
    taking-on {b} {next} l d q =
        let u = next-steps ρ x j e d in
        let s = g.sized in
        let f = g.forward in
        let m : k < length t = omega arith in
        record {
          gives = rw (q, add-one k, take-suc-set t k b m) (g.gives ∙ ap (λ (v : List ℕ). take k t ++ v) u.gives ∙ sym (append_assoc (take k t) (b ∷ []) (content ρ (drop next x))));
          forward = omega (arith, u.forward);
          inside = λ h. u.inside;
          sized = rw q (length-set t k b ∙ s);
        }

  pub taking-end : 0 < n → n ≤ k → PieceAt n ρ x i (Of t j)
  taking-end h l =
      let s = g.sized in
      let f = g.forward in
      let u : Taken ρ x i t j = record {
        gives = g.gives ∙ ap (λ (v : List ℕ). v ++ content ρ (drop j x)) (take_all k t (omega arith));
        forward = omega arith;
        inside = g.inside (omega arith);
      } in
      record { is = (u, s) }

-- ---- two octets, and four

two_of : (t : List ℕ) → length t ≡ 2 → t ≡ get_or t 0 0 ∷ get_or t 1 0 ∷ []
two_of [] h = absurd (omega arith)
two_of (a ∷ []) h = absurd (omega arith)
two_of (a ∷ b ∷ []) h = refl
two_of (a ∷ b ∷ c ∷ t) h = absurd (omega arith)

four_of : (t : List ℕ) → length t ≡ 4 → t ≡ get_or t 0 0 ∷ get_or t 1 0 ∷ get_or t 2 0 ∷ get_or t 3 0 ∷ []
four_of [] h = absurd (omega arith)
four_of (a ∷ []) h = absurd (omega arith)
four_of (a ∷ b ∷ []) h = absurd (omega arith)
four_of (a ∷ b ∷ c ∷ []) h = absurd (omega arith)
four_of (a ∷ b ∷ c ∷ d ∷ []) h = refl
four_of (a ∷ b ∷ c ∷ d ∷ e ∷ t) h = absurd (omega arith)

module _ {ρ : ℕ} {x : List ℕ} {i : ℕ} {t : List ℕ} {j : ℕ} where
  pub taken-two : {f : Piece 2} → PieceAt 2 ρ x i f → f ≡ Of t j → Taken ρ x i (get_or t 0 0 ∷ get_or t 1 0 ∷ []) j
  taken-two h e = let u : Taken ρ x i t j × (length t ≡ 2) = rw e at h.is in subst (λ (l : List ℕ). Taken ρ x i l j) (two_of t u.1) u.0

  pub taken-four : {f : Piece 4} → PieceAt 4 ρ x i f → f ≡ Of t j → Taken ρ x i (get_or t 0 0 ∷ get_or t 1 0 ∷ get_or t 2 0 ∷ get_or t 3 0 ∷ []) j
  taken-four h e = let u : Taken ρ x i t j × (length t ≡ 4) = rw e at h.is in subst (λ (l : List ℕ). Taken ρ x i l j) (four_of t u.1) u.0
