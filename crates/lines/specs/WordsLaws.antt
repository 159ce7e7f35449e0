-- Laws of content laid octet by octet, and of texts one behind the other.
use Rattle.std.specs.Prelude.{ℕ, ◌+◌, ◌≤◌, ◌<◌, List, ◌≡◌, refl, length, set, take, drop, Option, Some, None}
use Rattle.std.proofs.Common.{arith, ap, length-take, length-drop}
use Rattle.syntax.specs.Content.{content}
use Rattle.syntax.specs.Scanning.{next_of}
use Rattle.syntax.proofs.ContentLaws.{next-steps, next-over}
use Rattle.syntax.specs.Segment.{component_at, part_of}
use Rattle.syntax.specs.declared.Service.{Service}
use Rattle.writing.specs.Laid.{Laid}
use Rattle.writing.specs.LaidLaws.{Rest, rest-start, rest-same, rest_put, rest_end}

-- ---- content under way: what is left of it is that of x from i on

pub record Contenting (ρ : ℕ) (out₀ : List ℕ) (at : ℕ) (x : List ℕ) (i : ℕ) (out : List ℕ) (p : ℕ) : Type 0 where
  pub inside : i ≤ length x
  pub near : p ≤ at + i
  pub going : Rest out₀ at (content ρ x) (content ρ (drop i x)) out p

pub contenting-start : {ρ : ℕ} {out : List ℕ} {at : ℕ} {x : List ℕ} → Contenting ρ out at x 0 out at
contenting-start = record { inside = omega arith; near = omega arith; going = rest-start }

module _ {ρ : ℕ} {out₀ : List ℕ} {at : ℕ} {x : List ℕ} {i : ℕ} {out : List ℕ} {p : ℕ} (g : Contenting ρ out₀ at x i out p) {n : Option (ℕ × ℕ)} (e : n ≡ next_of ρ (drop i x) i) where
  module _ {b j : ℕ} (q : n ≡ Some (b, j)) where
    pub contenting-inside : (i < j) × (j ≤ length x)
    contenting-inside = let k = next-steps ρ x i e q in (k.forward, k.inside)

    pub contenting-on : {out' : List ℕ} → out' ≡ set out p b → Contenting ρ out₀ at x j out' (p + 1)
    contenting-on d =
        let k = next-steps ρ x i e q in
        record { inside = k.inside; near = omega (arith, g.near, k.forward); going = rest_put (rest-same g.going k.gives) refl d }

  pub contenting-end : n ≡ None → Laid out₀ at (content ρ x) p out × (p ≤ at + length x)
  contenting-end q = (rest_end (rest-same g.going (next-over ρ x i e q)), omega (arith, g.near, g.inside))

-- a part of the interchange is no longer than that
part-short : (s : List ℕ) (x : Option (ℕ × ℕ)) → length (part_of s x) ≤ length s
part-short s (Some (a, e)) = omega (arith, length-drop a (take e s), length-take e s)
part-short s None = omega (arith, length-drop 0 (take 0 s), length-take 0 s)

pub name-few : (σ : Service) (s : List ℕ) (a e : ℕ) {p : List ℕ} → p ≡ part_of s (component_at σ s a e 0) → length s ≤ 65535 → length p ≤ 65535
name-few σ s a e {p} q h =
    let n : length p ≡ length (part_of s (component_at σ s a e 0)) = ap length q in
    omega (arith, n, part-short s (component_at σ s a e 0))
