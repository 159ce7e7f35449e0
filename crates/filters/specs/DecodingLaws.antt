-- Reading under way: what is right for the rest is right for the whole.
use Rattle.std.specs.Prelude.{ℕ, ◌+◌, List, [], ◌++◌, ◌≡◌, refl, Bool, true, false, cond, ltb, ◌≤◌, ◌<◌, length, Option, Some, None}
use Rattle.std.proofs.Common.{arith, ap, sym, ◌∙◌, length-append, ltb-true, ltb-false}
use Rattle.std.proofs.lemmas.Option.{cond_some, none-some}
use Rattle.std.proofs.Math.Option.{Option as Maybe, none, some}
use Rattle.writing.specs.Laid.{Laid}
use Rattle.writing.specs.LaidLaws.{sets-joined}
use Rattle.filters.specs.Octets.{before}
use Rattle.filters.specs.Decoding.{DecodesBy, Decodes}

pub record Decoding (x₀ : Maybe (List ℕ)) (out₀ : List ℕ) (n₀ : ℕ) (x : Maybe (List ℕ)) (out : List ℕ) (n : ℕ) : Type 0 where
  pub on : (r : Option ℕ) (out' : List ℕ) → Decodes x out n r out' → Decodes x₀ out₀ n₀ r out'

pub decoding-start : {x : Maybe (List ℕ)} {out : List ℕ} {n : ℕ} → Decoding x out n x out n
decoding-start = record { on = λ r out' h. h }

module _ {v : List ℕ} {n n' : ℕ} {out o : List ℕ} (g : Laid out n v n' o) where
  after : (x : Maybe (List ℕ)) (r : Option ℕ) (out' : List ℕ) → DecodesBy x o n' r out' → DecodesBy (before v x) out n r out'
  after none r out' h = h
  after (some w) r out' h =
      let e : n' + length w ≡ n + length (v ++ w) = omega (arith, g.place, length-append v w) in
      (h.0 ∙ ap Some e, h.1 ∙ rw (g.octets, g.place) (sym (sets-joined out n v w)))

module _ {x₀ : Maybe (List ℕ)} {out₀ : List ℕ} {n₀ : ℕ} where
  pub decoding-same : {x y : Maybe (List ℕ)} {n : ℕ} {out : List ℕ} → Decoding x₀ out₀ n₀ x out n → x ≡ y → Decoding x₀ out₀ n₀ y out n
  decoding-same g e = rw (← e) g

  -- octets laid
  pub decoding-laid : {v : List ℕ} {x y : Maybe (List ℕ)} {n n' : ℕ} {out o : List ℕ} → Decoding x₀ out₀ n₀ y out n → y ≡ before v x → Laid out n v n' o → Decoding x₀ out₀ n₀ x o n'
  decoding-laid {x = x} g e h = record { on = λ r o h'. g.on r o (record { is = rw e (after h x r o h'.is) }) }

  pub decoding-bad : {out out' : List ℕ} {n : ℕ} → Decoding x₀ out₀ n₀ none out n → Decodes x₀ out₀ n₀ None out'
  decoding-bad g = g.on _ _ (record { is = refl })

  pub decoding-end : {out : List ℕ} {n : ℕ} → Decoding x₀ out₀ n₀ (some []) out n → Decodes x₀ out₀ n₀ (Some n) out
  decoding-end {out} {n} g = let e : n ≡ n + 0 = omega arith in g.on _ _ (record { is = (ap Some e, refl) })

-- all octets laid by one call
pub decodes-laid : {v : List ℕ} {n m : ℕ} {out o : List ℕ} → Laid out n v m o → Decodes (some v) out n (Some m) o
decodes-laid g = record { is = (ap Some g.place, g.octets) }

-- ---- a digit that stands for v, where v is below n

module _ (n v : ℕ) {u : Option ℕ} (e : u ≡ cond (ltb v n) (Some v) None) where
  pub digit-some : {a : ℕ} → u ≡ Some a → (a ≡ v) × (v < n)
  digit-some {a} d = let k = cond_some (ltb v n) v a (sym e ∙ d) in (sym k.1, ltb-true v n k.0)

  pub digit-none : u ≡ None → n ≤ v
  digit-none d = by (ltb v n) refl (sym e ∙ d)
    where
      by : (b : Bool) → ltb v n ≡ b → cond b (Some v) None ≡ None → n ≤ v
      by true k z = absurd (none-some v (sym z))
      by false k z = ltb-false v n k
