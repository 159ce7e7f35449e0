-- A USA or a USC that may come does not overflow its count; what a load and a control total do to the sums.
use Rattle.std.specs.Prelude.{ℕ, zero, suc, ◌+◌, ◌-◌, ◌≤◌, ◌<◌, Bool, true, false, cond, ◌&&◌, not, ◌≡◌, refl, eqb, ltb}
use Rattle.std.proofs.Common.{add-zero, add-one, arith, ap, sym, ◌∙◌, eq-eqb, ne_eqb, ltb-true}
use Rattle.std.proofs.Math.Option.{some}
use Rattle.syntax.specs.RepertoireLaws.{and_r}
use Rattle.grammar.specs.Grams.{signed, below}
use Rattle.grammar.specs.Weighed.{loaded_by, tipped_by}
use Rattle.elements.specs.AmountsLaws.{magnitude-signed}
use Rattle.message.specs.FlagLaws.{alike-eqb}
use Rattle.message.specs.Summary.{usa_may, usc_may, total_right, loaded, same_control, controlled}
use Rattle.message.specs.declared.Sums.{Sums}
use Rattle.message.specs.declared.Group.{Group}
use Rattle.message.specs.declared.Group.TheVariants.{Header, Certificate}

pub usa-header : (g : Group) {n : ℕ} → usa_may g ≡ true → g ≡ Header n → n < 3
usa-header g {n} h e = ltb-true n 3 (ap usa_may (sym e) ∙ h)

pub usa-certificate : (g : Group) {n m : ℕ} {r : Bool} → usa_may g ≡ true → g ≡ Certificate n m r → m < 3
usa-certificate g {n} {m} {r} h e = ltb-true m 3 (and_r (not r) (ltb m 3) (ap usa_may (sym e) ∙ h))

pub usc-certificate : (g : Group) {n m : ℕ} {r : Bool} → usc_may g ≡ true → g ≡ Certificate n m r → n < 2
usc-certificate g {n} h e = let k : suc n < 2 = ltb-true (suc n) 2 (ap usc_may (sym e) ∙ h) in omega arith

-- ---- grams behind a minus, or not

pub loaded-signed : (b : Bool) (n : ℕ) → loaded_by (signed b n) ≡ cond b 0 n
loaded-signed true zero = refl
loaded-signed true (suc n) = refl
loaded-signed false n = refl

pub tipped-signed : (b : Bool) (n : ℕ) → tipped_by (signed b n) ≡ cond b n 0
tipped-signed true zero = refl
tipped-signed true (suc n) = refl
tipped-signed false n = refl

-- ---- a number and so many more

module _ (more less by : ℕ) where
  pub fewer : more < less → false ≡ eqb more (less + by)
  fewer h = sym (ne_eqb more (less + by) (λ e. omega arith))

  pub difference : less ≤ more → eqb (more - less) by ≡ eqb more (less + by)
  difference h = alike-eqb (more - less) by more (less + by) (λ e. omega arith) (λ e. omega arith)

-- ---- the sums

module _ (u : Sums) {r : Bool} (a : u.agree ≡ true) (c : u.controlled ≡ true) where
  pub total-back : u.below ≡ true → r ≡ eqb u.back (u.grams + u.control) → r ≡ total_right u
  total-back b e = rw (a, c, b) e

  pub total-forward : u.below ≡ false → r ≡ eqb u.grams (u.back + u.control) → r ≡ total_right u
  total-forward b e = rw (a, c, b) e

-- a load of n grams, behind a minus or not
module _ (u : Sums) (n : ℕ) (b : Bool) where
  pub load-back : b ≡ true →
      ◌≡◌ {A = Sums}
      (record { loads = u.loads + 1; grams = u.grams; back = u.back + n; controlled = u.controlled; control = u.control; below = u.below; agree = u.agree })
      (loaded u (some (signed b n)))
  load-back e = rw (e, loaded-signed true n, tipped-signed true n, add-zero, add-one)

  pub load-forward : b ≡ false →
      ◌≡◌ {A = Sums}
      (record { loads = u.loads + 1; grams = u.grams + n; back = u.back; controlled = u.controlled; control = u.control; below = u.below; agree = u.agree })
      (loaded u (some (signed b n)))
  load-forward e = rw (e, add-zero, add-one)

-- a control total of n grams
module _ (u : Sums) (n : ℕ) (b : Bool) where
  pub control-other : (n ≡ u.control → ⊥) → false ≡ same_control u n b
  control-other e = rw (ne_eqb n u.control e)

  module _ (e : n ≡ u.control) where
    pub control-back : b ≡ true → u.below ≡ same_control u n b
    control-back h = rw (eq-eqb n u.control e, h)

    pub control-forward : b ≡ false → not u.below ≡ same_control u n b
    control-forward h = rw (eq-eqb n u.control e, h)

  pub control-parted : u.controlled ≡ true → u.agree ≡ false →
      ◌≡◌ {A = Sums}
      (record { loads = u.loads; grams = u.grams; back = u.back; controlled = true; control = u.control; below = u.below; agree = u.agree })
      (controlled u (some (signed b n)))
  control-parted e a = rw (e, a)

  module _ (z : below (signed b n) ≡ b) where
    pub control-first : u.controlled ≡ false →
        ◌≡◌ {A = Sums}
        (record { loads = u.loads; grams = u.grams; back = u.back; controlled = true; control = n; below = b; agree = true })
        (controlled u (some (signed b n)))
    control-first e = rw (e, magnitude-signed b n, z)

    pub control-more : {s : Bool} → u.controlled ≡ true → u.agree ≡ true → s ≡ same_control u n b →
        ◌≡◌ {A = Sums}
        (record { loads = u.loads; grams = u.grams; back = u.back; controlled = true; control = u.control; below = u.below; agree = s })
        (controlled u (some (signed b n)))
    control-more e a q = rw (e, a, magnitude-signed b n, z, q)
