-- Laws of the seal lines as the code lays them.
use Rattle.std.specs.Prelude.{ℕ, ◌+◌, ◌-◌, ◌*◌, ◌≤◌, ◌<◌, Bool, true, false, List, ◌≡◌, get_or, Option, Some, None}
use Rattle.std.proofs.Common.{add-one, arith, ap, sym, ◌∙◌, lt-ltb, le-ltb}
use Rattle.syntax.specs.Octets.{octets, same}
use Rattle.syntax.specs.declared.Service.{Service}
use Rattle.syntax.specs.Content.{content, compared}
use Rattle.syntax.specs.Segment.{component_at, part_of}
use Rattle.groups.specs.Groups.{sought_in}
use Rattle.groups.specs.declared.named.Range.{Range}
use Rattle.walk.specs.declared.sections.Layout.{Layout}
use Rattle.writing.specs.Laid.{Laid}
use Rattle.writing.specs.LaidLaws.{laid_same, laid_more, laid_none}
use Rattle.lines.specs.Words.{octets_words, covered_words}
use Rattle.lines.specs.Seals.{next_at, Near, up_to, two_at, seal_at, seals_at}

-- ---- where the next group starts

module _ (c : Layout) (rows : List ℕ) {i : ℕ} where
  pub next_start : i < c.headers → get_or rows i 0 ≡ next_at c rows i
  next_start h = rw (lt-ltb i c.headers h)

  pub next-body : c.headers ≤ i → c.body ≡ next_at c rows i
  next-body h = rw (le-ltb i c.headers h)

-- ---- to the trailer

module _ (σ : Service) (s rows : List ℕ) (c : Layout) (start : ℕ) {p : List ℕ} {k : Option Range} (n : p ≡ part_of s (component_at σ s start 2 0))
    (e : k ≡ sought_in σ s rows 9 1 (compared (content σ.release p)) c.trailers c.unt) where
  up-to-found : up_to start k ≡ two_at σ s rows c start
  up-to-found = ap (up_to start) (e ∙ ap (λ (x : List ℕ). sought_in σ s rows 9 1 (compared (content σ.release x)) c.trailers c.unt) n)

  pub up-to-start : {g : Range} {r : ℕ} → k ≡ Some g → r ≡ g.start - start → r ≡ two_at σ s rows c start
  up-to-start d q = q ∙ ap (up_to start) (sym d) ∙ up-to-found

  pub up-to-none : k ≡ None → 0 ≡ two_at σ s rows c start
  up-to-none d = ap (up_to start) (sym d) ∙ up-to-found

-- ---- what is covered, by the scope code

module _ (scope : List ℕ) (one two : ℕ) {out : List ℕ} {at : ℕ} {b : Bool} (e : b ≡ same scope (octets "1")) where
  pub covered_one : {n r : ℕ} {out' : List ℕ} → b ≡ true → Laid out at (octets_words n) r out' → n ≡ one → Laid out at (covered_words scope one two) r out'
  covered_one h g q = laid_same (ap octets_words q ∙ rw (← e, h)) g

  module _ {d : Bool} (h : b ≡ false) (f : d ≡ same scope (octets "2")) where
    pub covered-two : {n r : ℕ} {out' : List ℕ} → d ≡ true → n ≡ two → Laid out at (octets_words n) r out' → Laid out at (covered_words scope one two) r out'
    covered-two k q g = laid_same (ap octets_words q ∙ rw (← e, h, ← f, k)) g

    pub covered_none : d ≡ false → Laid out at (covered_words scope one two) at out
    covered_none k = laid_same (rw (← e, h, ← f, k)) laid_none

-- ---- the lines so far: those of the first i headers

pub record Sealing (σ : Service) (s rows : List ℕ) (c : Layout) (out₀ : List ℕ) (at : ℕ) (i : ℕ) (out : List ℕ) (p : ℕ) : Type 0 where
  pub fewer : i ≤ c.headers
  pub near : p ≤ at + 131200 * i
  pub laid : Laid out₀ at (seals_at σ s rows c i (next_at c rows i)) p out

module _ {σ : Service} {s rows : List ℕ} {c : Layout} {out₀ : List ℕ} {at : ℕ} where
  pub sealing-start : Sealing σ s rows c out₀ at 0 out₀ at
  sealing-start = record { fewer = omega arith; near = omega arith; laid = laid_none }

  module _ {i : ℕ} {out : List ℕ} {p : ℕ} (g : Sealing σ s rows c out₀ at i out p) where
    pub sealing-on : {start end r : ℕ} {out' : List ℕ} → i < c.headers → start ≡ get_or rows i 0 → end ≡ next_at c rows (i + 1) → Laid out p (seal_at σ s rows c start end) r out' → r ≤ p + 131200
        → Sealing σ s rows c out₀ at (i + 1) out' r
    sealing-on {start} {end} h a b w n =
        let z : next_at c rows i ≡ get_or rows i 0 = sym (next_start c rows h) in
        let l : Laid out₀ at (seals_at σ s rows c i (get_or rows i 0)) p out = laid_same (ap (seals_at σ s rows c i) z) g.laid in
        let m = laid_more l (laid_same (ap (λ (k : ℕ). seal_at σ s rows c k end) a ∙ ap (seal_at σ s rows c (get_or rows i 0)) b) w) in
        record {
          fewer = omega arith;
          near = omega (arith, g.near, n);
          laid = laid_same (ap (λ (k : ℕ). seals_at σ s rows c k (next_at c rows (i + 1))) (sym (add-one i))) m;
        }

    pub sealing-end : c.headers ≤ i → Near c rows → Laid out₀ at (seals_at σ s rows c c.headers c.body) p out × (p ≤ at + 1180800)
    sealing-end h w =
        let f = g.fewer in
        let e : i ≡ c.headers = omega (arith, f) in
        let k = w.headers in
        (laid_same (ap (seals_at σ s rows c i) (sym (next-body c rows h)) ∙ ap (λ (n : ℕ). seals_at σ s rows c n c.body) e) g.laid, omega (arith, g.near, e, k))
