-- Messages are parted into AUTACKs, a run of others, and AUTACKs in one way.
use Rattle.std.specs.Prelude.{ℕ, ◌≡◌, refl, Bool, true, false, cond, not, ◌&&◌, T}
use Rattle.std.proofs.Common.{arith, ap, ◌∙◌, sym, subst}
use Rattle.std.proofs.lemmas.Bool.{false≢true}
use Rattle.grammar.specs.Lists.{Snoc, nil, ◌▷◌, ◌+++◌, any, holds, check, every}
use Rattle.grammar.specs.RuleLaws.{check-holds, holds-check}
use Rattle.grammar.specs.TestLaws.{is_true}
use Rattle.grammar.specs.Interchange.{Message}
use Rattle.syntax.specs.RepertoireLaws.{and_l, and_r}
use Rattle.spans.specs.Span.{autack_m, Parted, parted, joined_by, parted_of, other, run_right}
use Rattle.spans.specs.SpanLaws.{autack}
use Rattle.demands.specs.Stated.{In}
use Rattle.demands.specs.OnceLaws.{every_in}
use Rattle.demands.specs.TiedLaws.{in-last, in-earlier}

-- ---- what is told of each

pub each-autack : {s : Snoc Message} → holds (every autack s) → (x : Message) → In x s → autack_m x ≡ true
each-autack h x w = is_true (autack_m x) (every_in autack h w)

pub each-other : {s : Snoc Message} → T (run_right s) → (x : Message) → In x s → autack_m x ≡ false
each-other {s} h x w = by (autack_m x) (every_in other (check-holds (every other s) (and_r (any s) (check (every other s)) (is_true (run_right s) h))) w)
  where
    by : (b : Bool) → T (not b) → b ≡ false
    by true k = absurd k
    by false k = refl

pub some-there : (s : Snoc Message) → T (run_right s) → any s ≡ true
some-there s h = and_l (any s) (check (every other s)) (is_true (run_right s) h)

pub other-so : (x : Message) → autack_m x ≡ false → holds (other x)
other-so x e = subst (λ (b : Bool). T (not b)) (sym e) tt

pub right-run : (s : Snoc Message) → any s ≡ true → ((x : Message) → In x s → autack_m x ≡ false) → run_right s ≡ true
right-run s a n = ap (λ (b : Bool). b && check (every other s)) a ∙ holds-check (every other s) (all s n)
  where
    all : (s : Snoc Message) → ((x : Message) → In x s → autack_m x ≡ false) → holds (every other s)
    all nil n = tt
    all (s ▷ x) n = (all s (λ y w. n y (in-earlier w)), other-so x (n x (in-last refl)))

-- ---- so they are parted

only-before : (b : Snoc Message) → ((x : Message) → In x b → autack_m x ≡ true) → parted_of b ≡ parted b nil nil
only-before nil n = refl
only-before (b ▷ x) n =
    ap (λ (p : Parted). joined_by p x) (only-before b (λ y w. n y (in-earlier w))) ∙ ap (λ (c : Bool). cond c (parted (b ▷ x) nil nil) (parted b (nil ▷ x) nil)) (n x (in-last refl))

with-run : (b r : Snoc Message) → ((x : Message) → In x b → autack_m x ≡ true) → ((x : Message) → In x r → autack_m x ≡ false) → parted_of (b +++ r) ≡ parted b r nil
with-run b nil n k = only-before b n
with-run b (nil ▷ x) n k =
    ap (λ (p : Parted). joined_by p x) (only-before b n) ∙ ap (λ (c : Bool). cond c (parted (b ▷ x) nil nil) (parted b (nil ▷ x) nil)) (k x (in-last refl))
with-run b (r ▷ y ▷ x) n k =
    ap (λ (p : Parted). joined_by p x) (with-run b (r ▷ y) n (λ z w. k z (in-earlier w)))
    ∙ ap (λ (c : Bool). cond c (parted b (r ▷ y) (nil ▷ x)) (parted b (r ▷ y ▷ x) nil)) (k x (in-last refl))

pub parted-so : (b r a : Snoc Message) → ((x : Message) → In x b → autack_m x ≡ true) → any r ≡ true → ((x : Message) → In x r → autack_m x ≡ false) → ((x : Message) → In x a → autack_m x ≡ true)
    → parted_of (b +++ r +++ a) ≡ parted b r a
parted-so b r nil n o k l = with-run b r n k
parted-so b nil (a ▷ x) n o k l = absurd (false≢true o)
parted-so b (r ▷ y) (a ▷ x) n o k l =
    ap (λ (p : Parted). joined_by p x) (parted-so b (r ▷ y) a n o k (λ z w. l z (in-earlier w)))
    ∙ ap (λ (c : Bool). cond c (parted b (r ▷ y) (a ▷ x)) (parted b (r ▷ y +++ a ▷ x) nil)) (l x (in-last refl))
