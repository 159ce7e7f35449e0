-- A refusal of the verdict is one of the numbers 1 to 12 of "Numbers given back": none of them is 0, which the accepted case has, nor 13 and up, which the calls add.
use Rattle.syntax.specs.declared.opening.Start.{Start}
use Rattle.syntax.specs.declared.Breach.{Breach}
use Rattle.std.specs.Prelude.{ℕ, ◌+◌, ◌≤◌, Bool, true, false, cond, not, ◌&&◌, List, [], ◌∷◌, ◌≡◌, refl, T, eqb, leb, ltb, length, drop, Result, Option, Ok, Err, Some, None}
use Rattle.std.proofs.Math.Option.{Option as Maybe, none, some}
use Rattle.std.proofs.Common.{subst, leb-true}
use Rattle.syntax.specs.declared.Refusal.{Refusal}
use Rattle.syntax.specs.Octets.{within}
use Rattle.syntax.specs.Service.{without_repetition, fit}
use Rattle.syntax.specs.Content.{content}
use Rattle.syntax.specs.Cutting.{end_at, tag_of}
use Rattle.syntax.specs.Segment.{component_at, part_of}
use Rattle.syntax.specs.Opening.{goes, repeating, starts_una, una_service, opening_of, level_named, version_named, settled, both_named, is_tag, is_unb, is_there, begun_by, begun_of}
use Rattle.syntax.specs.Tree.{Segment, print_s}
use Rattle.syntax.specs.Reader.{Chain, over, left, open', chain, cut}
use Rattle.syntax.specs.declared.Syntax.{Syntax}
use Rattle.syntax.specs.declared.Level.{Level}
use Rattle.syntax.specs.declared.Version.{Version}
use Rattle.syntax.specs.declared.opening.Opening.{Opening}
use Rattle.grammar.specs.Interchange.{Reading, start, idle, busy, done}
use Rattle.grammar.specs.Placing.{place}
use Rattle.grammar.specs.Valid.{Una}
use Rattle.grammar.specs.Verdict.{Test, tested, tests, Answer, read, refused, decided, then, at_end, unless-done, tagged-or, walk, Verdict, accepted, refused_with, una_at, concluded, verdict_by, verdict_of}

abbrev Number : ℕ → Type 0
Number n = T (within 1 12 n)

-- of either case, so of their choice
pub either : {A : Type 0} (P : A → Type 0) (b : Bool) {x y : A} → P x → P y → P (cond b x y)
either P true p q = p
either P false p q = q

-- ---- the start of the interchange: 1, 2, 4, 5, 6

abbrev OfOpened : Result Opening Breach → Type 0
OfOpened (Ok o) = Unit {0}
OfOpened (Err f) = Number f.number

abbrev OfBegun : Result Start Breach → Type 0
OfBegun (Ok x) = Unit {0}
OfBegun (Err f) = Number f.number

opened-number : (s : List ℕ) → OfOpened (opening_of s)
opened-number s =
    either OfOpened (eqb (length s) 0) tt
    (either OfOpened (ltb 65535 (length s)) tt
    (either OfOpened (starts_una s)
    (either OfOpened (ltb (length s) 9) tt (either OfOpened (fit (una_service s)) tt tt)) tt))

settled-number : (o : Opening) (l : Level) (v : Version) → OfBegun (settled o l v)
settled-number o l v = either OfBegun (repeating v) tt (either OfBegun (o.una && not (eqb o.service.repetition 32)) tt tt)

named-number : (o : Opening) (l : Option Level) (v : Option Version) → OfBegun (both_named o l v)
named-number o (Some l) (Some v) = either OfBegun (goes l v) (settled-number o l v) tt
named-number o (Some l) None = tt
named-number o None v = tt

begun-number : (s : List ℕ) → OfBegun (begun_of s)
begun-number s = by (opening_of s) (opened-number s)
  where
    by : (o : Result Opening Breach) → OfOpened o → OfBegun (begun_by s o)
    by (Err f) h = h
    by (Ok o) h =
        either OfBegun (leb (length s) o.at) tt
        (either OfBegun (not (is_there (end_at (without_repetition o.service) s o.at))) tt
        (either OfBegun (not (is_tag (tag_of o.service (drop o.at s)))) tt
        (either OfBegun (not (is_unb (tag_of o.service (drop o.at s)))) tt
        (named-number o (level_named (content (without_repetition o.service).release (part_of s (component_at (without_repetition o.service) s o.at 1 0))))
        (version_named (content (without_repetition o.service).release (part_of s (component_at (without_repetition o.service) s o.at 1 1))))))))

-- ---- the segments: 4 and 7 where there is none to read, else the tests' 3, 7 to 12

abbrev OfAnswer : Answer → Type 0
OfAnswer (read x) = Unit {0}
OfAnswer (refused n p) = Number n

abbrev OfTests : List Test → Type 0
OfTests [] = Unit {0}
OfTests (tested n p b ∷ ts) = Number n × OfTests ts

decided-number : (ts : List Test) (x : Maybe Reading) → OfTests ts → OfAnswer (decided ts x)
decided-number [] none h = tt
decided-number [] (some x) h = tt
decided-number (tested n p b ∷ ts) x h = either OfAnswer b (decided-number ts x h.1) h.0

tests-number : (y : Syntax) (g : Segment) (p : ℕ) (x : Maybe Reading) → OfTests (tests y g p x)
tests-number y g p x = (tt, (tt, (tt, (tt, (tt, (tt, (tt, tt)))))))

then-number : (a : Answer) (k : Reading → Answer) → OfAnswer a → ((z : Reading) → OfAnswer (k z)) → OfAnswer (then a k)
then-number (read x) k h f = f x
then-number (refused n p) k h f = h

end-number : (x : Reading) (p : ℕ) → OfAnswer (at_end x p)
end-number start p = tt
end-number (idle u ms) p = tt
end-number (busy u ms o) p = tt
end-number (done u ms z) p = tt

unless-number : (x : Reading) (p : ℕ) (a : Answer) → OfAnswer a → OfAnswer (unless-done x p a)
unless-number start p a h = h
unless-number (idle u ms) p a h = h
unless-number (busy u ms o) p a h = h
unless-number (done u ms z) p a h = tt

tagged-number : (p : ℕ) (o : Maybe Segment) (k : Segment → Answer) → ((g : Segment) → OfAnswer (k g)) → OfAnswer (tagged-or p o k)
tagged-number p none k f = tt
tagged-number p (some g) k f = f g

-- a segment g at p, and what comes behind it
abbrev onward : Syntax → Chain → ℕ → Segment → Reading → Answer
onward y n p g z = walk y z n (p + length (print_s y.service g))

abbrev stepped : Syntax → Reading → Chain → ℕ → Segment → Answer
stepped y x n p g = then (decided (tests y g p (place x g)) (place x g)) (onward y n p g)

walk-number : (y : Syntax) (x : Reading) (c : Chain) (p : ℕ) → OfAnswer (walk y x c p)
walk-number y x over p = end-number x p
walk-number y x left p = unless-number x p (refused 4 p) tt
walk-number y x (open' c cs rs es n) p =
    unless-number x p (tagged-or p (cut c cs rs es) (stepped y x n p))
    (tagged-number p (cut c cs rs es) (stepped y x n p)
    (λ g. then-number (decided (tests y g p (place x g)) (place x g)) (onward y n p g)
    (decided-number (tests y g p (place x g)) (place x g) (tests-number y g p (place x g)))
    (λ z. walk-number y z n (p + length (print_s y.service g)))))

-- ---- the verdict

abbrev OfVerdict : Verdict → Type 0
OfVerdict (accepted t) = Unit {0}
OfVerdict (refused_with f) = Number f.number

concluded-number : (s : List ℕ) (u : Maybe Una) (a : Answer) → OfAnswer a → OfVerdict (concluded s u a)
concluded-number s u (read start) h = tt
concluded-number s u (read (idle b ms)) h = tt
concluded-number s u (read (busy b ms o)) h = tt
concluded-number s u (read (done b ms z)) h = tt
concluded-number s u (refused n p) h = h

verdict-number : (s : List ℕ) → OfVerdict (verdict_of s)
verdict-number s = by (begun_of s) (begun-number s)
  where
    by : (b : Result Start Breach) → OfBegun b → OfVerdict (verdict_by s b)
    by (Err f) h = h
    by (Ok x) h =
        concluded-number s (una_at s) (walk x.syntax start (chain x.syntax.service false (drop x.at s)) x.at)
        (walk-number x.syntax start (chain x.syntax.service false (drop x.at s)) x.at)

pub refused-number : (s : List ℕ) (f : Refusal) → verdict_of s ≡ refused_with f → (1 ≤ f.number) × (f.number ≤ 12)
refused-number s f e =
    by (leb 1 f.number) (leb-true 1 f.number) (leb f.number 12) (leb-true f.number 12) (subst OfVerdict e (verdict-number s))
  where
    by : (a : Bool) → (a ≡ true → 1 ≤ f.number) → (b : Bool) → (b ≡ true → f.number ≤ 12) → T (a && b) → (1 ≤ f.number) × (f.number ≤ 12)
    by true k true g h = (k refl, g refl)
    by true k false g h = absurd h
    by false k b g h = absurd h
