-- Facts on what the code keeps of a list: the sums, the pairs, and the header that a trailer names.
use Rattle.std.specs.Prelude.{ℕ, suc, ◌+◌, ◌-◌, ◌<◌, Bool, true, false, cond, not, ◌&&◌, ◌||◌, List, ◌≡◌, refl, eqb, ltb, pos, negsuc}
use Rattle.std.proofs.Common.{arith, ap, ◌∙◌, sym, eq-eqb, ne_eqb, eqb-true, ltb-true, ltb-false, eqb→eq}
use Rattle.std.proofs.Math.Bool.{and-true, and-false}
use Rattle.std.proofs.lemmas.Bool.{false≢true}
use Rattle.std.proofs.Math.Option.{Option, none, some}
use Rattle.std.proofs.Math.Dec.{eqb_refl, eqb-suc-suc, leb-zero, leb-suc-suc}
use Rattle.std.proofs.Math.IntN.{sub_ℕ}
use Rattle.syntax.specs.Octets.{same}
use Rattle.syntax.proofs.TreeLaws.{off}
use Rattle.syntax.proofs.ContentLaws.{same_self}
use Rattle.grammar.specs.Lists.{Snoc, nil, ◌▷◌, each, size, any, among, Rule, always, test, holds, check, every, distinct}
use Rattle.grammar.specs.TestLaws.{is_true, passes}
use Rattle.grammar.proofs.ListsLaws.{each-size}
use Rattle.grammar.specs.Interchange.{Header, Body, plain, ack, Trailer, trailer}
use Rattle.grammar.specs.Grams as grams
use Rattle.grammar.specs.Grams.{Grams, same_grams, magnitude, sum}
use Rattle.grammar.specs.Weighed.{forward, back}
use Rattle.grammar.specs.WeighedLaws.{sum_is}
use Rattle.grammar.specs.Loads.{loads, controls, put}
use Rattle.syntax.specs.Opening.{earlier}
use Rattle.syntax.specs.declared.Version.{Version}
use Rattle.grammar.specs.Rules.{ref_h, size_at, counted, paired, one, total}
use Rattle.grammar.specs.RuleLaws.{check-holds, holds-check}
use Rattle.grammar.proofs.PlacingLaws.{same-eq}
use Rattle.message.specs.Summary.{first_in, agree_in, sums_in, sums_of, pair_of, size_h, flags_of, or_else, free_at, all_named, pairs_right, pairs_counted, total_right, size_in, named, loaded, controlled_by, controlled}

-- ---- tests

pub same_bool : (a b : Bool) → (a ≡ true → b ≡ true) → (b ≡ true → a ≡ true) → a ≡ b
same_bool true b f g = sym (f refl)
same_bool false true f g = g refl
same_bool false false f g = refl

-- two rules that say the same test the same
pub alike : (a b : Rule) → (holds a → holds b) → (holds b → holds a) → check a ≡ check b
alike a b f g = same_bool (check a) (check b) (λ e. holds-check b (f (check-holds a e))) (λ e. holds-check a (g (check-holds b e)))

same_turn : (x y : List ℕ) → same x y ≡ true → same y x ≡ true
same_turn x y e = ap (λ (z : List ℕ). same y z) (same-eq x y (passes (same x y) e)) ∙ same_self y

same-sym : (x y : List ℕ) → same x y ≡ same y x
same-sym x y = same_bool (same x y) (same y x) (same_turn x y) (same_turn y x)

-- ---- sizes

pub any-each : {A B : Type 0} (f : A → B) (s : Snoc A) → any (each f s) ≡ any s
any-each f nil = refl
any-each f (s ▷ a) = refl

-- there is one
pub any-size : {A B : Type 0} (f : A → B) (s : Snoc A) → any s ≡ ltb 0 (size (each f s))
any-size f nil = refl
any-size f (s ▷ a) = sym (leb-suc-suc 0 (size (each f s)) ∙ leb-zero (size (each f s)))

-- a place of the list is not the next one
below : {A B : Type 0} (f : A → B) (s : Snoc A) (i : ℕ) → i < size s → eqb i (size (each f s)) ≡ false
below f s i h = rw (each-size f s) (by (eqb i (size s)) refl)
  where
    by : (b : Bool) → eqb i (size s) ≡ b → eqb i (size s) ≡ false
    by true e = let k = eqb→eq i (size s) (passes (eqb i (size s)) e) in absurd (omega (arith, h, k))
    by false e = e

-- ---- grams: equal in magnitude and sign

pub alike-eqb : (a b c d : ℕ) → (a ≡ b → c ≡ d) → (c ≡ d → a ≡ b) → eqb a b ≡ eqb c d
alike-eqb a b c d f g = same_bool (eqb a b) (eqb c d) (λ e. eq-eqb c d (f (eqb-true a b e))) (λ e. eq-eqb a b (g (eqb-true c d e)))

same_parts : (a b : Grams) → same_grams a b ≡ (eqb (magnitude a) (magnitude b) && cond (grams.below a) (grams.below b) (not (grams.below b)))
same_parts (pos a) (pos b) = sym (and-true (eqb a b))
same_parts (pos a) (negsuc b) = sym (and-false (eqb a (suc b)))
same_parts (negsuc a) (pos b) = sym (and-false (eqb (suc a) b))
same_parts (negsuc a) (negsuc b) = sym (eqb-suc-suc a b) ∙ sym (and-true (eqb (suc a) (suc b)))

same-grams : (a : Grams) → same_grams a a ≡ true
same-grams (pos n) = is_true (eqb n n) (eqb_refl n)
same-grams (negsuc n) = is_true (eqb n n) (eqb_refl n)

grams-eq : (a b : Grams) → same_grams a b ≡ true → a ≡ b
grams-eq (pos a) (pos b) e = ap pos (eqb-true a b e)
grams-eq (pos a) (negsuc b) e = absurd (false≢true e)
grams-eq (negsuc a) (pos b) e = absurd (false≢true e)
grams-eq (negsuc a) (negsuc b) e = ap negsuc (eqb-true a b e)

-- z is a less b
same-sub : (z : Grams) (a b : ℕ) → same_grams z (sub_ℕ a b) ≡ cond (grams.below z) (eqb b (a + magnitude z)) (eqb a (b + magnitude z))
same-sub (pos n) a b = by (ltb a b) refl
  where
    by : (t : Bool) → ltb a b ≡ t → same_grams (pos n) (cond t (negsuc (b - suc a)) (pos (a - b))) ≡ eqb a (b + n)
    by true e = let k = ltb-true a b e in sym (ne_eqb a (b + n) (λ h. omega arith))
    by false e = let k = ltb-false a b e in alike-eqb n (a - b) a (b + n) (λ h. omega arith) (λ h. omega arith)
same-sub (negsuc n) a b = by (ltb a b) refl
  where
    by : (t : Bool) → ltb a b ≡ t → same_grams (negsuc n) (cond t (negsuc (b - suc a)) (pos (a - b))) ≡ eqb b (a + suc n)
    by true e = let k = ltb-true a b e in alike-eqb n (b - suc a) b (a + suc n) (λ h. omega arith) (λ h. omega arith)
    by false e = let k = ltb-false a b e in sym (ne_eqb b (a + suc n) (λ h. omega arith))

same_sum : (z : Grams) (s : Snoc Grams) → same_grams z (sum s) ≡ cond (grams.below z) (eqb (back s) (forward s + magnitude z)) (eqb (forward s) (back s + magnitude z))
same_sum z s = ap (same_grams z) (sum_is s) ∙ same-sub z (forward s) (back s)

-- ---- sums

pub load-sums : (s c : Snoc Grams) (o : Option Grams) → sums_in (put s o) c ≡ loaded (sums_in s c) o
load-sums s c none = refl
load-sums s c (some n) = refl

pub control-sums : (s c : Snoc Grams) (o : Option Grams) → sums_in s (put c o) ≡ controlled (sums_in s c) o
control-sums s c none = refl
control-sums s nil (some n) = first
  where
    first : sums_in s (nil ▷ n) ≡ controlled_by false (sums_in s nil) n
    first = rw (same-grams n)
control-sums s (c ▷ m) (some n) = next
  where
    next : sums_in s (c ▷ m ▷ n) ≡ controlled_by true (sums_in s (c ▷ m)) n
    next = rw (same_parts n (first_in (c ▷ m)))

-- all equal to s: the first is, and all are equal to it
all_first : (s : Grams) (c : Snoc Grams) → check (every (λ (n : Grams). test (same_grams n s)) c) ≡ (agree_in c && (not (any c) || same_grams (first_in c) s))
all_first s nil = refl
all_first s (nil ▷ n) = rw (same-grams n)
all_first s (c ▷ m ▷ n) = rw (all_first s (c ▷ m)) (swap (agree_in (c ▷ m)) (first_in (c ▷ m)) (same_grams (first_in (c ▷ m)) s) refl)
  where
    swap : (a : Bool) (f : Grams) (e : Bool) → same_grams f s ≡ e → (a && same_grams f s && same_grams n s) ≡ ((a && same_grams n f) && same_grams f s)
    swap true f true h = rw (h, grams-eq f s h) (sym (and-true (same_grams n s)))
    swap false f true h = refl
    swap true f false h = rw h (sym (and-false (same_grams n f)))
    swap false f false h = refl

-- the control totals are the sum of the loads
pub totals : (b : Body) → check (total b) ≡ total_right (sums_of b)
totals (plain b) =
    all_first (sum (loads b)) (controls b)
    ∙ ap (λ (t : Bool). agree_in (controls b) && (not (any (controls b)) || t)) (same_sum (first_in (controls b)) (loads b))
totals (ack c ls) = refl

-- ---- trailers

-- the trailers is_true far count right
pub pairs-right : (hs : Snoc Header) (ts : Snoc Trailer) → check (every (counted hs) ts) ≡ pairs_right (pair_of hs ts)
pairs-right hs nil = refl
pairs-right hs (ts ▷ trailer c r) = refl

-- where the edition counts them
pub pairs-counted : (v : Version) (hs : Snoc Header) (ts : Snoc Trailer) → check (paired v hs ts) ≡ pairs_counted v (pair_of hs ts)
pairs-counted v hs ts = by (earlier v)
  where
    by : (e : Bool) → check (cond e always (every (counted hs) ts)) ≡ cond e true (pairs_right (pair_of hs ts))
    by true = refl
    by false = pairs-right hs ts

-- each header is named
pub all_named_lem : (names refs : Snoc (List ℕ)) → check (every (one names) refs) ≡ all_named (flags_of names refs)
all_named_lem names nil = refl
all_named_lem names (refs ▷ r) = ap (λ (b : Bool). b && among names r) (all_named_lem names refs)

-- a reference that is not there names nothing
same_flags : (names refs : Snoc (List ℕ)) (r : List ℕ) → among refs r ≡ false → flags_of (names ▷ r) refs ≡ flags_of names refs
same_flags names nil r h = refl
same_flags names (refs ▷ s) r h = by (same s r) refl h (same_flags names refs r)
  where
    by : (e : Bool) → same s r ≡ e → (same s r || among refs r) ≡ false → (among refs r ≡ false → flags_of (names ▷ r) refs ≡ flags_of names refs)
        → flags_of (names ▷ r) (refs ▷ s) ≡ flags_of names (refs ▷ s)
    by true e k ih = absurd (false≢true (sym k ∙ ap (λ (b : Bool). b || among refs r) e))
    by false e k ih = rw (same-sym r s, e, ih (sym (ap (λ (b : Bool). b || among refs r) e) ∙ k))

-- what is found: nothing, where the reference is named or is no header's; else the place of the header that has it
pub data Spot (r : List ℕ) (hs : Snoc Header) (names : Snoc (List ℕ)) : Option ℕ → Type 0 where
  no : (not (among names r) && among (each ref_h hs) r) ≡ false → Spot r hs names none
  yes : (i : ℕ) → (not (among names r) && among (each ref_h hs) r) ≡ true → i < size hs → size_at r hs ≡ size_in (each size_h hs) i
      → flags_of (names ▷ r) (each ref_h hs) ≡ named (flags_of names (each ref_h hs)) i → Spot r hs names (some i)

module _ (r : List ℕ) (names : Snoc (List ℕ)) (hs : Snoc Header) (h : Header) where
  -- this header has another reference
  other : (o : Option ℕ) → same (ref_h h) r ≡ false → Spot r hs names o → Spot r (hs ▷ h) names (or_else o none)
  other o e (no k) = no (rw e k)
  other o e (yes i k l s f) =
      yes i (rw e k) (omega (arith, l))
      (rw (e, below size_h hs i l) s)
      (rw (same-sym r (ref_h h), e, below-flags i l) (ap (λ (t : Snoc Bool). t ▷ among names (ref_h h)) f))
    where
      below-flags : (i : ℕ) → i < size hs → eqb i (size (flags_of names (each ref_h hs))) ≡ false
      below-flags i l = rw (each-size (among names) (each ref_h hs)) (below ref_h hs i l)

  -- this header has it, and none before it
  this : same (ref_h h) r ≡ true → among (each ref_h hs) r ≡ false → (n : Bool) → among names (ref_h h) ≡ n
      → Spot r (hs ▷ h) names (cond (not n) (some (size (each ref_h hs))) none)
  this e d true k =
      let q : among names r ≡ true = sym (ap (among names) (same-eq (ref_h h) r (passes (same (ref_h h) r) e))) ∙ k in
      no (rw q)
  this e d false k =
      let q : among names r ≡ false = sym (ap (among names) (same-eq (ref_h h) r (passes (same (ref_h h) r) e))) ∙ k in
      let z : eqb (size hs) (size hs) ≡ true = is_true (eqb (size hs) (size hs)) (eqb_refl (size hs)) in
      yes (size (each ref_h hs)) (rw (q, e)) (rw (each-size ref_h hs) (omega arith))
      (rw (e, each-size ref_h hs, each-size size_h hs, z))
      (rw (same-sym r (ref_h h), e, each-size ref_h hs, each-size (among names) (each ref_h hs), each-size ref_h hs, z, same_flags names (each ref_h hs) r d))

  apart : same (ref_h h) r ≡ true → holds (distinct (each ref_h hs ▷ ref_h h)) → among (each ref_h hs) r ≡ false
  apart e d = sym (ap (among (each ref_h hs)) (same-eq (ref_h h) r (passes (same (ref_h h) r) e))) ∙ off (among (each ref_h hs) (ref_h h)) d.1

  last : (o : Option ℕ) (e : Bool) → same (ref_h h) r ≡ e → holds (distinct (each ref_h hs ▷ ref_h h)) → Spot r hs names o
      → Spot r (hs ▷ h) names (or_else o (cond (e && not (among names (ref_h h))) (some (size (each ref_h hs))) none))
  last o false e d k = other o e k
  last o true e d (no k) = this e (apart e d) (among names (ref_h h)) refl
  last o true e d (yes i k l s f) = absurd (false≢true (sym (and-false (not (among names r))) ∙ ap (λ (b : Bool). not (among names r) && b) (sym (apart e d)) ∙ k))

-- the search finds it
pub spot : (r : List ℕ) (hs : Snoc Header) (names : Snoc (List ℕ)) → holds (distinct (each ref_h hs))
    → Spot r hs names (free_at r (each ref_h hs) (flags_of names (each ref_h hs)))
spot r nil names d = no (and-false (not (among names r)))
spot r (hs ▷ h) names d = last r names hs h (free_at r (each ref_h hs) (flags_of names (each ref_h hs))) (same (ref_h h) r) refl d (spot r hs names d.0)
