-- What stands in the new segments is what was put there; and UNT's count, four more.
use Rattle.std.specs.Prelude.{ℕ, zero, suc, ◌+◌, ◌*◌, ◌/◌, ◌%◌, ◌≤◌, ◌<◌, ◌≡◌, refl, List, [], ◌∷◌, Bool, true, false, cond, ltb, length}
use Rattle.std.proofs.Common.{arith, ap, ◌∙◌, lt-ltb}
use Rattle.syntax.specs.Content.{value_from, compared}
use Rattle.syntax.proofs.ContentLaws.{power}
use Rattle.syntax.specs.Service.{serves}
use Rattle.syntax.specs.Octets.{octets}
use Rattle.syntax.specs.Opening.{earlier}
use Rattle.syntax.specs.Tree.{octet_in, content_in}
use Rattle.syntax.specs.Tree as syntax
use Rattle.syntax.specs.declared.Service.{Service}
use Rattle.syntax.specs.declared.Version.{Version}
use Rattle.grammar.specs.Segments.{element_content, number, unt0062, usr0560}
use Rattle.grammar.specs.Interchange.{Leaf}
use Rattle.grammar.specs.Rules.{ref_h, ref_t}
use Rattle.writing.specs.Decimal.{digits_before, decimal_of}
use Rattle.writing.specs.DecimalLaws.{decimal-value}
use Rattle.weaving.specs.Seals.{plains, released, several, usr_leaf, new_header, new_trailer, grown}

-- ---- contents

pub plains-content : (t : List ℕ) → content_in (plains t) ≡ t
plains-content [] = refl
plains-content (b ∷ t) = ap (λ (l : List ℕ). b ∷ l) (plains-content t)

pub released-content : (σ : Service) (t : List ℕ) → content_in (released σ t) ≡ t
released-content σ [] = refl
released-content σ (b ∷ t) = by (serves σ b) ∙ ap (λ (l : List ℕ). b ∷ l) (released-content σ t)
  where
    by : (c : Bool) → octet_in (cond c (syntax.freed b) (syntax.plain b)) ∷ content_in (released σ t) ≡ b ∷ content_in (released σ t)
    by true = refl
    by false = refl

pub ref-header : (r : List ℕ) (f : ℕ) → ref_h (new_header r f) ≡ compared r
ref-header r f = ap compared (plains-content r)

pub ref-trailer : (v : Version) (σ : Service) (r t : List ℕ) → ref_t (new_trailer v σ r t) ≡ compared r
ref-trailer v σ r t = ap compared (plains-content r)

-- in either edition the new USR's 0560 is the text
pub value-content : (v : Version) (σ : Service) (t : List ℕ) → usr0560 v (usr_leaf v σ t) ≡ t
value-content v σ t = by (earlier v) ∙ released-content σ t
  where
    by : (e : Bool) → element_content (cond e (several (released σ t) []) (several (plains (octets "1")) (released σ t ∷ [])) ∷ []) 1 (cond e 0 1) ≡ content_in (released σ t)
    by true = refl
    by false = refl

-- ---- numbers of few digits

pub digits-some : (more n : ℕ) (t : List ℕ) → suc (length t) ≤ length (digits_before more n t)
digits-some zero n t = omega arith
digits-some (suc more) n t = pick (ltb n 10) (digits-some more (n / 10) ((48 + n % 10) ∷ t))
  where
    pick : (b : Bool) → suc (suc (length t)) ≤ length (digits_before more (n / 10) ((48 + n % 10) ∷ t))
        → suc (length t) ≤ length (cond b ((48 + n) ∷ t) (digits_before more (n / 10) ((48 + n % 10) ∷ t)))
    pick true h = omega arith
    pick false h = omega (arith, h)

pub digits-few : (k more n : ℕ) (t : List ℕ) → n < power (suc k) → length (digits_before more n t) ≤ suc k + length t
digits-few k zero n t h = omega arith
digits-few zero (suc more) n t h = let l : n < 10 = h in rw (lt-ltb n 10 l) (omega arith)
digits-few (suc k) (suc more) n t h =
    let l : n < power (suc k) * 10 = h in pick (ltb n 10) (digits-few k more (n / 10) ((48 + n % 10) ∷ t) (omega arith))
  where
    pick : (b : Bool) → length (digits_before more (n / 10) ((48 + n % 10) ∷ t)) ≤ suc k + suc (length t)
        → length (cond b ((48 + n) ∷ t) (digits_before more (n / 10) ((48 + n % 10) ∷ t))) ≤ suc (suc k) + length t
    pick true h = omega arith
    pick false h = omega (arith, h)

pub decimal-some : (n : ℕ) → 1 ≤ length (decimal_of n)
decimal-some n = digits-some 19 n []

-- below a million, six at most
pub decimal-six : (n : ℕ) → n < 1000000 → length (decimal_of n) ≤ 6
decimal-six n h = digits-few 5 19 n [] h

-- ---- UNT with its count grown

pub grown-number : (n : Leaf) → number n 1 + 4 < 1000000 → number (grown n) 1 ≡ number n 1 + 4
grown-number n h = ap (value_from 0) (plains-content (decimal_of (number n 1 + 4))) ∙ decimal-value (number n 1 + 4) (omega (arith, h))

pub grown-0062 : (n : Leaf) → unt0062 (grown n) ≡ unt0062 n
grown-0062 [] = refl
grown-0062 (e ∷ n) = refl
