-- A number in decimal, without leading zeros.
use Rattle.std.specs.Prelude.{ℕ, zero, suc, ◌+◌, ◌/◌, ◌%◌, ◌<◌, List, [], ◌∷◌, cond, ◌≡◌, refl, ltb, length, drop}
use Rattle.syntax.specs.Octets.{octet, octets}

-- the digits of n, and after them those of t; at most `more` digits before the last one
abbrev pub digits_before : ℕ → ℕ → List ℕ → List ℕ
digits_before zero n t = (octet "0" + n) ∷ t
digits_before (suc more) n t = cond (ltb n 10) ((octet "0" + n) ∷ t) (digits_before more (n / 10) ((octet "0" + n % 10) ∷ t))

-- 20 digits are enough for a number below 2 to the 64
abbrev pub decimal_of : ℕ → List ℕ
decimal_of n = digits_before 19 n []

-- in a buffer of 20 octets, the digits of n from r on
pub record Filled (n r : ℕ) (digits : List ℕ) : Type 0 where
  pub sized : length digits ≡ 20
  pub place : r < 20
  pub holds : drop r digits ≡ decimal_of n

pub decimal-zero : decimal_of 0 ≡ octets "0"
decimal-zero = refl

pub decimal-grams : decimal_of 57340000 ≡ octets "57340000"
decimal-grams = refl

pub decimal-most : decimal_of 18446744073709551615 ≡ octets "18446744073709551615"
decimal-most = refl
