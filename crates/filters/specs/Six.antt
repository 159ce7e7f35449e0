-- "Code 7: base 64 of RFC 1521, length a multiple of 4, padding only at the end, spare bits zero."
-- So `====` and `A===` are bad, and so is a line break.
use Rattle.std.specs.Prelude.{ℕ, ◌+◌, ◌-◌, ◌*◌, ◌/◌, ◌%◌, List, [], ◌∷◌, Bool, true, cond, ltb, eqb, length, Option as Maybe, Some, None}
use Rattle.std.proofs.Math.Option.{Option, none, some}
use Rattle.syntax.specs.Octets.{octet}
use Rattle.filters.specs.Octets.{before}

-- A to Z, a to z, 0 to 9, then + and /: 71 is a less 26, and 4 is 52 less 0
abbrev pub six_digit : ℕ → ℕ
six_digit n = cond (ltb n 26) (n + octet "A") (cond (ltb n 52) (n + 71) (cond (ltb n 62) (n - 4) (cond (eqb n 62) (octet "+") (octet "/"))))

-- three octets are four digits of six bits, highest first; at the end the bits that are left, spare ones zero, and the pad =
abbrev pub six_text : List ℕ → List ℕ
six_text [] = []
six_text (x ∷ []) = six_digit (x / 4) ∷ six_digit (x % 4 * 16) ∷ octet "=" ∷ octet "=" ∷ []
six_text (x ∷ y ∷ []) = six_digit (x / 4) ∷ six_digit (x % 4 * 16 + y / 16) ∷ six_digit (y % 16 * 4) ∷ octet "=" ∷ []
six_text (x ∷ y ∷ z ∷ v) = six_digit (x / 4) ∷ six_digit (x % 4 * 16 + y / 16) ∷ six_digit (y % 16 * 4 + z / 64) ∷ six_digit (z % 64) ∷ six_text v

-- the six bits that a character stands for; 64 where it is no digit, 65 where it is the pad. 96 comes before a, 64 before A, 47, which is /, before 0
abbrev pub bits_of : ℕ → ℕ
bits_of c =
    cond (ltb (octet "z") c) 64 (cond (ltb 96 c) (c - 71) (cond (ltb (octet "Z") c) 64 (cond (ltb 64 c) (c - octet "A") (cond (eqb c (octet "=")) 65
    (cond (ltb (octet "9") c) 64 (cond (ltb 47 c) (c + 4) (cond (eqb c (octet "/")) 63 (cond (eqb c (octet "+")) 62 64))))))))

-- none where the character is no digit
abbrev pub bits_in : ℕ → Maybe ℕ
bits_in c = cond (ltb (bits_of c) 64) (Some (bits_of c)) None

-- how many octets four characters stand for by their bits, 0 where for none: no pad; one pad, two spare bits; two pads, four spare bits
abbrev pub size_of : ℕ → ℕ → ℕ → ℕ → ℕ
size_of p q r s =
    cond (ltb 63 p) 0 (cond (ltb 63 q) 0
    (cond (ltb r 64) (cond (ltb s 64) 3 (cond (eqb s 65) (cond (eqb (r % 4) 0) 2 0) 0))
    (cond (eqb r 65) (cond (eqb s 65) (cond (eqb (q % 16) 0) 1 0) 0) 0)))

-- the octets in 24 bits
abbrev pub first_of : ℕ → ℕ → ℕ
first_of p q = p * 4 + q / 16

abbrev pub second_of : ℕ → ℕ → ℕ
second_of q r = q % 16 * 16 + r / 4

abbrev pub third_of : ℕ → ℕ → ℕ
third_of r s = r % 4 * 64 + s

-- "padding only at the end"
abbrev pub last_group : ℕ → Bool → ℕ → ℕ → ℕ → Option (List ℕ)
last_group k last p q r =
    cond last (cond (eqb k 2) (some (first_of p q ∷ second_of q r ∷ [])) (cond (eqb k 1) (some (first_of p q ∷ [])) none)) none

abbrev pub group_of : ℕ → Bool → ℕ → ℕ → ℕ → ℕ → Option (List ℕ) → Option (List ℕ)
group_of k last p q r s v = cond (eqb k 3) (before (first_of p q ∷ second_of q r ∷ third_of r s ∷ []) v) (last_group k last p q r)

-- the octets of a group whose last character is a pad, and that ends the text
abbrev pub padded : ℕ → ℕ → ℕ → Option (List ℕ)
padded p q r = last_group (size_of p q r 65) true p q r

-- "length a multiple of 4": the octets that a text stands for
abbrev pub six_value : List ℕ → Option (List ℕ)
six_value [] = some []
six_value (a ∷ []) = none
six_value (a ∷ b ∷ []) = none
six_value (a ∷ b ∷ c ∷ []) = none
six_value (a ∷ b ∷ c ∷ d ∷ t) =
    group_of (size_of (bits_of a) (bits_of b) (bits_of c) (bits_of d)) (eqb (length t) 0) (bits_of a) (bits_of b) (bits_of c) (bits_of d) (six_value t)
