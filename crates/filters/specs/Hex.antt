-- "Code 2: upper-case hex, even length, high half first." Item 9: "An odd length is now read as if one zero stood before it, for code 2 only; the
-- empty text stays refused. We still write even lengths, so a written value comes back unchanged."
use Rattle.std.specs.Prelude.{ℕ, ◌+◌, ◌-◌, ◌*◌, ◌/◌, ◌%◌, List, [], ◌∷◌, ◌++◌, cond, eqb, ltb, length, Option as Maybe, Some, None}
use Rattle.std.proofs.Math.Option.{Option, none, some}
use Rattle.syntax.specs.Octets.{octet, octets}
use Rattle.filters.specs.Octets.{before}

-- 0 to 9, then A to F: 55 is A less 10
abbrev pub hex_digit : ℕ → ℕ
hex_digit n = cond (ltb n 10) (n + octet "0") (n + 55)

-- "even length, high half first": the text that we write of octets
abbrev pub hex_text : List ℕ → List ℕ
hex_text [] = []
hex_text (x ∷ v) = hex_digit (x / 16) ∷ hex_digit (x % 16) ∷ hex_text v

-- the half octet that a character stands for; 16 where it is no digit. 58 comes behind 9
abbrev pub half_of : ℕ → ℕ
half_of c = cond (ltb (octet "F") c) 16 (cond (ltb c (octet "0")) 16 (cond (ltb c 58) (c - octet "0") (cond (ltb c (octet "A")) 16 (c - 55))))

-- none where the character is no digit
abbrev pub half_in : ℕ → Maybe ℕ
half_in c = cond (ltb (half_of c) 16) (Some (half_of c)) None

abbrev pub pair_of : ℕ → ℕ → Option (List ℕ) → Option (List ℕ)
pair_of a b v = cond (ltb a 16) (cond (ltb b 16) (before ((a * 16 + b) ∷ []) v) none) none

-- two characters an octet: the octets that a text of even length stands for
abbrev pub hex_pairs : List ℕ → Option (List ℕ)
hex_pairs [] = some []
hex_pairs (a ∷ []) = none
hex_pairs (a ∷ b ∷ t) = pair_of (half_of a) (half_of b) (hex_pairs t)

-- "An odd length is now read as if one zero stood before it": the octets that any text stands for
abbrev pub hex_value : List ℕ → Option (List ℕ)
hex_value t = cond (eqb (length t % 2) 0) (hex_pairs t) (hex_pairs (octets "0" ++ t))
