-- The old sum, "just as it ran: kilograms in single precision, in file order, one rounding for each addition". All of it over whole numbers.
use Rattle.std.specs.Prelude.{ℕ, suc, ◌+◌, ◌*◌, ◌/◌, ◌%◌, true, false, cond, ◌&&◌, List, [], ◌∷◌, pos, ◌==◌, from_bits, nat_le, nat_lt, to_bits, Float}
use Rattle.std.proofs.Math.Option.{Option, none, some}
use Rattle.std.specs.Float.{nan, inf, fin, binary32}
use Rattle.std.specs.Float.Ieee.{up, down, of_int}

-- ---- one rounding

-- "a whole number from 0 to 1,073,741,824"
abbrev pub limit : ℕ
limit = 1073741824

-- how far apart the values of single precision lie where t lies: it has 24 binary digits, and so every whole number up to 2 ^ 24, from there to 2 ^ 25
-- every second one, and so on
abbrev pub step_at : ℕ → ℕ
step_at t =
    cond (nat_lt t 16777216) 1 (cond (nat_lt t 33554432) 2 (cond (nat_lt t 67108864) 4 (cond (nat_lt t 134217728) 8 (cond (nat_lt t 268435456) 16 (cond (nat_lt t 536870912) 32 64)))))

-- how often u goes into the multiple of u that is nearest to t; of two that are equally near, the even one
abbrev pub times_nearest : ℕ → ℕ → ℕ
times_nearest u t = cond (nat_lt (t % u * 2) u) (t / u) (cond (nat_lt u (t % u * 2)) (suc (t / u)) (t / u + t / u % 2))

-- the value of single precision that is nearest to a whole number t up to the limit
abbrev pub rounded : ℕ → ℕ
rounded t = times_nearest (step_at t) t * step_at t

-- ---- the sum

-- "Loads are whole kilograms from 0 to 100,000.": the kilograms of so many grams; none for "any other load"
abbrev pub kilograms_in : ℕ → Option ℕ
kilograms_in g = cond (g % 1000 == 0 && nat_le g 100000000) (some (g / 1000)) none

-- the old sum after some loads, how many they were and their exact kilograms; or the number of a refusal
pub data Old : Type 0 where
  tally : ℕ → ℕ → ℕ → Old
  refused : ℕ → Old

-- one load more: "23 for any other load, 24 where a running sum passes the limit before rounding"
abbrev pub added : Old → Option ℕ → Old
added (refused n) x = refused n
added (tally v n e) none = refused 23
added (tally v n e) (some x) = cond (nat_lt limit (v + x)) (refused 24) (tally (rounded (v + x)) (suc n) (e + x))

-- "by load in order"
abbrev pub added_all : Old → List (Option ℕ) → Old
added_all k [] = k
added_all k (x ∷ l) = added_all (added k x) l

-- ---- as single precision has it

-- a whole number
abbrev pub single : ℕ → Float
single v = of_int binary32 (pos v)

-- "each call takes the sum the last file left". "24 for any other sum handed in, minus zero too": another than a whole number up to the limit. A finite
-- float is a sign, a whole number m and an exponent e, and its value is m * up e / down e
abbrev pub handed_in : Float → Old
handed_in nan = refused 24
handed_in (inf s) = refused 24
handed_in (fin true m e) = refused 24
handed_in (fin false m e) = cond (m * up e % down e == 0 && nat_le (m * up e / down e) limit) (tally (m * up e / down e) 0 0) (refused 24)

-- the same by its 32 bits, and the bits of the sum that is handed on
abbrev pub handed_bits : ℕ → Old
handed_bits b = handed_in (from_bits binary32 b)

abbrev pub bits_of : ℕ → ℕ
bits_of v = to_bits binary32 (single v)
