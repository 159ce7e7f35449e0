-- "The amount is in grams.": what a load, a control total and a message's total are. "Totals become signed": whole numbers, below zero too.
use Rattle.std.specs.Prelude.{ℕ, suc, Bool, true, false, eqb, ℤ, pos, negsuc, neg_ℤ, ◌+ℤ◌}
use Rattle.grammar.specs.Lists.{Snoc, nil, ◌▷◌}

abbrev pub Grams : Type 0
Grams = ℤ

abbrev pub no_grams : Grams
no_grams = pos 0

abbrev pub add_grams : Grams → Grams → Grams
add_grams a b = a +ℤ b

abbrev pub same_grams : Grams → Grams → Bool
same_grams (pos a) (pos b) = eqb a b
same_grams (pos a) (negsuc b) = false
same_grams (negsuc a) (pos b) = false
same_grams (negsuc a) (negsuc b) = eqb a b

-- so many grams, behind a minus or not; "Minus zero is zero."
abbrev pub signed : Bool → ℕ → Grams
signed true n = neg_ℤ (pos n)
signed false n = pos n

-- "the report prints the sign": whether it is below zero, and how many grams it is without its sign
abbrev pub below : Grams → Bool
below (pos n) = false
below (negsuc n) = true

abbrev pub magnitude : Grams → ℕ
magnitude (pos n) = n
magnitude (negsuc n) = suc n

-- "the exact sum in whole grams"
abbrev pub sum : Snoc Grams → Grams
sum nil = no_grams
sum (s ▷ n) = add_grams (sum s) n
