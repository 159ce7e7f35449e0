-- How the code keeps a sum of signed grams: what was loaded and what was tipped back, each without its sign, and at the end how far the two are apart.
use Rattle.std.specs.Prelude.{ℕ, suc, ◌+◌, ◌-◌, cond, ltb, pos, negsuc}
use Rattle.grammar.specs.Lists.{Snoc, nil, ◌▷◌}
use Rattle.grammar.specs.Grams.{Grams}

abbrev pub loaded_by : Grams → ℕ
loaded_by (pos n) = n
loaded_by (negsuc n) = 0

abbrev pub tipped_by : Grams → ℕ
tipped_by (pos n) = 0
tipped_by (negsuc n) = suc n

abbrev pub forward : Snoc Grams → ℕ
forward nil = 0
forward (s ▷ z) = forward s + loaded_by z

abbrev pub back : Snoc Grams → ℕ
back nil = 0
back (s ▷ z) = back s + tipped_by z

abbrev pub apart : ℕ → ℕ → ℕ
apart a b = cond (ltb a b) (b - a) (a - b)
