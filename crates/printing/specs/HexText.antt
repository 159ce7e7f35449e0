-- Octets in lower-case hex: two digits for each.
use Rattle.std.specs.Prelude.{ℕ, ◌/◌, ◌%◌, false, List, [], ◌∷◌, ◌++◌}
use Rattle.std.specs.Fmt.{digits}

abbrev pub hex_text : List ℕ → List ℕ
hex_text [] = []
hex_text (b ∷ bs) = digits 16 false (b / 16) ++ (digits 16 false (b % 16) ++ hex_text bs)
