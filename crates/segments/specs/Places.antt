-- How the place of a piece in its segment is printed: `2.1`, or `2*3.1` where its element repeats.
use Rattle.std.specs.Prelude.{ℕ, List, [], ◌++◌, nat_lt, if◌then◌else◌, codes, decimal}
use Rattle.segments.specs.declared.Place.{Place}

abbrev pub repetition_text : ℕ → List ℕ
repetition_text r = if nat_lt 1 r then codes "*" ++ decimal r else []

abbrev pub place_text : Place → List ℕ
place_text p = decimal p.element ++ (repetition_text p.repetition ++ (codes "." ++ decimal p.component))
