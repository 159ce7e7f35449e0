-- "Numbers given back": a refusal as a call gives it back.
use Rattle.std.specs.Prelude.{ℕ, List}
use Rattle.syntax.specs.Ordinal.{ordinal_of}
use Rattle.syntax.specs.declared.Refusal.{Refusal}

-- "Each refusal of 1 to 12 shall carry, beside number and place, the ordinal of the segment at the place": of the interchange s
abbrev pub refusal_at : List ℕ → ℕ → ℕ → Refusal
refusal_at s n p = record { number = n; place = p; segment = ordinal_of s p }

-- 13 and up, which the calls add: the place is 0, and no segment is at it
abbrev pub at_zero : ℕ → Refusal
at_zero n = record { number = n; place = 0; segment = 0 }
