-- The repertoires.
use Rattle.std.specs.Prelude.{ℕ, ◌<◌, Bool, false, cond, not, ◌||◌, eqb}
use Rattle.syntax.specs.Octets.{octet, octets, within, digit, capital, small, one_of}
use Rattle.syntax.specs.Service.{serves}
use Rattle.syntax.specs.declared.Service.{Service}
use Rattle.syntax.specs.declared.Syntax.{Syntax}
use Rattle.syntax.specs.declared.Level.{Level}
use Rattle.syntax.specs.declared.Level.TheVariants.{A, B, C, D}

-- "A tag is three octets A to Z or 0 to 9, .."
abbrev pub tag_octet : ℕ → Bool
tag_octet b = digit b || capital b

-- "UNOA: A to Z, 0 to 9, space and `. , - ( ) / = ' + : ? ! " % & * ; < >`."
abbrev pub inside_a : ℕ → Bool
inside_a b = capital b || digit b || eqb b (octet " ") || one_of (octets ".,-()/='+:?!\"%&*;<>") b

abbrev pub inside_c : ℕ → Bool
inside_c b = within 32 126 b || within 160 255 b

-- "UNOB adds a to z. UNOC: 0x20 to 0x7E and 0xA0 to 0xFF." "UNOD (octets as for UNOC)"
unfoldable pub inside : Level → ℕ → Bool
inside A b = inside_a b
inside B b = inside_a b || small b
inside C b = inside_c b
inside D b = inside_c b

-- "Service characters in force are always inside."
abbrev pub outside : Syntax → ℕ → Bool
outside y b = cond (serves y.service b) false (not (inside y.level b))
