-- Loads and control totals: "The amount is in grams."
use Rattle.std.specs.Prelude.{ℕ, zero, suc, ◌+◌, ◌*◌, ◌-◌, Bool, true, false, cond, ◌&&◌, ◌||◌, List, [], ◌∷◌, eqb, length}
use Rattle.std.proofs.Math.Option.{Option, none, some}
use Rattle.syntax.specs.Octets.{octet, octets, same, within}
use Rattle.syntax.specs.Content.{all_digits, value_from}
use Rattle.syntax.specs.Tree.{Segment}
use Rattle.grammar.specs.Lists.{Snoc, nil, ◌▷◌}
use Rattle.grammar.specs.Grams.{Grams, signed}
use Rattle.grammar.specs.Segments.{Asked, asked}

-- ---- amounts: "one leading minus before the digits", digits, optionally a mark and digits; "comma and full stop both serve"

-- whether a minus leads
abbrev pub reversed : List ℕ → Bool
reversed [] = false
reversed (b ∷ s) = eqb b (octet "-")

-- what stands behind the minus, or all where there is none
abbrev pub unsigned : List ℕ → List ℕ
unsigned [] = []
unsigned (b ∷ s) = cond (eqb b (octet "-")) s (b ∷ s)

abbrev pub mark : ℕ → Bool
mark b = eqb b (octet ",") || eqb b (octet ".")

abbrev pub before : List ℕ → List ℕ
before [] = []
before (b ∷ s) = let r : List ℕ = before s in cond (mark b) [] (b ∷ r)

abbrev pub behind : List ℕ → Option (List ℕ)
behind [] = none
behind (b ∷ s) = cond (mark b) (some s) (behind s)

-- 1 to n digits
abbrev pub digits : ℕ → List ℕ → Bool
digits n s = all_digits s && within 1 n (length s)

abbrev pub tens : ℕ → ℕ
tens zero = 1
tens (suc n) = 10 * tens n

-- how many digits may stand before and behind the mark; the last behind it is grams
pub data Shape : Type 0 where
  shape : ℕ → ℕ → Shape

abbrev pub fraction_right : ℕ → Option (List ℕ) → Bool
fraction_right n none = true
fraction_right n (some f) = digits n f

abbrev pub weight_right : Shape → List ℕ → Bool
weight_right (shape w d) s = digits w (before s) && fraction_right d (behind s)

-- with a minus or without: nothing else may lead, and no second one
abbrev pub amount_right : Shape → List ℕ → Bool
amount_right u s = weight_right u (unsigned s)

abbrev pub fraction : ℕ → Option (List ℕ) → ℕ
fraction d none = 0
fraction d (some f) = value_from 0 f * tens (d - length f)

-- the digits before the mark, and those behind it, as whole grams: never through a float
abbrev pub weight : Shape → List ℕ → ℕ
weight (shape w d) s = value_from 0 (before s) * tens d + fraction d (behind s)

-- "A truck that tips back gets a second ticket with a minus sign."
abbrev pub grams : Shape → List ℕ → Grams
grams u s = signed (reversed s) (weight u (unsigned s))

-- the shape that a unit gives
abbrev pub unit : List ℕ → Shape → Shape → Option Shape
unit u kgm tne = cond (same u (octets "KGM")) (some kgm) (cond (same u (octets "TNE")) (some tne) none)

-- "KGM: 1 to 9 digits, optionally a mark and 1 to 3 digits. TNE: 1 to 6 digits, optionally a mark and 1 to 6 digits."
abbrev pub load_unit : List ℕ → Option Shape
load_unit u = unit u (shape 9 3) (shape 6 6)

-- CNT: "unit KGM (1 to 12 digits, optionally a mark and 1 to 3) or TNE (1 to 9, optionally a mark and 1 to 6)"
abbrev pub control_unit : List ℕ → Option Shape
control_unit u = unit u (shape 12 3) (shape 9 6)

-- ---- the three components that QTY and CNT have: a qualifier, an amount, a unit

abbrev pub qualifier : Asked → List ℕ
qualifier a = a.text 1 0

abbrev pub amount : Asked → List ℕ
amount a = a.text 1 1

abbrev pub unit_of : Asked → List ℕ
unit_of a = a.text 1 2

-- ---- "QTY whose one element has three components, the third KGM or TNE, is a load."

abbrev pub three_part : Asked → Bool
three_part a = eqb a.size 1 && eqb (a.parts 1) 3

-- "Any other QTY isn't a load"
abbrev pub load_shape : Asked → Option Shape
load_shape a = cond (same a.tag (octets "QTY") && three_part a) (load_unit (unit_of a)) none

abbrev pub load_by : Option Shape → List ℕ → Option Grams
load_by none s = none
load_by (some u) s = some (grams u s)

-- the grams of a segment that is a load
abbrev pub load_in : Asked → Option Grams
load_in a = load_by (load_shape a) (amount a)

abbrev pub right_by : Option Shape → List ℕ → Bool
right_by none s = true
right_by (some u) s = amount_right u s

-- a load is written right
abbrev pub load_right : Asked → Bool
load_right a = right_by (load_shape a) (amount a)

-- ---- "CNT with qualifier 1 has one element of exactly three components .., else it is malformed (8); it equals the message's load total."

abbrev pub is_control : Asked → Bool
is_control a = same a.tag (octets "CNT") && same (qualifier a) (octets "1")

abbrev pub control_by : Option Shape → List ℕ → Bool
control_by none s = false
control_by (some u) s = amount_right u s

abbrev pub control_written : Asked → Bool
control_written a = three_part a && control_by (control_unit (unit_of a)) (amount a)

abbrev pub control_right : Asked → Bool
control_right a = cond (is_control a) (control_written a) true

abbrev pub control_in : Asked → Option Grams
control_in a = cond (is_control a) (load_by (control_unit (unit_of a)) (amount a)) none

-- ---- of a body, in order

abbrev pub put : Snoc Grams → Option Grams → Snoc Grams
put s none = s
put s (some n) = s ▷ n

abbrev pub loads : Snoc Segment → Snoc Grams
loads nil = nil
loads (b ▷ g) = put (loads b) (load_in (asked g))

abbrev pub controls : Snoc Segment → Snoc Grams
controls nil = nil
controls (b ▷ g) = put (controls b) (control_in (asked g))
