-- Amounts in the code's words, and what the loops over their digits have still to say.
use Rattle.elements.specs.declared.amounts.Form.{Form}
use Rattle.std.specs.Prelude.{ℕ, ◌+◌, ◌*◌, ◌-◌, List, Bool, true, false, ◌&&◌, ◌≡◌, ltb, length, Option, Some, None}
use Rattle.std.proofs.Math.Option.{Option as Maybe, none, some}
use Rattle.syntax.specs.Octets.{within}
use Rattle.syntax.specs.Content.{all_digits, value_from}
use Rattle.grammar.specs.Grams as signed
use Rattle.grammar.specs.Loads.{Shape, shape, reversed, unsigned, before, behind, digits, tens, fraction_right, fraction}

abbrev pub weight_is : Bool → ℕ → Option ℕ
weight_is true n = Some n
weight_is false n = None

abbrev pub amount_is : Bool → signed.Grams → Option (ℕ × Bool)
amount_is true z = Some (signed.magnitude z, signed.below z)
amount_is false z = None

-- the content c goes on as s behind its minus, at a place r that is not the first; as c itself at 0 where no minus leads
pub record Unsigned (c : List ℕ) (r : ℕ) (s : List ℕ) : Type 0 where
  pub rest : s ≡ unsigned c
  pub minus : ltb 0 r ≡ reversed c

abbrev pub unit_is : Maybe Shape → Option Form
unit_is none = None
unit_is (some (shape w d)) = Some (record { whole = w; decimals = d })

-- 1 to w digits, n of them before s
abbrev pub digits_from : ℕ → ℕ → List ℕ → Bool
digits_from w n s = all_digits s && within 1 w (length s + n)

-- before the mark: n digits give v, and s follows
abbrev pub weight_from : ℕ → ℕ → ℕ → ℕ → List ℕ → Option ℕ
weight_from w d n v s = weight_is (digits_from w n (before s) && fraction_right d (behind s)) (value_from v (before s) * tens d + fraction d (behind s))

-- behind the mark: v before it, s behind it
abbrev pub fraction_of : ℕ → ℕ → List ℕ → Option ℕ
fraction_of v d s = weight_is (digits d s) (v * tens d + value_from 0 s * tens (d - length s))

-- n digits behind the mark, and those before it, give g, and s follows
abbrev pub fraction_from : ℕ → ℕ → ℕ → List ℕ → Option ℕ
fraction_from d n g s = weight_is (digits_from d n s) (value_from g s * tens (d - (length s + n)))
