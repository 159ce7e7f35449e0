-- Service characters, and what an octet is under them.
-- `Service` is the code's struct: component, element, release, repetition, terminator.
use Rattle.std.specs.Prelude.{ℕ, Bool, true, false, cond, not, ◌&&◌, ◌||◌, eqb}
use Rattle.syntax.specs.Octets.{octet, within, digit, capital, small}
use Rattle.syntax.specs.declared.Service.{Service}

-- "Without UNA: `:` `+` `?` `*` `'` in version 4"
abbrev pub standard : Service
standard = record { component = octet ":"; element = octet "+"; release = octet "?"; repetition = octet "*"; terminator = octet "'" }

-- "in version 3 no repetition"; a space is not in force
abbrev pub without_repetition : Service → Service
without_repetition σ =
    record { component = σ.component; element = σ.element; release = σ.release; repetition = octet " "; terminator = σ.terminator }

-- "a printable octet 0x21 to 0x7E, no letter or digit"
abbrev pub servant : ℕ → Bool
servant b = within 33 126 b && not (digit b) && not (capital b) && not (small b)

-- "those in force differ". The first three are no spaces, so a release that is a space equals none of them
abbrev pub repetition_differs : Service → Bool
repetition_differs σ =
    not (eqb σ.repetition σ.release) && not (eqb σ.repetition σ.terminator)
    && not (eqb σ.repetition σ.element) && not (eqb σ.repetition σ.component)

abbrev pub differ : Service → Bool
differ σ =
    not (eqb σ.terminator σ.release) && not (eqb σ.element σ.release) && not (eqb σ.element σ.terminator)
    && not (eqb σ.component σ.release) && not (eqb σ.component σ.terminator) && not (eqb σ.component σ.element)
    && cond (eqb σ.repetition (octet " ")) true (repetition_differs σ)

-- "Each of these except the decimal mark is a printable octet .., and those in force differ;
-- release and repetition may instead be a space, meaning not in force."
abbrev pub fit : Service → Bool
fit σ =
    servant σ.component && servant σ.element && cond (eqb σ.release (octet " ")) true (servant σ.release)
    && cond (eqb σ.repetition (octet " ")) true (servant σ.repetition) && servant σ.terminator && differ σ

-- what an octet is that is not released: 0 a release, 1 data, and what ends 2 a component, 3 a repeat, 4 an element, 5 the segment
abbrev pub kind_of : Service → ℕ → ℕ
kind_of σ b =
    cond (eqb b (octet " ")) 1
    (cond (eqb b σ.release) 0
    (cond (eqb b σ.terminator) 5
    (cond (eqb b σ.element) 4
    (cond (eqb b σ.component) 2
    (cond (eqb b σ.repetition) 3 1)))))

-- "A release makes the next octet data": `f` says that the octet before is a release that is not itself released
abbrev pub kind : Service → Bool → ℕ → ℕ
kind σ f b = cond f 1 (kind_of σ b)

-- a service character in force
abbrev pub serves : Service → ℕ → Bool
serves σ b = not (eqb (kind_of σ b) 1)
