-- Texts and their values by computation: P10 of document 01, vectors of base 64, and the traps of the rulings.
use Rattle.std.specs.Prelude.{[], ◌∷◌, ◌≡◌, refl}
use Rattle.std.proofs.Math.Option.{none, some}
use Rattle.syntax.specs.Octets.{octets}
use Rattle.syntax.specs.declared.Version.TheVariants.{Two, Four}
use Rattle.filters.specs.Six.{six_text}
use Rattle.values.specs.Filters.{value_by}

-- "P10 value of P7 is 0F A0"
pub p10 : value_by Four (octets "2") (octets "0FA0") ≡ some (15 ∷ 160 ∷ [])
p10 = refl

pub lower-case : value_by Four (octets "2") (octets "0fA0") ≡ none
lower-case = refl

pub odd : value_by Four (octets "2") (octets "FA0") ≡ some (15 ∷ 160 ∷ [])
odd = refl

pub empty : value_by Four (octets "2") [] ≡ none
empty = refl

-- only `2` is code 2
pub unknown : value_by Four (octets "02") (octets "0FA0") ≡ none
unknown = refl

pub one : six_text (octets "f") ≡ octets "Zg=="
one = refl

pub two : six_text (octets "fo") ≡ octets "Zm8="
two = refl

pub six : six_text (octets "foobar") ≡ octets "Zm9vYmFy"
six = refl

pub read : value_by Four (octets "7") (octets "Zm8=") ≡ some (octets "fo")
read = refl

-- four pads stand for nothing, nor do three
pub pads : value_by Four (octets "7") (octets "====") ≡ none
pads = refl

pub three-pads : value_by Four (octets "7") (octets "A===") ≡ none
three-pads = refl

-- "padding only at the end"
pub inner-pad : value_by Four (octets "7") (octets "Zg==Zg==") ≡ none
inner-pad = refl

-- "spare bits zero"
pub spare : value_by Four (octets "7") (octets "Zm9=") ≡ none
spare = refl

-- by edition: "14 for code 7 in this edition", and code 6 in the others
pub six-early : value_by Two (octets "7") (octets "Zm8=") ≡ none
six-early = refl

pub edc-late : value_by Four (octets "6") (octets "A@") ≡ none
edc-late = refl

pub hex-early : value_by Two (octets "2") (octets "FA0") ≡ some (15 ∷ 160 ∷ [])
hex-early = refl
