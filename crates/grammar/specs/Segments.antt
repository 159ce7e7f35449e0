-- Segments by name, and what is read off their elements. A leaf of a tree is a segment's elements: its place says the tag.
use Rattle.std.specs.Prelude.{ℕ, zero, suc, Bool, true, false, cond, List, [], ◌∷◌, length}
use Rattle.syntax.specs.Opening.{earlier}
use Rattle.syntax.specs.declared.Version.{Version}
use Rattle.std.proofs.Math.Option.{Option, none, some}
use Rattle.std.proofs.Math.ListN.{get_elem?}
use Rattle.syntax.specs.Octets.{octets, same}
use Rattle.syntax.specs.Content.{compared, value_from}
use Rattle.syntax.specs.Tree.{Element, Segment, segment, component_of, content_of, count_of, repeats_of, any_repeats_in}

-- the segments that have a place of their own
pub data Name : Type 0 where
  Unb Unh Unt Unz Ush Usa Usc Usr Ust Usb Usx Usy : Name

-- a segment of a name; one that a body may not have; any other
pub data Kind : Type 0 where
  Named : Name → Kind
  Reserved Free : Kind

pub data Entry : Type 0 where
  entry : List ℕ → Kind → Entry

-- "Groups (UNG), packages (UNO), .. are no part of the base": they have no place.
-- "A body has 0 or more segments, none tagged UNA UNB UNG UNE UNH UNT UNZ UNO UNP USH USA USC USR UST USB USX USY USD USU."
abbrev pub tags : List Entry
tags =
    entry (octets "UNA") Reserved ∷ entry (octets "UNB") (Named Unb) ∷ entry (octets "UNG") Reserved ∷ entry (octets "UNE") Reserved
    ∷ entry (octets "UNH") (Named Unh) ∷ entry (octets "UNT") (Named Unt) ∷ entry (octets "UNZ") (Named Unz)
    ∷ entry (octets "UNO") Reserved ∷ entry (octets "UNP") Reserved
    ∷ entry (octets "USH") (Named Ush) ∷ entry (octets "USA") (Named Usa) ∷ entry (octets "USC") (Named Usc) ∷ entry (octets "USR") (Named Usr)
    ∷ entry (octets "UST") (Named Ust) ∷ entry (octets "USB") (Named Usb) ∷ entry (octets "USX") (Named Usx) ∷ entry (octets "USY") (Named Usy)
    ∷ entry (octets "USD") Reserved ∷ entry (octets "USU") Reserved ∷ []

abbrev pub kind_in : List Entry → List ℕ → Kind
kind_in [] t = Free
kind_in (entry u k ∷ r) t = cond (same t u) k (kind_in r t)

abbrev pub tag_text : Segment → List ℕ
tag_text (segment a b c es) = a ∷ b ∷ c ∷ []

abbrev pub elements_of : Segment → List Element
elements_of (segment a b c es) = es

abbrev pub segment_kind : Segment → Kind
segment_kind g = kind_in tags (tag_text g)

-- the tag of a name, and a segment so tagged
abbrev pub text_of : Name → List ℕ
text_of Unb = octets "UNB"
text_of Unh = octets "UNH"
text_of Unt = octets "UNT"
text_of Unz = octets "UNZ"
text_of Ush = octets "USH"
text_of Usa = octets "USA"
text_of Usc = octets "USC"
text_of Usr = octets "USR"
text_of Ust = octets "UST"
text_of Usb = octets "USB"
text_of Usx = octets "USX"
text_of Usy = octets "USY"

abbrev pub with_tag : List ℕ → List Element → Segment
with_tag [] es = segment 0 0 0 es
with_tag (a ∷ []) es = segment a 0 0 es
with_tag (a ∷ b ∷ []) es = segment a b 0 es
with_tag (a ∷ b ∷ c ∷ r) es = segment a b c es

abbrev pub seg : Name → List Element → Segment
seg n es = with_tag (text_of n) es

-- ---- what is read off: the content of component c (from 0) of the element at position p (from 1); absent is empty

abbrev pub element_at : List Element → ℕ → Option Element
element_at es zero = none
element_at es (suc p) = get_elem? es p

abbrev pub element_content : List Element → ℕ → ℕ → List ℕ
element_content es p c = content_of (component_of (element_at es p) c)

-- the number that an element's digits give
abbrev pub number : List Element → ℕ → ℕ
number es p = value_from 0 (element_content es p 0)

-- ---- elements by their numbers. A reference, 0020, 0062 or 0534, is given as it is compared; as it is written, for what is printed, it ends in `Text`

-- UNB
abbrev pub unb0001 : List Element → List ℕ
unb0001 es = element_content es 1 0

abbrev pub unb0002 : List Element → List ℕ
unb0002 es = element_content es 1 1

abbrev pub unb0020_text : List Element → List ℕ
unb0020_text es = element_content es 5 0

abbrev pub unb0020 : List Element → List ℕ
unb0020 es = compared (unb0020_text es)

-- UNH
abbrev pub unh0062_text : List Element → List ℕ
unh0062_text es = element_content es 1 0

abbrev pub unh0062 : List Element → List ℕ
unh0062 es = compared (unh0062_text es)

abbrev pub unh0065 : List Element → List ℕ
unh0065 es = element_content es 2 0

-- "UNH's association code"
abbrev pub unh0057 : List Element → List ℕ
unh0057 es = element_content es 2 4

-- UNT
abbrev pub unt0074 : List Element → ℕ
unt0074 es = number es 1

abbrev pub unt0062 : List Element → List ℕ
unt0062 es = compared (element_content es 2 0)

-- UNZ
abbrev pub unz0036 : List Element → ℕ
unz0036 es = number es 1

abbrev pub unz0020 : List Element → List ℕ
unz0020 es = compared (element_content es 2 0)

-- USH
abbrev pub ush0534_text : List Element → List ℕ
ush0534_text es = element_content es 2 0

abbrev pub ush0534 : List Element → List ℕ
ush0534 es = compared (ush0534_text es)

abbrev pub ush0541 : List Element → List ℕ
ush0541 es = element_content es 3 0

abbrev pub ush0505 : List Element → List ℕ
ush0505 es = element_content es 5 0

-- UST
abbrev pub ust0534 : List Element → List ℕ
ust0534 es = compared (element_content es 1 0)

abbrev pub ust0588 : List Element → List ℕ
ust0588 es = element_content es 2 0

-- USR, USX, USY
-- S508 in USR and USY: 0563 : 0560, and in the earlier edition "starting with 0560 .. with no qualifier before it"
abbrev pub value_part : Version → ℕ
value_part v = cond (earlier v) 0 1

abbrev pub usr0560 : Version → List Element → List ℕ
usr0560 v es = element_content es 1 (value_part v)

abbrev pub usx0020 : List Element → List ℕ
usx0020 es = compared (element_content es 1 0)

-- in the subset of GS1, "at the positions that 004's layout gives": 0020; S002; S003; 0048; S006; S007; 0062
abbrev pub usx0062_text : List Element → List ℕ
usx0062_text es = element_content es 7 0

abbrev pub usx0062 : List Element → List ℕ
usx0062 es = compared (usx0062_text es)

abbrev pub usy0534 : List Element → List ℕ
usy0534 es = compared (element_content es 1 0)

abbrev pub usy0560 : Version → List Element → List ℕ
usy0560 v es = element_content es 2 (value_part v)

-- ---- all that the rules on single segments ask of a segment: its tag, how many elements it has, and of the element at a position the content of a
-- component, how many components there are, and whether it repeats; and whether anything repeats

pub record Asked : Type 0 where
  pub tag : List ℕ
  pub size : ℕ
  pub text : ℕ → ℕ → List ℕ
  pub parts : ℕ → ℕ
  pub repeated : ℕ → Bool
  pub any_repeated : Bool

abbrev pub asked : Segment → Asked
asked g = record {
  tag = tag_text g;
  size = length (elements_of g);
  text = element_content (elements_of g);
  parts = λ p. count_of (element_at (elements_of g) p);
  repeated = λ p. repeats_of (element_at (elements_of g) p);
  any_repeated = any_repeats_in (elements_of g);
}
