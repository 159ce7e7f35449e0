-- The grammar of segments, without a reader: trees, and how they are printed.
use Rattle.std.specs.Prelude.{ℕ, List, [], ◌∷◌, ◌++◌, Bool, true, false, cond, not, ◌&&◌, eqb, length, Option, Some}
use Rattle.std.proofs.Math.Option.{Option as Maybe, none, some}
use Rattle.std.proofs.Math.ListN.{get_elem?}
use Rattle.syntax.specs.Octets.{octet, all_pass}
use Rattle.syntax.specs.Service.{serves}
use Rattle.syntax.specs.Repertoire.{tag_octet}
use Rattle.syntax.specs.declared.Service.{Service}

-- a data octet: as it stands, or freed by a release before it
pub data Octet : Type 0 where
  plain : ℕ → Octet
  freed : ℕ → Octet

-- at least one
pub data Ne (A : Type 0) : Type 0 where
  ne : A → List A → Ne A

-- a component is a list of data octets, a repeat at least one component, an element at least one repeat
abbrev pub Component : Type 0
Component = List Octet

abbrev pub Repeat : Type 0
Repeat = Ne Component

abbrev pub Element : Type 0
Element = Ne Repeat

-- a segment is a tag of three octets and a list of elements
pub data Segment : Type 0 where
  segment : ℕ → ℕ → ℕ → List Element → Segment

-- what is printed: a data octet, or what ends a component, a repeat, an element, the segment
pub data Symbol : Type 0 where
  tok : Octet → Symbol
  comp rep elem term : Symbol

module _ {A : Type 0} (sep : Symbol) (flat : A → List Symbol) where
  -- each with the separator before it
  abbrev pub each : List A → List Symbol
  each [] = []
  each (a ∷ r) = sep ∷ (flat a ++ each r)

  -- at least one, with the separator between them
  abbrev pub separated : Ne A → List Symbol
  separated (ne a r) = flat a ++ each r

-- what is printed of a part of the tree. The last letter of a name says of which: C a component, R a repeat, E an element, S a segment
abbrev pub flat_c : Component → List Symbol
flat_c [] = []
flat_c (t ∷ ts) = tok t ∷ flat_c ts

abbrev pub flat_r : Repeat → List Symbol
flat_r = separated comp flat_c

abbrev pub flat_e : Element → List Symbol
flat_e = separated rep flat_r

-- the tag stands where an element would: one component, once
abbrev pub tag_element : ℕ → ℕ → ℕ → Element
tag_element a b c = ne (ne (plain a ∷ plain b ∷ plain c ∷ []) []) []

abbrev pub flat_s : Segment → List Symbol
flat_s (segment a b c es) = separated elem flat_e (ne (tag_element a b c) es) ++ term ∷ []

-- one behind the other: "Nothing may stand between segments or after UNZ, line ends included."
abbrev pub flat : List Segment → List Symbol
flat [] = []
flat (g ∷ gs) = flat_s g ++ flat gs

-- a symbol in octets, under the service characters
abbrev pub spell : Service → Symbol → List ℕ
spell σ (tok (plain b)) = b ∷ []
spell σ (tok (freed b)) = σ.release ∷ b ∷ []
spell σ comp = σ.component ∷ []
spell σ rep = σ.repetition ∷ []
spell σ elem = σ.element ∷ []
spell σ term = σ.terminator ∷ []

abbrev pub spells : Service → List Symbol → List ℕ
spells σ [] = []
spells σ (y ∷ ys) = spell σ y ++ spells σ ys

-- the printing of a segment, and of a list of segments
abbrev pub print_s : Service → Segment → List ℕ
print_s σ g = spells σ (flat_s g)

abbrev pub print : Service → List Segment → List ℕ
print σ gs = spells σ (flat gs)

-- the content of a component: "A release .. drops out of the content."
abbrev pub octet_in : Octet → ℕ
octet_in (plain b) = b
octet_in (freed b) = b

abbrev pub content_in : Component → List ℕ
content_in [] = []
content_in (t ∷ ts) = octet_in t ∷ content_in ts

-- well-formed: what stands as it is serves for nothing, and a release or a repetition is printed only where it is in force
abbrev pub ok : Service → Symbol → Bool
ok σ (tok (plain b)) = not (serves σ b)
ok σ (tok (freed b)) = not (eqb σ.release (octet " "))
ok σ comp = true
ok σ rep = not (eqb σ.repetition (octet " "))
ok σ elem = true
ok σ term = true

-- and the tag is A to Z or 0 to 9
abbrev pub ok_tag : Segment → Bool
ok_tag (segment a b c es) = tag_octet a && tag_octet b && tag_octet c

abbrev pub well : Service → List Segment → Bool
well σ gs = all_pass ok_tag gs && all_pass (ok σ) (flat gs)

-- ---- what a tree has, asked as the code asks octets: elements and components are counted from 0, the tag is element 0

abbrev pub elements_in : Segment → List Element
elements_in (segment a b c es) = tag_element a b c ∷ es

abbrev pub first_repeat : Element → Repeat
first_repeat (ne r rs) = r

abbrev pub components_in : Repeat → List Component
components_in (ne c cs) = c ∷ cs

abbrev pub repeats_in : Element → Bool
repeats_in (ne r []) = false
repeats_in (ne r (q ∷ rs)) = true

-- component c of element e: is it there, and which is it
abbrev pub component_of : Maybe Element → ℕ → Maybe Component
component_of none c = none
component_of (some x) c = get_elem? (components_in (first_repeat x)) c

abbrev pub component_in : Segment → ℕ → ℕ → Maybe Component
component_in g e c = component_of (get_elem? (elements_in g) e) c

abbrev pub tag_in : Segment → Option (ℕ × ℕ × ℕ)
tag_in (segment a b c es) = Some (a, b, c)

-- its content; absent is empty
abbrev pub content_of : Maybe Component → List ℕ
content_of none = []
content_of (some c) = content_in c

-- how many elements, how many components has element e, does it repeat, does anything repeat
abbrev pub count_elements : Segment → ℕ
count_elements (segment a b c es) = length es

abbrev pub count_of : Maybe Element → ℕ
count_of none = 0
count_of (some x) = length (components_in (first_repeat x))

abbrev pub repeats_of : Maybe Element → Bool
repeats_of none = false
repeats_of (some x) = repeats_in x

abbrev pub any_repeats_in : List Element → Bool
any_repeats_in [] = false
any_repeats_in (x ∷ es) = cond (repeats_in x) true (any_repeats_in es)
